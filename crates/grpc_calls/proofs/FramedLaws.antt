-- Messages that are framed one after the other.
use Rattle.std.proofs.Common.{◌≡◌, ℕ, ◌+◌, ◌^◌, ◌<◌, ◌≤◌, List, [], ◌∷◌, ◌++◌, length, arith, refl, sym, ap, subst, ◌∙◌, append_assoc, append-nil, inl, inr}
use Rattle.std.specs.Prelude.{Ok, Some, None, All, map}
use Rattle.std.specs.List.{flat_map}
use Rattle.std.specs.Int.{w32, to_be_bytes}
use Rattle.std.proofs.lemmas.Bool.{cases_lt}
use Rattle.std.proofs.lemmas.List.Elements.{All-head, All-tail}
use Rattle.std.proofs.lemmas.Nat.{from_be_bytes-to_be_bytes_4}
use Rattle.grpc_calls.specs.declared.event.CallEvent.{CallEvent}
use Rattle.grpc_calls.specs.declared.event.CallEvent.TheVariants as events
use Rattle.grpc_calls.specs.declared.call.Reading.TheVariants as readings
use Rattle.grpc_calls.specs.Prefix.{max_message, size_in, IsPart}
use Rattle.grpc_calls.specs.Framing.{framed, front, front_behind, Taken, keeps, behind_events, after_byte, taken}
use Rattle.grpc_calls.proofs.MessageLaws.{taken_append, grown, grows_empty, grows_content, front_short, front_inside, front_whole}

abbrev told_message : ℕ → List ℕ → Taken
told_message n m = record { reading = readings.Body []; events = events.Message n m ∷ [] }

-- the five bytes in front of a content that isn't empty
prefix_taken : (n a b c d : ℕ) → size_in (a ∷ b ∷ c ∷ d ∷ []) ≤ max_message → 0 < size_in (a ∷ b ∷ c ∷ d ∷ []) → taken n (readings.Body []) (0 ∷ a ∷ b ∷ c ∷ d ∷ []) ≡ keeps (readings.Body (0 ∷ a ∷ b ∷ c ∷ d ∷ []))
prefix_taken n a b c d small some =
    grown n [] 0 (a ∷ b ∷ c ∷ d ∷ []) (grows_empty (a ∷ b ∷ c ∷ d ∷ []) (omega arith)) ∙ ap (after_byte n (0 ∷ a ∷ b ∷ c ∷ d ∷ [])) (front_inside a b c d [] small some)

-- and then some bytes
behind_prefix : (n a b c d : ℕ) (content : List ℕ) → size_in (a ∷ b ∷ c ∷ d ∷ []) ≤ max_message → 0 < size_in (a ∷ b ∷ c ∷ d ∷ []) → taken n (readings.Body []) (0 ∷ a ∷ b ∷ c ∷ d ∷ content) ≡ taken n (readings.Body (0 ∷ a ∷ b ∷ c ∷ d ∷ [])) content
behind_prefix n a b c d content small some =
    taken_append n (readings.Body []) (0 ∷ a ∷ b ∷ c ∷ d ∷ []) content ∙ ap (λ (t : Taken). behind_events t.events (taken n t.reading content)) (prefix_taken n a b c d small some)

whole_by : (n a b c d : ℕ) (m : List ℕ) → size_in (a ∷ b ∷ c ∷ d ∷ []) ≡ length m → length m ≤ max_message → taken n (readings.Body []) (0 ∷ a ∷ b ∷ c ∷ d ∷ m) ≡ told_message n m
whole_by n a b c d [] same small =
    grown n [] 0 (a ∷ b ∷ c ∷ d ∷ []) (grows_empty (a ∷ b ∷ c ∷ d ∷ []) (omega arith)) ∙ ap (after_byte n (0 ∷ a ∷ b ∷ c ∷ d ∷ [])) (front_whole a b c d [] (omega (arith, same)) (sym same))
whole_by n a b c d (x ∷ xs) same small =
    behind_prefix n a b c d (x ∷ xs) (omega (arith, same)) (omega (arith, same))
    ∙ (grown n (0 ∷ a ∷ b ∷ c ∷ d ∷ []) x xs (grows_content a b c d [] (x ∷ xs) (omega (arith, same)) (omega (arith, same)))
    ∙ ap (after_byte n (0 ∷ a ∷ b ∷ c ∷ d ∷ x ∷ xs)) (front_whole a b c d (x ∷ xs) (omega (arith, same)) (sym same)))

framed_one : (n : ℕ) (m more : List ℕ) → length m ≤ max_message → taken n (readings.Body []) (framed m ++ more) ≡ behind_events (events.Message n m ∷ []) (taken n (readings.Body []) more)
framed_one n m more small =
    let same : size_in (to_be_bytes w32 (length m)) ≡ length m = from_be_bytes-to_be_bytes_4 (length m) (omega arith) in
    let one : taken n (readings.Body []) (framed m) ≡ told_message n m = whole_by n _ _ _ _ m same small in
    taken_append n (readings.Body []) (framed m) more ∙ ap (λ (t : Taken). behind_events t.events (taken n t.reading more)) one

-- ---- a part of a message

part_by : (n a b c d : ℕ) (content : List ℕ) → size_in (a ∷ b ∷ c ∷ d ∷ []) ≤ max_message → length content < size_in (a ∷ b ∷ c ∷ d ∷ []) → taken n (readings.Body []) (0 ∷ a ∷ b ∷ c ∷ d ∷ content) ≡ keeps (readings.Body (0 ∷ a ∷ b ∷ c ∷ d ∷ content))
part_by n a b c d [] small less = prefix_taken n a b c d small (omega arith)
part_by n a b c d (x ∷ xs) small less =
    behind_prefix n a b c d (x ∷ xs) small (omega arith)
    ∙ (grown n (0 ∷ a ∷ b ∷ c ∷ d ∷ []) x xs (grows_content a b c d [] (x ∷ xs) small (omega arith))
    ∙ ap (after_byte n (0 ∷ a ∷ b ∷ c ∷ d ∷ x ∷ xs)) (front_inside a b c d (x ∷ xs) small less))

part_whole : (n : ℕ) (behind content : List ℕ) → length behind ≡ 4 → size_in behind ≤ max_message → length content < size_in behind → taken n (readings.Body []) ((0 ∷ behind) ++ content) ≡ keeps (readings.Body ((0 ∷ behind) ++ content))
part_whole n [] content four small less = absurd (omega arith)
part_whole n (a ∷ []) content four small less = absurd (omega arith)
part_whole n (a ∷ b ∷ []) content four small less = absurd (omega arith)
part_whole n (a ∷ b ∷ c ∷ []) content four small less = absurd (omega arith)
part_whole n (a ∷ b ∷ c ∷ d ∷ []) content four small less = part_by n a b c d content small less
part_whole n (a ∷ b ∷ c ∷ d ∷ e ∷ behind) content four small less = absurd (omega arith)

part_short : (n : ℕ) (behind content : List ℕ) → length behind < 4 → content ≡ [] → taken n (readings.Body []) ((0 ∷ behind) ++ content) ≡ keeps (readings.Body ((0 ∷ behind) ++ content))
part_short n behind content short empty =
    let all : (0 ∷ behind) ++ content ≡ 0 ∷ behind = ap (λ (xs : List ℕ). (0 ∷ behind) ++ xs) empty ∙ append-nil (0 ∷ behind) in
    let P = λ (xs : List ℕ). taken n (readings.Body []) xs ≡ keeps (readings.Body xs) in
    subst P (sym all) (grown n [] 0 behind (grows_empty behind (omega arith)) ∙ ap (after_byte n (0 ∷ behind)) (front_short behind short))

part_taken : (n : ℕ) (prefix content : List ℕ) → IsPart prefix content → taken n (readings.Body []) (prefix ++ content) ≡ keeps (readings.Body (prefix ++ content))
unfolding taken
part_taken n [] content p = subst (λ (xs : List ℕ). taken n (readings.Body []) xs ≡ keeps (readings.Body xs)) (sym p) refl
part_taken n (f ∷ behind) content p =
    let P = λ (g : ℕ). taken n (readings.Body []) ((g ∷ behind) ++ content) ≡ keeps (readings.Body ((g ∷ behind) ++ content)) in
    subst P (sym p.0) (elim (cases_lt (length behind) 4) [
      | inl short ↦ part_short n behind content short (p.2 short)
      | inr long ↦ let q = p.3 long in part_whole n behind content (omega (arith, p.1)) q.0 q.1
    ])

-- ---- messages, and a part of one more

small_first : (m : List ℕ) (ms : List (List ℕ)) → All (λ (x : List ℕ). length x ≤ max_message) (m ∷ ms) → (length m ≤ max_message) × All (λ (x : List ℕ). length x ≤ max_message) ms
small_first m ms h = (All-head (λ (x : List ℕ). length x ≤ max_message) m ms h, All-tail (λ (x : List ℕ). length x ≤ max_message) m ms h)

pub framed_told : (n : ℕ) (contents : List (List ℕ)) (prefix content : List ℕ) → All (λ (m : List ℕ). length m ≤ max_message) contents → IsPart prefix content
    → taken n (readings.Body []) (flat_map framed contents ++ (prefix ++ content)) ≡ record { reading = readings.Body (prefix ++ content); events = map (λ (m : List ℕ). events.Message n m) contents }
framed_told n [] prefix content small part = part_taken n prefix content part
framed_told n (m ∷ ms) prefix content small part =
    let s = small_first m ms small in
    ap (taken n (readings.Body [])) (append_assoc (framed m) (flat_map framed ms) (prefix ++ content))
    ∙ (framed_one n m (flat_map framed ms ++ (prefix ++ content)) s.0
    ∙ ap (behind_events (events.Message n m ∷ [])) (framed_told n ms prefix content s.1 part))
