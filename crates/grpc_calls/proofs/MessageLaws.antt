-- The bytes of a stream, some at a time.
use Rattle.std.proofs.Common.{◌≡◌, ℕ, zero, suc, ◌+◌, ◌-◌, ◌<◌, ◌≤◌, min, Bool, true, false, cond, List, [], ◌∷◌, ◌++◌, length, take, drop, arith, refl, sym, ap, subst, ◌∙◌, append_assoc, append-nil, length-append, length-drop, drop-drop}
use Rattle.std.specs.Prelude.{Option, Some, None, Result, Ok, Err, nat_lt, ◌==◌, slice_index, if◌then◌else◌}
use Rattle.std.proofs.lemmas.Bool.{lt-ltb, le-ltb, eq-eqb, ne_eqb, cond-true, cond-false}
use Rattle.std.proofs.lemmas.List.{length-take-le, take-append-drop}
use Rattle.grpc_calls.specs.declared.fault.MessageFault.{MessageFault}
use Rattle.grpc_calls.specs.declared.fault.MessageFault.TheVariants as faults
use Rattle.grpc_calls.specs.declared.event.CallEvent.{CallEvent}
use Rattle.grpc_calls.specs.declared.event.CallEvent.TheVariants as events
use Rattle.grpc_calls.specs.declared.call.Reading.{Reading}
use Rattle.grpc_calls.specs.declared.call.Reading.TheVariants as readings
use Rattle.grpc_calls.specs.declared.unfinished.Step.{Step}
use Rattle.grpc_calls.specs.declared.unfinished.Step.TheVariants as steps
use Rattle.grpc_calls.specs.Prefix.{max_message, size_in, IsPart}
use Rattle.grpc_calls.specs.Framing.{front, front_behind, status_of, Taken, keeps, broken, behind_events, after_byte, taken}
use Rattle.grpc_calls.specs.Unfinished.{Takes, Judged}

-- ---- one byte after the other

pub over_stays : (n : ℕ) (bs : List ℕ) → taken n readings.Over bs ≡ keeps readings.Over
unfolding taken
over_stays n [] = refl
over_stays n (b ∷ bs) = refl

pub headers_stay : (n : ℕ) (bs : List ℕ) → taken n readings.Headers bs ≡ keeps readings.Headers
unfolding taken
headers_stay n [] = refl
headers_stay n (b ∷ bs) = refl

pub behind_twice : (es fs : List CallEvent) (t : Taken) → behind_events es (behind_events fs t) ≡ behind_events (es ++ fs) t
behind_twice es fs t = ap (λ (gs : List CallEvent). record { reading = t.reading; events = gs }) (sym (append_assoc es fs t.events))

-- bytes in two pieces are read as one
pub taken_append : (n : ℕ) (r : Reading) (xs ys : List ℕ) → taken n r (xs ++ ys) ≡ behind_events (taken n r xs).events (taken n (taken n r xs).reading ys)
unfolding taken
taken_append n r [] ys = refl
taken_append n (readings.Body text) (x ∷ xs) ys =
    let t : Taken = after_byte n (text ++ x ∷ []) (front (text ++ x ∷ [])) in
    ap (behind_events t.events) (taken_append n t.reading xs ys) ∙ behind_twice t.events (taken n t.reading xs).events (taken n (taken n t.reading xs).reading ys)
taken_append n readings.Headers (x ∷ xs) ys = sym (ap (behind_events []) (headers_stay n ys))
taken_append n readings.Over (x ∷ xs) ys = sym (ap (behind_events []) (over_stays n ys))

-- with each byte but the last, more is to come
abbrev pub Grows : List ℕ → List ℕ → Type 0
Grows text [] = Unit {0}
Grows text (b ∷ []) = Unit {0}
Grows text (b ∷ c ∷ cs) = (front (text ++ b ∷ []) ≡ Ok None) × Grows (text ++ b ∷ []) (c ∷ cs)

end_is : (t : Taken) → behind_events t.events (keeps t.reading) ≡ t
end_is t = ap (λ (es : List CallEvent). record { reading = t.reading; events = es }) (append-nil t.events)

pub grown : (n : ℕ) (text : List ℕ) (b : ℕ) (bs : List ℕ) → Grows text (b ∷ bs) → taken n (readings.Body text) (b ∷ bs) ≡ after_byte n (text ++ b ∷ bs) (front (text ++ b ∷ bs))
unfolding taken
grown n text b [] g = end_is (after_byte n (text ++ b ∷ []) (front (text ++ b ∷ [])))
grown n text b (c ∷ cs) g =
    let more : List ℕ = text ++ b ∷ [] in
    ap (λ (r : Result (Option (List ℕ)) MessageFault). behind_events (after_byte n more r).events (taken n (after_byte n more r).reading (c ∷ cs))) g.0
    ∙ (grown n more c cs g.1 ∙ ap (λ (x : List ℕ). after_byte n x (front x)) (append_assoc text (b ∷ []) (c ∷ cs)))

-- ---- what the first bytes show

pub front_short : (behind : List ℕ) → length behind < 4 → front_behind behind ≡ Ok None
unfolding front_behind
front_short behind l = cond-true (nat_lt (length behind) 4) (Ok None) _ (lt-ltb (length behind) 4 l)

pub front_inside : (a b c d : ℕ) (content : List ℕ) → size_in (a ∷ b ∷ c ∷ d ∷ []) ≤ max_message → length content < size_in (a ∷ b ∷ c ∷ d ∷ []) → front_behind (a ∷ b ∷ c ∷ d ∷ content) ≡ Ok None
unfolding front_behind
front_inside a b c d content small less =
    let size = size_in (a ∷ b ∷ c ∷ d ∷ []) in
    let len = length (a ∷ b ∷ c ∷ d ∷ content) in
    cond-false (nat_lt len 4) (Ok None) _ (le-ltb len 4 (omega arith))
    ∙ (cond-false (nat_lt max_message size) (Err faults.TooLarge) _ (le-ltb max_message size small)
    ∙ cond-true (nat_lt len (4 + size)) (Ok None) _ (lt-ltb len (4 + size) (omega arith)))

pub front_whole : (a b c d : ℕ) (content : List ℕ) → size_in (a ∷ b ∷ c ∷ d ∷ []) ≤ max_message → length content ≡ size_in (a ∷ b ∷ c ∷ d ∷ []) → front_behind (a ∷ b ∷ c ∷ d ∷ content) ≡ Ok (Some content)
unfolding front_behind
front_whole a b c d content small same =
    let size = size_in (a ∷ b ∷ c ∷ d ∷ []) in
    let len = length (a ∷ b ∷ c ∷ d ∷ content) in
    cond-false (nat_lt len 4) (Ok None) _ (le-ltb len 4 (omega arith))
    ∙ (cond-false (nat_lt max_message size) (Err faults.TooLarge) _ (le-ltb max_message size small)
    ∙ cond-false (nat_lt len (4 + size)) (Ok None) _ (le-ltb len (4 + size) (omega arith)))

pub front_large : (a b c d : ℕ) → max_message < size_in (a ∷ b ∷ c ∷ d ∷ []) → front_behind (a ∷ b ∷ c ∷ d ∷ []) ≡ Err faults.TooLarge
unfolding front_behind
front_large a b c d large =
    let size = size_in (a ∷ b ∷ c ∷ d ∷ []) in
    cond-true (nat_lt max_message size) (Err faults.TooLarge) _ (lt-ltb max_message size large)

pub grows_prefix : (behind c : List ℕ) → length behind + length c ≤ 4 → Grows (0 ∷ behind) c
grows_prefix behind [] l = tt
grows_prefix behind (b ∷ []) l = tt
grows_prefix behind (b ∷ d ∷ ds) l =
    let len = length-append behind (b ∷ []) in
    (front_short (behind ++ b ∷ []) (omega arith), grows_prefix (behind ++ b ∷ []) (d ∷ ds) (omega arith))

pub grows_empty : (c : List ℕ) → length c ≤ 4 → Grows [] (0 ∷ c)
grows_empty [] l = tt
grows_empty (d ∷ ds) l = (front_short [] (omega arith), grows_prefix [] (d ∷ ds) (omega arith))

pub grows_content : (a b c d : ℕ) (content cs : List ℕ) → size_in (a ∷ b ∷ c ∷ d ∷ []) ≤ max_message → length content + length cs ≤ size_in (a ∷ b ∷ c ∷ d ∷ []) → Grows (0 ∷ a ∷ b ∷ c ∷ d ∷ content) cs
grows_content a b c d content [] small l = tt
grows_content a b c d content (x ∷ []) small l = tt
grows_content a b c d content (x ∷ y ∷ ys) small l =
    let len = length-append content (x ∷ []) in
    (front_inside a b c d (content ++ x ∷ []) small (omega arith), grows_content a b c d (content ++ x ∷ []) (y ∷ ys) small (omega arith))

-- ---- a piece of a message

-- The first bytes stand behind those of the message, and with each but the last more is to come.
pub record Chunk (old bytes : List ℕ) (count : ℕ) (new : List ℕ) : Type 0 where
  pub first : ℕ
  pub others : List ℕ
  pub are : take count bytes ≡ first ∷ others
  pub some : 0 < count
  pub within : count ≤ length bytes
  pub grows : Grows old (first ∷ others)
  pub whole : new ≡ old ++ first ∷ others

chunk_taken : (n : ℕ) (old bytes : List ℕ) (count : ℕ) (new : List ℕ) → Chunk old bytes count new → taken n (readings.Body old) (take count bytes) ≡ after_byte n new (front new)
chunk_taken n old bytes count new k =
    ap (taken n (readings.Body old)) k.are ∙ (grown n old k.first k.others k.grows ∙ ap (λ (x : List ℕ). after_byte n x (front x)) (sym k.whole))

pub chunk_part : (old bytes : List ℕ) (count : ℕ) (new : List ℕ) → Chunk old bytes count new → front new ≡ Ok None → Takes old bytes new (steps.Part count)
chunk_part old bytes count new k e = (k.some, k.within, λ n. chunk_taken n old bytes count new k ∙ ap (after_byte n new) e)

pub chunk_whole : (old bytes : List ℕ) (count : ℕ) (new content now : List ℕ) → Chunk old bytes count new → front new ≡ Ok (Some content) → now ≡ [] → Takes old bytes now (steps.Whole count content)
chunk_whole old bytes count new content now k e empty = (k.some, k.within, empty, λ n. chunk_taken n old bytes count new k ∙ ap (after_byte n new) e)

pub chunk_fault : (old bytes : List ℕ) (count : ℕ) (new now : List ℕ) (fault : MessageFault) → Chunk old bytes count new → front new ≡ Err fault → Takes old bytes now (steps.Fault fault)
chunk_fault old bytes count new now fault k e n =
    let first : taken n (readings.Body old) (take count bytes) ≡ broken n (status_of fault) = chunk_taken n old bytes count new k ∙ ap (after_byte n new) e in
    ap (taken n (readings.Body old)) (sym (take-append-drop count bytes))
    ∙ (taken_append n (readings.Body old) (take count bytes) (drop count bytes)
    ∙ (ap (λ (t : Taken). behind_events t.events (taken n t.reading (drop count bytes))) first
    ∙ ap (behind_events (events.Broken n (status_of fault) ∷ [])) (over_stays n (drop count bytes))))

-- a bad flag
pub flag_fault : (flag : ℕ) (bytes now : List ℕ) (fault : MessageFault) → front (flag ∷ []) ≡ Err fault → Takes [] (flag ∷ bytes) now (steps.Fault fault)
unfolding taken
flag_fault flag bytes now fault e n =
    ap (λ (r : Result (Option (List ℕ)) MessageFault). behind_events (after_byte n (flag ∷ []) r).events (taken n (after_byte n (flag ∷ []) r).reading bytes)) e
    ∙ ap (behind_events (events.Broken n (status_of fault) ∷ [])) (over_stays n bytes)

-- bytes taken into the prefix
pub prefix_chunk : (old bytes : List ℕ) (count : ℕ) (new : List ℕ) → IsPart old [] → length old < 5 → 0 < length bytes → (length old ≡ 0 → slice_index bytes 0 ≡ 0) → 0 < count → count ≤ length bytes → count + length old ≤ 5
    → new ≡ old ++ take count bytes → Chunk old bytes count new × (behind : List ℕ) × (new ≡ 0 ∷ behind) × (length new ≡ length old + count)
prefix_chunk old [] count new part short some flag pos within fits is = absurd (omega arith)
prefix_chunk old (x ∷ xs) zero new part short some flag pos within fits is = absurd (omega arith)
prefix_chunk [] (x ∷ xs) (suc k) new part short some flag pos within fits is =
    let zero_flag : x ≡ 0 = flag refl in
    let len : length (take k xs) ≡ k = length-take-le k xs (omega arith) in
    let are : take (suc k) (x ∷ xs) ≡ 0 ∷ take k xs = ap (λ (y : ℕ). y ∷ take k xs) zero_flag in (
      record { first = 0; others = take k xs; are = are; some = pos; within = within; grows = grows_empty (take k xs) (omega arith); whole = is ∙ are },
      take k xs,
      is ∙ are,
      ap length is ∙ omega (arith, len),
    )
prefix_chunk (f ∷ old) (x ∷ xs) (suc k) new part short some flag pos within fits is =
    let len : length (take k xs) ≡ k = length-take-le k xs (omega arith) in
    let head : f ∷ old ≡ 0 ∷ old = ap (λ (y : ℕ). y ∷ old) part.0 in
    let is0 : new ≡ (0 ∷ old) ++ x ∷ take k xs = is ∙ ap (λ (ys : List ℕ). ys ++ x ∷ take k xs) head in
    let all = length-append old (x ∷ take k xs) in (
      record { first = x; others = take k xs; are = refl; some = pos; within = within; grows = subst (λ (ys : List ℕ). Grows ys (x ∷ take k xs)) (sym head) (grows_prefix old (x ∷ take k xs) (omega arith)); whole = is },
      old ++ x ∷ take k xs,
      is0,
      ap length is ∙ omega (arith, all, len),
    )

-- bytes taken into the content
pub record InContent (p content bytes : List ℕ) (count : ℕ) (new : List ℕ) : Type 0 where
  pub chunk : Chunk ((0 ∷ p) ++ content) bytes count ((0 ∷ p) ++ new)
  pub part : length new < size_in p → front ((0 ∷ p) ++ new) ≡ Ok None
  pub whole : length new ≡ size_in p → front ((0 ∷ p) ++ new) ≡ Ok (Some new)
  pub len : length new ≡ length content + count

content_chunk : (a b c d : ℕ) (content bytes : List ℕ) (count : ℕ) (new : List ℕ) → size_in (a ∷ b ∷ c ∷ d ∷ []) ≤ max_message → 0 < count → count ≤ length bytes → length content + count ≤ size_in (a ∷ b ∷ c ∷ d ∷ [])
    → new ≡ content ++ take count bytes → InContent (a ∷ b ∷ c ∷ d ∷ []) content bytes count new
content_chunk a b c d content [] count new small pos within fits is = absurd (omega arith)
content_chunk a b c d content (x ∷ xs) zero new small pos within fits is = absurd (omega arith)
content_chunk a b c d content (x ∷ xs) (suc k) new small pos within fits is =
    let len : length (take k xs) ≡ k = length-take-le k xs (omega arith) in
    let all = length-append content (x ∷ take k xs) in
    record {
      chunk = record { first = x; others = take k xs; are = refl; some = pos; within = within; grows = grows_content a b c d content (x ∷ take k xs) small (omega (arith, len)); whole = ap (λ (ys : List ℕ). 0 ∷ a ∷ b ∷ c ∷ d ∷ ys) is };
      part = λ l. front_inside a b c d new small l;
      whole = λ l. front_whole a b c d new small l;
      len = ap length is ∙ omega (arith, all, len);
    }

pub in_content : (p content bytes : List ℕ) (count : ℕ) (new : List ℕ) → length p ≡ 4 → size_in p ≤ max_message → 0 < count → count ≤ length bytes → length content + count ≤ size_in p
    → new ≡ content ++ take count bytes → InContent p content bytes count new
in_content [] content bytes count new four small pos within fits is = absurd (omega arith)
in_content (a ∷ []) content bytes count new four small pos within fits is = absurd (omega arith)
in_content (a ∷ b ∷ []) content bytes count new four small pos within fits is = absurd (omega arith)
in_content (a ∷ b ∷ c ∷ []) content bytes count new four small pos within fits is = absurd (omega arith)
in_content (a ∷ b ∷ c ∷ d ∷ []) content bytes count new four small pos within fits is = content_chunk a b c d content bytes count new small pos within fits is
in_content (a ∷ b ∷ c ∷ d ∷ e ∷ p) content bytes count new four small pos within fits is = absurd (omega arith)

-- a whole prefix
pub record IsWhole (new p : List ℕ) : Type 0 where
  pub empty : size_in p ≡ 0 → front new ≡ Ok (Some [])
  pub part : 0 < size_in p → size_in p ≤ max_message → front new ≡ Ok None
  pub large : max_message < size_in p → front new ≡ Err faults.TooLarge

pub whole_prefix : (p : List ℕ) → length p ≡ 4 → IsWhole (0 ∷ p) p
whole_prefix [] four = absurd (omega arith)
whole_prefix (a ∷ []) four = absurd (omega arith)
whole_prefix (a ∷ b ∷ []) four = absurd (omega arith)
whole_prefix (a ∷ b ∷ c ∷ []) four = absurd (omega arith)
whole_prefix (a ∷ b ∷ c ∷ d ∷ []) four = record {
  empty = λ e. front_whole a b c d [] (omega (arith, e)) (sym e);
  part = λ pos small. front_inside a b c d [] small pos;
  large = λ l. front_large a b c d l;
}
whole_prefix (a ∷ b ∷ c ∷ d ∷ e ∷ p) four = absurd (omega arith)

-- ---- what the code does

pub flag_takes : (old bytes : List ℕ) (fault : MessageFault) → length old ≡ 0 → 0 < length bytes → front (slice_index bytes 0 ∷ []) ≡ Err fault → (n : ℕ) → taken n (readings.Body old) bytes ≡ broken n (status_of fault)
flag_takes [] [] fault empty some e n = absurd (omega arith)
flag_takes [] (x ∷ xs) fault empty some e n = flag_fault x xs [] fault e n
flag_takes (b ∷ old) bytes fault empty some e n = absurd (omega arith)

pub prefix_part : (old bytes : List ℕ) (count : ℕ) (new : List ℕ) → IsPart old [] → length old < 5 → 0 < length bytes → (length old ≡ 0 → slice_index bytes 0 ≡ 0) → 0 < count → count ≤ length bytes → count + length old < 5
    → new ≡ old ++ take count bytes → Takes old bytes new (steps.Part count)
prefix_part old bytes count new part short some flag pos within fits is =
    let k = prefix_chunk old bytes count new part short some flag pos within (omega arith) is in
    let len = ap length k.2 in
    chunk_part old bytes count new k.0 (ap front k.2 ∙ front_short k.1 (omega (arith, len, k.3)))

judged_by : (old bytes : List ℕ) (count : ℕ) (new behind after : List ℕ) (step : Step) → Chunk old bytes count new → IsWhole new behind → Judged (size_in behind) count new after step → Takes old bytes after step
judged_by old bytes count new behind after (steps.Part n) k w j =
    subst (λ (m : ℕ). Takes old bytes after (steps.Part m)) (sym j.0) (subst (λ (x : List ℕ). Takes old bytes x (steps.Part count)) (sym j.3) (chunk_part old bytes count new k (w.part j.1 j.2)))
judged_by old bytes count new behind after (steps.Whole n content) k w j =
    subst (λ (m : ℕ). Takes old bytes after (steps.Whole m content)) (sym j.0) (chunk_whole old bytes count new content after k (w.empty j.1 ∙ ap (λ (x : List ℕ). Ok (Some x)) (sym j.2)) j.3)
judged_by old bytes count new behind after (steps.Fault fault) k w j =
    chunk_fault old bytes count new after fault k (w.large j.1 ∙ ap (λ (x : MessageFault). Err x) (sym j.0))

pub prefix_judged : (old bytes : List ℕ) (count : ℕ) (new after : List ℕ) (step : Step) → IsPart old [] → length old < 5 → 0 < length bytes → (length old ≡ 0 → slice_index bytes 0 ≡ 0) → 0 < count → count ≤ length bytes → count + length old ≡ 5
    → new ≡ old ++ take count bytes → Judged (size_in (drop 1 new)) count new after step → Takes old bytes after step
prefix_judged old bytes count new after step part short some flag pos within fits is j =
    let k = prefix_chunk old bytes count new part short some flag pos within (omega arith) is in
    let len = ap length k.2 in
    let w : IsWhole new k.1 = subst (λ (x : List ℕ). IsWhole x k.1) (sym k.2) (whole_prefix k.1 (omega (arith, len, k.3))) in
    judged_by old bytes count new k.1 after step k.0 w (subst (λ (x : List ℕ). Judged (size_in x) count new after step) (ap (drop 1) k.2) j)

-- the content of a part is shorter than the prefix tells
pub content_less : (prefix content : List ℕ) → IsPart prefix content → length prefix ≡ 5 → length content < size_in (drop 1 prefix)
content_less [] content part five = absurd (omega arith)
content_less (f ∷ p) content part five = (part.3 (omega arith)).1

pub content_part : (prefix content bytes : List ℕ) (count : ℕ) (new : List ℕ) → IsPart prefix content → length prefix ≡ 5 → 0 < count → count ≤ length bytes → length content + count < size_in (drop 1 prefix)
    → new ≡ content ++ take count bytes → Takes (prefix ++ content) bytes (prefix ++ new) (steps.Part count)
content_part [] content bytes count new part five pos within fits is = absurd (omega arith)
content_part (f ∷ p) content bytes count new part five pos within fits is =
    let small = (part.3 (omega arith)).0 in
    let c = in_content p content bytes count new (omega arith) small pos within (omega arith) is in
    subst (λ (g : ℕ). Takes ((g ∷ p) ++ content) bytes ((g ∷ p) ++ new) (steps.Part count)) (sym part.0)
    (chunk_part ((0 ∷ p) ++ content) bytes count ((0 ∷ p) ++ new) c.chunk (c.part (omega (arith, c.len))))

pub content_whole : (prefix content bytes : List ℕ) (count : ℕ) (new out now : List ℕ) → IsPart prefix content → length prefix ≡ 5 → 0 < count → count ≤ length bytes → length content + count ≡ size_in (drop 1 prefix)
    → new ≡ content ++ take count bytes → out ≡ new → now ≡ [] → Takes (prefix ++ content) bytes now (steps.Whole count out)
content_whole [] content bytes count new out now part five pos within fits is same empty = absurd (omega arith)
content_whole (f ∷ p) content bytes count new out now part five pos within fits is same empty =
    let small = (part.3 (omega arith)).0 in
    let c = in_content p content bytes count new (omega arith) small pos within (omega arith) is in
    subst (λ (x : List ℕ). Takes ((f ∷ p) ++ content) bytes now (steps.Whole count x)) (sym same)
    (subst (λ (g : ℕ). Takes ((g ∷ p) ++ content) bytes now (steps.Whole count new)) (sym part.0)
    (chunk_whole ((0 ∷ p) ++ content) bytes count ((0 ∷ p) ++ new) new now c.chunk (c.whole (omega (arith, c.len))) empty))

-- ---- pieces of a stream

-- Of the bytes of a stream a first part was read, with these events, and what is left is read as the rest of all of them.
pub record Rests (n : ℕ) (text left : List ℕ) (told : List CallEvent) (all : Taken) : Type 0 where
  pub reading : (taken n (readings.Body text) left).reading ≡ all.reading
  pub events : told ++ (taken n (readings.Body text) left).events ≡ all.events

rests_by : (n : ℕ) (text first left : List ℕ) (told : List CallEvent) (all t : Taken) → Rests n text (first ++ left) told all → taken n (readings.Body text) first ≡ t
    → ((taken n t.reading left).reading ≡ all.reading) × (told ++ (t.events ++ (taken n t.reading left).events) ≡ all.events)
rests_by n text first left told all t r e =
    let whole = taken_append n (readings.Body text) first left ∙ ap (λ (x : Taken). behind_events x.events (taken n x.reading left)) e in
    (sym (ap (λ (x : Taken). x.reading) whole) ∙ r.reading, ap (λ (x : Taken). told ++ x.events) (sym whole) ∙ r.events)

pub rests_begin : (n : ℕ) (text bytes : List ℕ) → Rests n text bytes [] (taken n (readings.Body text) bytes)
rests_begin n text bytes = record { reading = refl; events = refl }

drop_by : (at count : ℕ) (bytes : List ℕ) → take count (drop at bytes) ++ drop (at + count) bytes ≡ drop at bytes
drop_by at count bytes = ap (λ (xs : List ℕ). take count (drop at bytes) ++ xs) (sym (drop-drop count at bytes)) ∙ take-append-drop count (drop at bytes)

pub rests_part : (n : ℕ) (text bytes : List ℕ) (at count : ℕ) (now : List ℕ) (told : List CallEvent) (all : Taken) → Rests n text (drop at bytes) told all → Takes text (drop at bytes) now (steps.Part count) → Rests n now (drop (at + count) bytes) told all
rests_part n text bytes at count now told all r k =
    let h = rests_by n text (take count (drop at bytes)) (drop (at + count) bytes) told all (keeps (readings.Body now)) (subst (λ (xs : List ℕ). Rests n text xs told all) (sym (drop_by at count bytes)) r) (k.2 n) in
    record { reading = h.0; events = h.1 }

pub rests_whole : (n : ℕ) (text bytes : List ℕ) (at count : ℕ) (content now : List ℕ) (told : List CallEvent) (all : Taken) → Rests n text (drop at bytes) told all → Takes text (drop at bytes) now (steps.Whole count content)
    → Rests n now (drop (at + count) bytes) (told ++ events.Message n content ∷ []) all
rests_whole n text bytes at count content now told all r k =
    let t : Taken = record { reading = readings.Body []; events = events.Message n content ∷ [] } in
    let h = rests_by n text (take count (drop at bytes)) (drop (at + count) bytes) told all t (subst (λ (xs : List ℕ). Rests n text xs told all) (sym (drop_by at count bytes)) r) (k.3 n) in
    let left = drop (at + count) bytes in
    record {
      reading = subst (λ (x : List ℕ). (taken n (readings.Body x) left).reading ≡ all.reading) (sym k.2) h.0;
      events = subst (λ (x : List ℕ). (told ++ events.Message n content ∷ []) ++ (taken n (readings.Body x) left).events ≡ all.events) (sym k.2) (append_assoc told (events.Message n content ∷ []) (taken n (readings.Body []) left).events ∙ h.1);
    }

pub rests_fault : (n : ℕ) (text left : List ℕ) (fault : MessageFault) (now : List ℕ) (told : List CallEvent) (all : Taken) → Rests n text left told all → Takes text left now (steps.Fault fault)
    → (readings.Over ≡ all.reading) × (told ++ events.Broken n (status_of fault) ∷ [] ≡ all.events)
rests_fault n text left fault now told all r k =
    (sym (ap (λ (x : Taken). x.reading) (k n)) ∙ r.reading, sym (ap (λ (x : Taken). told ++ x.events) (k n)) ∙ r.events)

pub rests_end : (n : ℕ) (text left : List ℕ) (told : List CallEvent) (all : Taken) → Rests n text left told all → length left ≡ 0 → (readings.Body text ≡ all.reading) × (told ≡ all.events)
unfolding taken
rests_end n text [] told all r e = (r.reading, sym (append-nil told) ∙ r.events)
rests_end n text (b ∷ bs) told all r e = absurd (omega arith)
