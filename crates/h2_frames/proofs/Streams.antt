-- A reader gives the frames of all bytes that were fed, in their order.
use Rattle.std.proofs.Common.{◌≡◌, ◌≢◌, ◌<◌, eqb, ℕ, ◌+◌, ◌≤◌, ◌⊎◌, inl, inr, Bool, true, false, cond, Result, Ok, Err, Option, Some, None, List, [], ◌∷◌, ◌++◌, length, take, drop, refl, sym, ap, subst, ◌∙◌, append_assoc, arith}
use Rattle.std.proofs.lemmas.Bool.{ne_eqb}
use Rattle.std.proofs.lemmas.List.{append-nil, length-append, length-take, take-append-drop, take_at, take-append-le}
use Rattle.proto_wire.specs.Steps.{◌>>=◌}
use Rattle.proto_wire.specs.Reading.{IsBytes}
use Rattle.proto_wire.proofs.Found.{IsBytes-behind}
use Rattle.h2_frames.specs.declared.fault.FrameFault.{FrameFault}
use Rattle.h2_frames.specs.declared.frame.Frame.{Frame}
use Rattle.h2_frames.specs.declared.fault.FrameFault.TheVariants as faults
use Rattle.h2_frames.specs.Reading.{Fails, frame_at}
use Rattle.h2_frames.specs.Stream.{Pending, fresh, preface, preface_at, advanced, cut, behind, begun, seen, give, given, Answers, fed_by, fed, place_of, rest_place}
use Rattle.h2_frames.specs.declared.layout.Header.{Header}
use Rattle.h2_frames.specs.Grammar.{HasHeader, HasOffence, IsOverpadded, Frames, front_of, IsStream, StandsBehind, HasGiven}
use Rattle.h2_frames.specs.Runs.{Event, piece, frame, waited, bytes_of, frames_of, Runs}
use Rattle.h2_frames.proofs.Steps.{IsBytes-take}
use Rattle.h2_frames.proofs.Found.{frame_found, frame_long}
use Rattle.h2_frames.proofs.Rests.{ending, rest_found}
use Rattle.h2_frames.proofs.Prefaces.{preface_len, preface_ending, preface_found, preface_rest_found}
use Rattle.h2_frames.proofs.OneReading.{read_of, frames_push, case_of, case_preface}

-- ---- a reader

abbrev nothing_yet : Result (Option (Frame × ℕ)) FrameFault
nothing_yet = Ok None

behind_ending : (end : Option FrameFault) (r : Pending) → behind (preface_ending end) r ≡ r
behind_ending None r = refl
behind_ending (Some e) r = refl

seen_behind : (b : Pending) → b.due ≡ false → seen b ≡ frame_at b.at b.rest
unfolding seen
seen_behind b e = ap (λ (due : Bool). cond due (preface_at b.at b.rest >>= λ whole. Ok None) (frame_at b.at b.rest)) e

stops : (end : Option FrameFault) (r : Result Bool FrameFault) → r ≡ preface_ending end → (r >>= λ whole. nothing_yet) ≡ ending end
stops None r e = ap (λ (q : Result Bool FrameFault). q >>= λ whole. nothing_yet) e
stops (Some d) r e = ap (λ (q : Result Bool FrameFault). q >>= λ whole. nothing_yet) e

seen_before : (b : Pending) (end : Option FrameFault) → b.due ≡ true → preface_at b.at b.rest ≡ preface_ending end → seen b ≡ ending end
unfolding seen
seen_before b end e h = ap (λ (due : Bool). cond due (preface_at b.at b.rest >>= λ whole. Ok None) (frame_at b.at b.rest)) e ∙ stops end (preface_at b.at b.rest) h

begun_behind : (b : Pending) → b.due ≡ false → begun b ≡ b
unfolding begun
begun_behind b e = ap (λ (due : Bool). cond due (behind (preface_at b.at b.rest) b) b) e

begun_before : (b : Pending) → b.due ≡ true → begun b ≡ behind (preface_at b.at b.rest) b
unfolding begun
begun_before b e = ap (λ (due : Bool). cond due (behind (preface_at b.at b.rest) b) b) e

-- what a reader sees: an end, behind all frames, or one frame more
pub record SeesEnd (due : Bool) (text : List ℕ) (ps : List (ℕ × Frame)) (b : Pending) : Type 0 where
  pub end : Option FrameFault
  pub sees : seen b ≡ ending end
  pub stands : HasGiven due text ps b
  pub reading : IsStream due text ps end (rest_place b)

pub record SeesFrame (due : Bool) (text : List ℕ) (ps : List (ℕ × Frame)) (b : Pending) : Type 0 where
  pub found : Frame × ℕ
  pub sees : seen b ≡ read_of found
  pub next : HasGiven due text (ps ++ (b.at, found.0) ∷ []) (advanced found.1 b)

abbrev pub Sees : Bool → List ℕ → List (ℕ × Frame) → Pending → Type 0
Sees due text ps b = SeesEnd due text ps b ⊎ SeesFrame due text ps b

sees_behind : (due : Bool) (text : List ℕ) (ps : List (ℕ × Frame)) (b : Pending) → IsBytes text → StandsBehind due text ps b → Sees due text ps b
sees_behind due text ps b fits x =
    let at : ℕ = length (front_of due) in
    let rest_fits : IsBytes b.rest = IsBytes-behind x.middle b.rest (IsBytes-behind (front_of due) (x.middle ++ b.rest) (subst IsBytes x.whole fits)) in
    let sees = seen_behind b x.begun in
    elim (case_of (frame_at b.at b.rest)) [
      | inl r ↦ inl (record {
        end = r.0;
        sees = sees ∙ r.1;
        stands = inl x;
        reading = inl (record {
          middle = x.middle;
          rest = b.rest;
          whole = x.whole;
          frames = x.frames;
          rest_is = rest_found (at + length x.middle) b.rest r.0 rest_fits (subst (λ (k : ℕ). frame_at k b.rest ≡ ending r.0) x.at r.1);
          place_is = ap (λ (k : ℕ). place_of k b.rest) x.at;
        });
      })
      | inr r ↦
          let f : Frame = r.0.0 in
          let n : ℕ = r.0.1 in
          let first : List ℕ = take n b.rest in
          let long = frame_long b.at b.rest f n r.1 in
          let len : length first ≡ n = omega (arith, length-take n b.rest, long.1) in
          let parts : b.rest ≡ first ++ drop n b.rest = sym (take-append-drop n b.rest) in
          inr (record {
            found = r.0;
            sees = sees ∙ r.1;
            next = inl (record {
              middle = x.middle ++ first;
              whole = x.whole ∙ ap (λ (ys : List ℕ). front_of due ++ ys) (ap (λ (ys : List ℕ). x.middle ++ ys) parts ∙ sym (append_assoc x.middle first (drop n b.rest)));
              frames = frames_push at x.middle first ps (b.at, f) x.frames (frame_found b.at b.rest f n rest_fits r.1) x.at;
              at = omega (arith, x.at, length-append x.middle first, len);
              begun = refl;
            });
          })
    ]

sees_all : (due : Bool) (text : List ℕ) (ps : List (ℕ × Frame)) (r : Pending) → IsBytes text → HasGiven due text ps r → Sees due text ps (begun r)
sees_all due text ps r fits (inl x) = subst (Sees due text ps) (sym (begun_behind r x.begun)) (sees_behind due text ps r fits x)
sees_all due text ps r fits (inr x) =
    let compared : preface_at r.at r.rest ≡ preface_at 0 text = ap (λ (k : ℕ). preface_at k r.rest) x.at ∙ ap (preface_at 0) x.rest in
    elim (case_preface (preface_at 0 text)) [
      | inl p ↦
          let stays : begun r ≡ r = begun_before r x.still ∙ ap (λ (q : Result Bool FrameFault). behind q r) (compared ∙ p.1) ∙ behind_ending p.0 r in
          let place : rest_place r ≡ place_of 0 text = ap (λ (k : ℕ). place_of k r.rest) x.at ∙ ap (place_of 0) x.rest in
          subst (Sees due text ps) (sym stays) (inl (record {
            end = p.0;
            sees = seen_before r p.0 x.still (compared ∙ p.1);
            stands = inr x;
            reading = inr (x.due_is, x.none, preface_rest_found text p.0 p.1, place);
          }))
      | inr p ↦
          let b : Pending = advanced 24 r in
          let goes_on : begun r ≡ b = begun_before r x.still ∙ ap (λ (q : Result Bool FrameFault). behind q r) (compared ∙ p) in
          let front : front_of due ≡ preface = ap front_of x.due_is in
          let whole : text ≡ front_of due ++ drop 24 r.rest = preface_found text p ∙ ap (λ (ys : List ℕ). preface ++ drop 24 ys) (sym x.rest) ∙ ap (λ (ys : List ℕ). ys ++ drop 24 r.rest) (sym front) in
          let stands : StandsBehind due text ps b = record {
            middle = [];
            whole = whole;
            frames = subst (Frames (length (front_of due)) []) (sym x.none) refl;
            at = omega (arith, x.at, ap length front, preface_len);
            begun = refl;
          } in
          subst (Sees due text ps) (sym goes_on) (sees_behind due text ps b fits stands)
    ]

-- ---- what it answers

abbrev Step : Type 0
Step = Result (Option (ℕ × Frame) × Pending) FrameFault

given_is : (r : Pending) (q : Result (Option (Frame × ℕ)) FrameFault) → seen (begun r) ≡ q → given r ≡ (q >>= λ o. Ok (give (begun r) o))
unfolding given
given_is r q e = ap (λ (p : Result (Option (Frame × ℕ)) FrameFault). p >>= λ o. Ok (give (begun r) o)) e

abbrev answer : Option (ℕ × Frame) → Pending → Step
answer o s = Ok (o, s)

abbrev stepped : Option (ℕ × Frame) × Pending → Step
stepped x = Ok x

pair_is : (x y : Option (ℕ × Frame) × Pending) → stepped x ≡ stepped y → x ≡ y
pair_is x y e = cc

answer_is : (o p : Option (ℕ × Frame)) (s t : Pending) → answer o s ≡ answer p t → (o ≡ p) × (s ≡ t)
answer_is o p s t e =
    let x : Option (ℕ × Frame) × Pending = (o, s) in
    let y : Option (ℕ × Frame) × Pending = (p, t) in
    let same : x ≡ y = pair_is x y e in
    (ap (λ (z : Option (ℕ × Frame) × Pending). z.0) same, ap (λ (z : Option (ℕ × Frame) × Pending). z.1) same)

abbrev placed : ℕ × Frame → Option (ℕ × Frame)
placed p = Some p

placed_same : (p q : ℕ × Frame) → placed p ≡ placed q → p ≡ q
placed_same p q e = cc

abbrev refused : FrameFault → Step
refused e = Err e

refused_same : (d e : FrameFault) → refused d ≡ refused e → d ≡ e
refused_same d e h = cc

-- standing does not depend on what is kept, nor on a refusal
kept : (due : Bool) (text : List ℕ) (ps : List (ℕ × Frame)) (b : Pending) (fault : Option FrameFault) (held : ℕ) → HasGiven due text ps b → HasGiven due text ps (record b { fault = fault; held = held })
kept due text ps b fault held (inl x) = inl (record { middle = x.middle; whole = x.whole; frames = x.frames; at = x.at; begun = x.begun })
kept due text ps b fault held (inr x) = inr (record { due_is = x.due_is; still = x.still; at = x.at; rest = x.rest; none = x.none })

-- what is answered at an end
abbrev at_end : Option FrameFault → Pending → Step
at_end end b = ending end >>= λ o. Ok (give b o)

no_frame_at : (end : Option FrameFault) (b : Pending) (p : ℕ × Frame) (s : Pending) → at_end end b ≡ answer (placed p) s → ⊥
no_frame_at None b p s e = let none : None ≡ placed p = (answer_is None (placed p) (cut b) s e).0 in cc
no_frame_at (Some d) b p s e = cc

waits_at : (due : Bool) (text : List ℕ) (ps : List (ℕ × Frame)) (b s : Pending) (end : Option FrameFault) → HasGiven due text ps b → IsStream due text ps end (rest_place b) → at_end end b ≡ answer None s → HasGiven due text ps s × IsStream due text ps None (rest_place s)
waits_at due text ps b s None h x e =
    let same : cut b ≡ s = (answer_is None None (cut b) s e).1 in
    subst (λ (z : Pending). HasGiven due text ps z × IsStream due text ps None (rest_place z)) same (kept due text ps b b.fault (length b.rest) h, x)
waits_at due text ps b s (Some d) h x e = absurd cc

refuses_at : (due : Bool) (text : List ℕ) (ps : List (ℕ × Frame)) (b s : Pending) (e : FrameFault) (end : Option FrameFault) → HasGiven due text ps b → IsStream due text ps end (rest_place b) → at_end end b ≡ refused e → s ≡ record b { fault = Some e } → HasGiven due text ps s × IsStream due text ps (Some e) (rest_place s)
refuses_at due text ps b s e None h x r same = absurd cc
refuses_at due text ps b s e (Some d) h x r same =
    let y : IsStream due text ps (Some e) (rest_place b) = subst (λ (f : FrameFault). IsStream due text ps (Some f) (rest_place b)) (refused_same d e r) x in
    subst (λ (z : Pending). HasGiven due text ps z × IsStream due text ps (Some e) (rest_place z)) (sym same) (kept due text ps b (Some e) b.held h, y)

-- one frame more
frame_given : (due : Bool) (text : List ℕ) (ps : List (ℕ × Frame)) (p : ℕ × Frame) (r s : Pending) → Sees due text ps (begun r) → given r ≡ answer (placed p) s → HasGiven due text (ps ++ p ∷ []) s
frame_given due text ps p r s (inl x) e = absurd (no_frame_at x.end (begun r) p s (sym (given_is r (ending x.end) x.sees) ∙ e))
frame_given due text ps p r s (inr x) e =
    let same = answer_is (placed ((begun r).at, x.found.0)) (placed p) (advanced x.found.1 (begun r)) s (sym (given_is r (read_of x.found) x.sees) ∙ e) in
    let first : ((begun r).at, x.found.0) ≡ p = placed_same ((begun r).at, x.found.0) p same.0 in
    subst (λ (z : Pending). HasGiven due text (ps ++ p ∷ []) z) same.1 (subst (λ (z : ℕ × Frame). HasGiven due text (ps ++ z ∷ []) (advanced x.found.1 (begun r))) first x.next)

-- there is none: the frames that were given are all of them
none_given : (due : Bool) (text : List ℕ) (ps : List (ℕ × Frame)) (r s : Pending) → Sees due text ps (begun r) → given r ≡ answer None s → HasGiven due text ps s × IsStream due text ps None (rest_place s)
none_given due text ps r s (inl x) e = waits_at due text ps (begun r) s x.end x.stands x.reading (sym (given_is r (ending x.end) x.sees) ∙ e)
none_given due text ps r s (inr x) e =
    let none : placed ((begun r).at, x.found.0) ≡ None = (answer_is (placed ((begun r).at, x.found.0)) None (advanced x.found.1 (begun r)) s (sym (given_is r (read_of x.found) x.sees) ∙ e)).0 in
    absurd cc

-- a refusal: likewise
refusal_given : (due : Bool) (text : List ℕ) (ps : List (ℕ × Frame)) (e : FrameFault) (r s : Pending) → Sees due text ps (begun r) → given r ≡ refused e → s ≡ record (begun r) { fault = Some e } → HasGiven due text ps s × IsStream due text ps (Some e) (rest_place s)
refusal_given due text ps e r s (inl x) h same = refuses_at due text ps (begun r) s e x.end x.stands x.reading (sym (given_is r (ending x.end) x.sees) ∙ h) same
refusal_given due text ps e r s (inr x) h same =
    let never : answer (placed ((begun r).at, x.found.0)) (advanced x.found.1 (begun r)) ≡ refused e = sym (given_is r (read_of x.found) x.sees) ∙ h in
    absurd cc

-- a refusal for another reason than memory tells a fault of the bytes
is_refused : (e : FrameFault) (q : Step) → e ≢ faults.OutOfMemory → Fails e q → q ≡ refused e
is_refused faults.OutOfMemory q ne h = absurd (ne refl)
is_refused (faults.BadPreface at) q ne h = h
is_refused (faults.TooLong at) q ne h = h
is_refused (faults.BadLength at) q ne h = h
is_refused (faults.BadPadding at) q ne h = h
is_refused (faults.BadStream at) q ne h = h

pub gives : (due : Bool) (text : List ℕ) (ps : List (ℕ × Frame)) (p : ℕ × Frame) (r s : Pending) → IsBytes text → HasGiven due text ps r → Answers r s (Ok (Some p)) → HasGiven due text (ps ++ p ∷ []) s
gives due text ps p r s fits h e = frame_given due text ps p r s (sees_all due text ps r fits h) e

pub waits : (due : Bool) (text : List ℕ) (ps : List (ℕ × Frame)) (r s : Pending) → IsBytes text → HasGiven due text ps r → Answers r s (Ok None) → HasGiven due text ps s × IsStream due text ps None (rest_place s)
waits due text ps r s fits h e = none_given due text ps r s (sees_all due text ps r fits h) e

pub refuses : (due : Bool) (text : List ℕ) (ps : List (ℕ × Frame)) (e : FrameFault) (r s : Pending) → IsBytes text → HasGiven due text ps r → e ≢ faults.OutOfMemory → Answers r s (Err e) → HasGiven due text ps s × IsStream due text ps (Some e) (rest_place s)
refuses due text ps e r s fits h ne a = refusal_given due text ps e r s (sees_all due text ps r fits h) (is_refused e (given r) ne a.0) a.1

-- a new reader has given nothing of nothing
pub starts : (due : Bool) → HasGiven due [] [] (fresh due)
starts true = inr (record { due_is = refl; still = refl; at = refl; rest = refl; none = refl })
starts false = inl (record { middle = []; whole = refl; frames = refl; at = refl; begun = refl })

fed_none : (due : Bool) (text bytes : List ℕ) (ps : List (ℕ × Frame)) (r : Pending) → HasGiven due text ps r → HasGiven due (text ++ bytes) ps (record r { rest = r.rest ++ bytes; held = r.held + length bytes })
fed_none due text bytes ps r (inl x) = inl (record {
  middle = x.middle;
  whole = ap (λ (ys : List ℕ). ys ++ bytes) x.whole ∙ append_assoc (front_of due) (x.middle ++ r.rest) bytes ∙ ap (λ (ys : List ℕ). front_of due ++ ys) (append_assoc x.middle r.rest bytes);
  frames = x.frames;
  at = x.at;
  begun = x.begun;
})
fed_none due text bytes ps r (inr x) = inr (record { due_is = x.due_is; still = x.still; at = x.at; rest = ap (λ (ys : List ℕ). ys ++ bytes) x.rest; none = x.none })

-- feeding gives nothing out
pub feeds : (due : Bool) (text bytes : List ℕ) (ps : List (ℕ × Frame)) (r : Pending) → r.fault ≡ None → HasGiven due text ps r → HasGiven due (text ++ bytes) ps (fed bytes r)
feeds due text bytes ps r sound h = subst (λ (o : Option FrameFault). HasGiven due (text ++ bytes) ps (fed_by o bytes r)) (sym sound) (fed_none due text bytes ps r h)

-- ---- a fault stays

header_more : (text behind_it more : List ℕ) (h : Header) → HasHeader text h behind_it → HasHeader (text ++ more) h (behind_it ++ more)
header_more text behind_it more h x = record { bit = x.bit; bit_small = x.bit_small; on_small = x.on_small; whole = ap (λ (ys : List ℕ). ys ++ more) x.whole }

fault_more : (at : ℕ) (text more : List ℕ) (e : FrameFault) → HasOffence at text e ⊎ IsOverpadded at text e → HasOffence at (text ++ more) e ⊎ IsOverpadded at (text ++ more) e
fault_more at text more e (inl x) = inl (record { header = x.header; behind = x.behind ++ more; begins = header_more text x.behind more x.header x.begins; offends = x.offends })
fault_more at text more e (inr x) =
    let fits : x.header.len ≤ length x.behind = x.fits in
    inr (record {
      header = x.header;
      behind = x.behind ++ more;
      begins = header_more text x.behind more x.header x.begins;
      sound = x.sound;
      fits = omega (arith, fits, length-append x.behind more);
      padded = x.padded;
      skip = x.skip;
      skipped = x.skipped;
      pad = x.pad;
      fields = x.fields;
      left = x.left;
      fields_len = x.fields_len;
      payload = take-append-le x.header.len x.behind more fits ∙ x.payload;
      over = x.over;
      fault = x.fault;
    })

place_same : (at : ℕ) (text more : List ℕ) → 0 < length text → place_of at text ≡ place_of at (text ++ more)
place_same at text more h =
    let one : eqb (length text) 0 ≡ false = ne_eqb (length text) 0 (λ e. omega arith) in
    let two : eqb (length (text ++ more)) 0 ≡ false = ne_eqb (length (text ++ more)) 0 (λ e. omega (arith, length-append text more)) in
    rw (one, two) refl

fault_long : (at : ℕ) (text : List ℕ) (e : FrameFault) → HasOffence at text e ⊎ IsOverpadded at text e → 0 < length text
fault_long at text e (inl x) = omega (arith, ap length x.begins.whole)
fault_long at text e (inr x) = omega (arith, ap length x.begins.whole)

pub stays : (due : Bool) (text more : List ℕ) (ps : List (ℕ × Frame)) (e : FrameFault) (n : Option ℕ) → IsStream due text ps (Some e) n → IsStream due (text ++ more) ps (Some e) n
stays due text more ps e n (inl x) = inl (record {
  middle = x.middle;
  rest = x.rest ++ more;
  whole = ap (λ (ys : List ℕ). ys ++ more) x.whole ∙ append_assoc (front_of due) (x.middle ++ x.rest) more ∙ ap (λ (ys : List ℕ). front_of due ++ ys) (append_assoc x.middle x.rest more);
  frames = x.frames;
  rest_is = fault_more (length (front_of due) + length x.middle) x.rest more e x.rest_is;
  place_is = x.place_is ∙ place_same (length (front_of due) + length x.middle) x.rest more (fault_long (length (front_of due) + length x.middle) x.rest e x.rest_is);
})
stays due text more ps e n (inr x) =
    let d = x.2 in
    let some : 0 < length text = omega (arith, ap length d.found_is, length-append d.front (d.found ∷ d.found_behind)) in
    inr (
      x.0,
      x.1,
      record {
        front = d.front;
        wanted = d.wanted;
        found = d.found;
        wanted_behind = d.wanted_behind;
        found_behind = d.found_behind ++ more;
        wanted_is = d.wanted_is;
        found_is = ap (λ (ys : List ℕ). ys ++ more) d.found_is ∙ append_assoc d.front (d.found ∷ d.found_behind) more;
        other = d.other;
        fault = d.fault;
      },
      x.3 ∙ place_same 0 text more some,
    )

-- ---- a run

bytes_before : (first rest : List ℕ) → IsBytes (first ++ rest) → IsBytes first
bytes_before first rest h = subst IsBytes (take_at first rest (length first) refl) (IsBytes-take (length first) (first ++ rest) h)

-- from any reader, a run gives the frames of what was fed before and of what is fed
runs_from : (due : Bool) (text : List ℕ) (ps : List (ℕ × Frame)) (r s : Pending) (es : List Event) → IsBytes (text ++ bytes_of es) → HasGiven due text ps r → Runs r es s → HasGiven due (text ++ bytes_of es) (ps ++ frames_of es) s
runs_from due text ps r s [] fits h run =
    subst (λ (x : Pending). HasGiven due (text ++ []) (ps ++ []) x) run (subst (λ (zs : List (ℕ × Frame)). HasGiven due (text ++ []) zs r) (sym (append-nil ps)) (subst (λ (ys : List ℕ). HasGiven due ys ps r) (sym (append-nil text)) h))
runs_from due text ps r s (piece bytes ∷ es) fits h run =
    let whole : (text ++ bytes) ++ bytes_of es ≡ text ++ (bytes ++ bytes_of es) = append_assoc text bytes (bytes_of es) in
    subst (λ (ys : List ℕ). HasGiven due ys (ps ++ frames_of es) s) whole (runs_from due (text ++ bytes) ps (fed bytes r) s es (subst IsBytes (sym whole) fits) (feeds due text bytes ps r run.0 h) run.1)
runs_from due text ps r s (frame p ∷ es) fits h run =
    let next : HasGiven due text (ps ++ p ∷ []) run.0 = gives due text ps p r run.0 (bytes_before text (bytes_of es) fits) h run.1 in
    subst (λ (zs : List (ℕ × Frame)). HasGiven due (text ++ bytes_of es) zs s) (append_assoc ps (p ∷ []) (frames_of es)) (runs_from due text (ps ++ p ∷ []) run.0 s es fits next run.2)
runs_from due text ps r s (waited ∷ es) fits h run =
    runs_from due text ps run.0 s es fits (waits due text ps r run.0 (bytes_before text (bytes_of es) fits) h run.1).0 run.2

-- a run of a new reader gives the frames of all bytes that were fed
pub runs : (due : Bool) (s : Pending) (es : List Event) → IsBytes (bytes_of es) → Runs (fresh due) es s → HasGiven due (bytes_of es) (frames_of es) s
runs due s es fits run = runs_from due [] [] (fresh due) s es fits (starts due) run

-- where a run gives no more, it has given all
pub runs_wait : (due : Bool) (s t : Pending) (es : List Event) → IsBytes (bytes_of es) → Runs (fresh due) es s → Answers s t (Ok None) → IsStream due (bytes_of es) (frames_of es) None (rest_place t)
runs_wait due s t es fits run a = (waits due (bytes_of es) (frames_of es) s t fits (runs due s es fits run) a).1

pub runs_refuse : (due : Bool) (e : FrameFault) (s t : Pending) (es : List Event) → IsBytes (bytes_of es) → Runs (fresh due) es s → e ≢ faults.OutOfMemory → Answers s t (Err e) → IsStream due (bytes_of es) (frames_of es) (Some e) (rest_place t)
runs_refuse due e s t es fits run ne a = (refuses due (bytes_of es) (frames_of es) e s t fits (runs due s es fits run) ne a).1
