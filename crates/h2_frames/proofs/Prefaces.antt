-- The preface, and bytes that are compared with it.
use Rattle.std.proofs.Common.{◌≡◌, ◌≢◌, ℕ, suc, ◌+◌, ◌<◌, ◌≤◌, inl, inr, Bool, true, false, eqb, leb, Result, Ok, Err, Option, Some, None, List, [], ◌∷◌, ◌++◌, length, take, drop, refl, sym, ap, ◌∙◌, arith}
use Rattle.std.proofs.lemmas.Bool.{eqb-true, eqb-false, eq-eqb, ne_eqb, leb-true, leb-false, le-leb, lt-leb}
use Rattle.std.proofs.lemmas.List.{length-append, length-drop, take-append-drop, take_all}
use Rattle.proto_wire.proofs.Steps.{chosen}
use Rattle.h2_frames.specs.declared.fault.FrameFault.{FrameFault}
use Rattle.h2_frames.specs.declared.fault.FrameFault.TheVariants as faults
use Rattle.h2_frames.specs.Stream.{preface, difference, whole_or_fault, preface_at}
use Rattle.h2_frames.specs.Grammar.{IsPrefaceRest}

pub preface_len : length preface ≡ 24
unfolding preface
preface_len = refl

-- ---- two lists that are compared

step_same : (at p b : ℕ) (ps bs : List ℕ) → p ≡ b → difference at (p ∷ ps) (b ∷ bs) ≡ difference (at + 1) ps bs
unfolding difference
step_same at p b ps bs e = rw (eq-eqb p b e) refl

none_front : (at : ℕ) (ps bs : List ℕ) → difference at ps bs ≡ None → take (length ps) bs ≡ take (length bs) ps
unfolding difference
none_front at [] [] e = refl
none_front at [] (b ∷ bs) e = refl
none_front at (p ∷ ps) [] e = refl
none_front at (p ∷ ps) (b ∷ bs) e =
    elim (chosen (eqb p b) (difference (at + 1) ps bs) (Some at) None e) [
      | inl q ↦ ap (λ (ys : List ℕ). b ∷ ys) (none_front (at + 1) ps bs q.1) ∙ ap (λ (n : ℕ). n ∷ take (length bs) ps) (sym (eqb-true p b q.0))
      | inr q ↦ absurd cc
    ]

-- where two lists differ
pub record Parts (at : ℕ) (ps bs : List ℕ) (k : ℕ) : Type 0 where
  pub front : List ℕ
  pub wanted : ℕ
  pub found : ℕ
  pub wanted_behind : List ℕ
  pub found_behind : List ℕ
  pub wanted_is : ps ≡ front ++ (wanted ∷ wanted_behind)
  pub found_is : bs ≡ front ++ (found ∷ found_behind)
  pub other : wanted ≢ found
  pub place : k ≡ at + length front

some_parts : (at : ℕ) (ps bs : List ℕ) (k : ℕ) → difference at ps bs ≡ Some k → Parts at ps bs k
unfolding difference
some_parts at [] [] k e = absurd cc
some_parts at [] (b ∷ bs) k e = absurd cc
some_parts at (p ∷ ps) [] k e = absurd cc
some_parts at (p ∷ ps) (b ∷ bs) k e =
    elim (chosen (eqb p b) (difference (at + 1) ps bs) (Some at) (Some k) e) [
      | inl q ↦
          let x = some_parts (at + 1) ps bs k q.1 in
          record {
            front = p ∷ x.front;
            wanted = x.wanted;
            found = x.found;
            wanted_behind = x.wanted_behind;
            found_behind = x.found_behind;
            wanted_is = ap (λ (ys : List ℕ). p ∷ ys) x.wanted_is;
            found_is = ap (λ (ys : List ℕ). b ∷ ys) x.found_is ∙ ap (λ (n : ℕ). n ∷ (x.front ++ (x.found ∷ x.found_behind))) (sym (eqb-true p b q.0));
            other = x.other;
            place = omega (arith, x.place);
          }
      | inr q ↦
          let same : at ≡ k = cc in
          record { front = []; wanted = p; found = b; wanted_behind = ps; found_behind = bs; wanted_is = refl; found_is = refl; other = eqb-false p b q.0; place = omega (arith, same) }
    ]

front_none : (at : ℕ) (ps more : List ℕ) → difference at ps (ps ++ more) ≡ None
unfolding difference
front_none at [] more = refl
front_none at (p ∷ ps) more = rw (eq-eqb p p refl) (front_none (at + 1) ps more)

part_none : (at : ℕ) (bs more : List ℕ) → difference at (bs ++ more) bs ≡ None
unfolding difference
part_none at [] [] = refl
part_none at [] (m ∷ ms) = refl
part_none at (b ∷ bs) more = rw (eq-eqb b b refl) (part_none (at + 1) bs more)

other_some : (at w f : ℕ) (front ws fs : List ℕ) → w ≢ f → difference at (front ++ (w ∷ ws)) (front ++ (f ∷ fs)) ≡ Some (at + length front)
unfolding difference
other_some at w f [] ws fs ne = let here : at ≡ at + 0 = omega arith in rw (ne_eqb w f ne) (ap (λ (n : ℕ). Some n) here)
other_some at w f (x ∷ front) ws fs ne =
    let far : at + 1 + length front ≡ at + suc (length front) = omega arith in
    rw (eq-eqb x x refl) (other_some (at + 1) w f front ws fs ne ∙ ap (λ (n : ℕ). Some n) far)

-- ---- the preface

-- what comparing says of a rest
abbrev pub preface_ending : Option FrameFault → Result Bool FrameFault
preface_ending None = Ok false
preface_ending (Some e) = Err e

pub preface_whole : (more : List ℕ) → preface_at 0 (preface ++ more) ≡ Ok true
unfolding preface_at
preface_whole more =
    let long : leb 24 (length (preface ++ more)) ≡ true = le-leb _ _ (omega (arith, length-append preface more, preface_len)) in
    rw (long, front_none 0 preface more) refl

pub preface_rest_again : (text : List ℕ) (end : Option FrameFault) → IsPrefaceRest text end → preface_at 0 text ≡ preface_ending end
unfolding preface_at
preface_rest_again text None x =
    let short : leb 24 (length text) ≡ false = lt-leb _ _ (omega (arith, preface_len, ap length x.1, length-append text x.0)) in
    let same : difference 0 preface text ≡ None = ap (λ (ps : List ℕ). difference 0 ps text) x.1 ∙ part_none 0 text x.0 in
    rw (short, same) refl
preface_rest_again text (Some e) x =
    let other : difference 0 preface text ≡ Some (0 + length x.front) = ap (λ (ps : List ℕ). difference 0 ps text) x.wanted_is ∙ ap (difference 0 (x.front ++ (x.wanted ∷ x.wanted_behind))) x.found_is ∙ other_some 0 x.wanted x.found x.front x.wanted_behind x.found_behind x.other in
    let here : 0 + length x.front ≡ length x.front = omega arith in
    rw (other, here) (ap (λ (d : FrameFault). Err d) (sym x.fault))

whole_is : (b : Bool) (o : Option ℕ) (w : Bool) → whole_or_fault b o ≡ Ok w → (b ≡ w) × (o ≡ None)
whole_is b None w e = (cc, refl)
whole_is b (Some at) w e = absurd cc

fault_is : (b : Bool) (o : Option ℕ) (e : FrameFault) → whole_or_fault b o ≡ Err e → (k : ℕ) × (o ≡ Some k) × (e ≡ faults.BadPreface k)
fault_is b None e h = absurd cc
fault_is b (Some k) e h = (k, refl, cc)

pub preface_found : (text : List ℕ) → preface_at 0 text ≡ Ok true → text ≡ preface ++ drop 24 text
unfolding preface_at
preface_found text e =
    let w = whole_is (leb 24 (length text)) (difference 0 preface text) true e in
    let long : 24 ≤ length text = leb-true _ _ w.0 in
    let same : take 24 text ≡ preface = ap (λ (n : ℕ). take n text) (sym preface_len) ∙ none_front 0 preface text w.1 ∙ take_all (length text) preface (omega (arith, preface_len, long)) in
    sym (take-append-drop 24 text) ∙ ap (λ (ys : List ℕ). ys ++ drop 24 text) same

pub preface_rest_found : (text : List ℕ) (end : Option FrameFault) → preface_at 0 text ≡ preface_ending end → IsPrefaceRest text end
unfolding preface_at
preface_rest_found text None e =
    let w = whole_is (leb 24 (length text)) (difference 0 preface text) false e in
    let short : length text < 24 = leb-false _ _ w.0 in
    let same : text ≡ take (length text) preface = sym (take_all (length preface) text (omega (arith, preface_len, short))) ∙ none_front 0 preface text w.1 in
    (drop (length text) preface, sym (take-append-drop (length text) preface) ∙ ap (λ (ys : List ℕ). ys ++ drop (length text) preface) (sym same), omega (arith, length-drop (length text) preface, preface_len, short))
preface_rest_found text (Some e) h =
    let f = fault_is (leb 24 (length text)) (difference 0 preface text) e h in
    let x = some_parts 0 preface text f.0 f.1 in
    let here : f.0 ≡ length x.front = omega (arith, x.place) in
    record {
      front = x.front;
      wanted = x.wanted;
      found = x.found;
      wanted_behind = x.wanted_behind;
      found_behind = x.found_behind;
      wanted_is = x.wanted_is;
      found_is = x.found_is;
      other = x.other;
      fault = f.2 ∙ ap (λ (k : ℕ). faults.BadPreface k) here;
    }
