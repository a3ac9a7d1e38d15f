-- Segments, one after the other.
use Rattle.std.specs.Prelude.{slice_range, ◌-◌, option_map, IfSome, is_some, is_ok, IsOk, ◌↔◌, Result, Ok, Err}
use Rattle.std.proofs.Common.{◌≡◌, ◌+◌, ◌≤◌, ℕ, Bor, subst, take, append_assoc, length-append, Bool, true, false, cond, List, [], ◌∷◌, ◌++◌, length, Option, Some, None, eqb, refl, sym, ap, ◌∙◌, arith}
use Rattle.std.specs.List.{slice_split, onto_first}
use Rattle.std.proofs.lemmas.List.{take-append-le, take_all}
use Rattle.digest_types.specs.Parsing.{before_slash, after_slash}
use Rattle.byte_stream.specs.Names.{segments, segments_behind, two_in}

first_here : (c : ℕ) (cs : List ℕ) (b : Bool) → segments cs ≡ before_slash cs ∷ segments_behind (after_slash cs)
    → cond b ([] ∷ segments cs) (onto_first c (segments cs)) ≡ cond b [] (c ∷ before_slash cs) ∷ segments_behind (cond b (Some cs) (after_slash cs))
first_here c cs true later = refl
first_here c cs false later = rw later refl

-- the first segment ends at the first slash
pub segments_first : (text : List ℕ) → segments text ≡ before_slash text ∷ segments_behind (after_slash text)
segments_first [] = refl
segments_first (c ∷ cs) = first_here c cs (eqb c 47) (segments_first cs)

pub segments_some : (text segment behind : List ℕ) → segment ≡ before_slash text → after_slash text ≡ Some behind → segments text ≡ segment ∷ segments behind
segments_some text segment behind e f = segments_first text ∙ ap (λ (s : List ℕ). s ∷ segments_behind (after_slash text)) (sym e) ∙ ap (λ (o : Option (List ℕ)). segment ∷ segments_behind o) f

pub segments_none : (text : List ℕ) → before_slash text ≡ text → after_slash text ≡ None → segments text ≡ text ∷ []
segments_none text e f = segments_first text ∙ ap (λ (s : List ℕ). s ∷ segments_behind (after_slash text)) e ∙ ap (λ (o : Option (List ℕ)). text ∷ segments_behind o) f

-- ---- the first two

front_of : (xs ys : List ℕ) (n : ℕ) → n ≡ length xs → take n (xs ++ ys) ≡ xs
front_of xs ys n e = rw e (take-append-le (length xs) xs ys (omega arith) ∙ take_all (length xs) xs (omega arith))

front_two : (text first behind second rest : List ℕ) → text ≡ first ++ 47 ∷ behind → behind ≡ second ++ 47 ∷ rest → take (length first + 1 + length second) text ≡ first ++ 47 ∷ second
front_two text first behind second rest e f =
    let whole : text ≡ (first ++ 47 ∷ second) ++ 47 ∷ rest = e ∙ ap (λ (x : List ℕ). first ++ 47 ∷ x) f ∙ sym (append_assoc first (47 ∷ second) (47 ∷ rest)) in
    rw whole (front_of (first ++ 47 ∷ second) (47 ∷ rest) (length first + 1 + length second) (omega (arith, length-append first (47 ∷ second))))

from_front : (text : List ℕ) (n : ℕ) → slice_range text 0 n ≡ take n text
from_front text n = let e : n - 0 ≡ n = omega arith in ap (λ (k : ℕ). take k text) e

more_behind : (first second : List ℕ) (rest : List ℕ) → two_in (first ∷ second ∷ segments rest) ≡ Some (first ++ 47 ∷ second, true)
more_behind first second rest = rw (segments_first rest) refl

pub two_more : (text first behind second rest : List ℕ) → segments text ≡ first ∷ segments behind → segments behind ≡ second ∷ segments rest → text ≡ first ++ 47 ∷ behind → behind ≡ second ++ 47 ∷ rest
    → Some (slice_range text 0 (length first + 1 + length second), true) ≡ two_in (segments text)
two_more text first behind second rest e f g h =
    ap (λ (x : List ℕ). Some (x, true)) (from_front text (length first + 1 + length second) ∙ front_two text first behind second rest g h)
    ∙ sym (ap two_in (e ∙ ap (λ (xs : List (List ℕ)). first ∷ xs) f) ∙ more_behind first second rest)

pub two_only : (text first behind second : List ℕ) → segments text ≡ first ∷ segments behind → segments behind ≡ second ∷ [] → text ≡ first ++ 47 ∷ behind → behind ≡ second → Some (text, false) ≡ two_in (segments text)
two_only text first behind second e f g h =
    ap (λ (x : List ℕ). Some (x, false)) (g ∙ ap (λ (x : List ℕ). first ++ 47 ∷ x) h) ∙ sym (ap two_in (e ∙ ap (λ (xs : List (List ℕ)). first ∷ xs) f))

-- what a first segment tells, where something stands behind it
pub behind_is : (text segment : List ℕ) (o : Option (Bor (List ℕ))) (behind : Bor (List ℕ)) → o ≡ Some behind → segments text ≡ segment ∷ segments_behind (option_map (λ t. t.now) o) → segments text ≡ segment ∷ segments behind.now
behind_is text segment o behind e h = h ∙ ap (λ (p : Option (Bor (List ℕ))). segment ∷ segments_behind (option_map (λ t. t.now) p)) e

pub slash_is : (text segment : List ℕ) (o : Option (Bor (List ℕ))) (behind : Bor (List ℕ)) → o ≡ Some behind → IfSome o (λ t. text ≡ segment ++ 47 ∷ t.now) → text ≡ segment ++ 47 ∷ behind.now
slash_is text segment o behind e h = subst (λ (p : Option (Bor (List ℕ))). IfSome p (λ t. text ≡ segment ++ 47 ∷ t.now)) e h

pub ok_some : {E : Type 0} (r : Result (List ℕ) E) (o : Option (List ℕ)) (b : Bool) → b ≡ is_ok r → (IsOk r ↔ ((u : List ℕ) × (o ≡ Some u))) → b ≡ is_some o
ok_some (Ok u) o b e h = let p = h.0 refl in e ∙ sym (ap is_some p.1)
ok_some (Err x) None b e h = e
ok_some (Err x) (Some u) b e h = cc (h.1 (u, refl))
