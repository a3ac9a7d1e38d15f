-- The steps of a reader.
use Rattle.std.proofs.Common.{◌≡◌, ℕ, ◌+◌, ◌<◌, ◌≤◌, Bool, true, false, cond, leb, List, length, take, drop, Option, Some, None, Result, Ok, Err, refl, sym, ap, subst, arith}
use Rattle.std.proofs.lemmas.Bool.{leb-true, leb-false}
use Rattle.std.proofs.lemmas.List.{length-take, length-drop}
use Rattle.proto_wire.specs.Steps.{◌>>=◌}
use Rattle.proto_wire.proofs.Steps.{bind_ok, fails_along}
use Rattle.h2_frames.specs.declared.fault.FrameFault.{FrameFault}
use Rattle.h2_frames.specs.declared.frame.Frame.{Frame}
use Rattle.h2_frames.specs.Reading.{wants_memory, Fails}
use Rattle.h2_frames.proofs.Rests.{part_short}
use Rattle.h2_frames.specs.Stream.{Pending, preface, difference, whole_or_fault, preface_at, advanced, behind, begun, seen, give, given}

whole_is : (b : Bool) (o : Option ℕ) (whole : Bool) → whole_or_fault b o ≡ Ok whole → (b ≡ whole) × (o ≡ None)
whole_is b None whole e = (cc, refl)
whole_is b (Some at) whole e = absurd cc

-- a whole preface is there
pub whole_long : (at : ℕ) (text : List ℕ) → preface_at at text ≡ Ok true → 24 ≤ length text
unfolding preface_at
whole_long at text e = leb-true _ _ (whole_is (leb 24 (length text)) (difference at preface text) true e).0

-- what is seen is given
pub given_by : (r b : Pending) (o : Option (Frame × ℕ)) → b ≡ begun r → seen b ≡ Ok o → given r ≡ Ok (give b o)
unfolding given
given_by r b o e s = subst (λ (x : Pending). (seen x >>= λ p. Ok (give x p)) ≡ Ok (give b o)) e (ap (λ (q : Result (Option (Frame × ℕ)) FrameFault). q >>= λ p. Ok (give b p)) s)

failed_by : (r b : Pending) (e : FrameFault) → b ≡ begun r → seen b ≡ Err e → given r ≡ Err e
unfolding given
failed_by r b e is s = subst (λ (x : Pending). (seen x >>= λ p. Ok (give x p)) ≡ Err e) is (ap (λ (q : Result (Option (Frame × ℕ)) FrameFault). q >>= λ p. Ok (give b p)) s)

pub fails_by : (r b : Pending) (e : FrameFault) → b ≡ begun r → Fails e (seen b) → Fails e (given r)
fails_by r b e is s = fails_along wants_memory e (seen b) (given r) (failed_by r b e is) s

pub is_whole : (r : Result Bool FrameFault) (b : Bool) → r ≡ Ok b → b ≡ true → r ≡ Ok true
is_whole r b e t = cc

-- what is known of a slice behind a place is known of the list
pub long_behind : (n k i : ℕ) (xs ys : List ℕ) → n ≤ length (take k (drop i xs)) → xs ≡ ys → n ≤ length (drop i ys)
long_behind n k i xs ys h e = subst (λ (zs : List ℕ). n ≤ length (drop i zs)) e (omega (arith, length-take k (drop i xs)))

-- ---- no byte is lost

abbrev pub count : Pending → ℕ
count r = r.at + length r.rest

pub advanced_count : (len : ℕ) (r : Pending) → len ≤ length r.rest → count (advanced len r) ≡ count r
advanced_count len r h = omega (arith, length-drop len r.rest)

behind_count : (p : Result Bool FrameFault) (r : Pending) → (p ≡ Ok true → 24 ≤ length r.rest) → count (behind p r) ≡ count r
behind_count (Ok true) r h = advanced_count 24 r (h refl)
behind_count (Ok false) r h = refl
behind_count (Err e) r h = refl

behind_fault : (p : Result Bool FrameFault) (r : Pending) → (behind p r).fault ≡ r.fault
behind_fault (Ok true) r = refl
behind_fault (Ok false) r = refl
behind_fault (Err e) r = refl

behind_held : (p : Result Bool FrameFault) (r : Pending) → (behind p r).held ≡ r.held
behind_held (Ok true) r = refl
behind_held (Ok false) r = refl
behind_held (Err e) r = refl

-- what going behind the preface keeps: the count, the refusal, and what is held
abbrev Keeps : Pending → Pending → Type 0
Keeps b r = (count b ≡ count r) × (b.fault ≡ r.fault) × (b.held ≡ r.held)

begun_parts : (b : Bool) (p : Result Bool FrameFault) (r : Pending) → (p ≡ Ok true → 24 ≤ length r.rest) → Keeps (cond b (behind p r) r) r
begun_parts true p r h = (behind_count p r h, behind_fault p r, behind_held p r)
begun_parts false p r h = (refl, refl, refl)

pub begun_keeps : (r b : Pending) → b ≡ begun r → (count b ≡ count r) × (b.fault ≡ r.fault) × (b.held ≡ r.held)
unfolding begun
begun_keeps r b e = subst (λ (x : Pending). Keeps x r) (sym e) (begun_parts r.due (preface_at r.at r.rest) r (whole_long r.at r.rest))

-- ---- how much is kept where there is no frame

preface_short : (at : ℕ) (text : List ℕ) → preface_at at text ≡ Ok false → length text < 24
unfolding preface_at
preface_short at text e = leb-false _ _ (whole_is (leb 24 (length text)) (difference at preface text) false e).0

-- no whole preface is left
not_whole : (due : Bool) (p : Result Bool FrameFault) (r : Pending) → r.due ≡ due → preface_at r.at r.rest ≡ p → (cond due (behind p r) r).due ≡ true → preface_at (cond due (behind p r) r).at (cond due (behind p r) r).rest ≡ Ok true → ⊥
not_whole false p r d e h w = cc
not_whole true (Ok true) r d e h w = cc
not_whole true (Ok false) r d e h w = cc
not_whole true (Err x) r d e h w = cc

begun_not_whole : (r : Pending) → (begun r).due ≡ true → preface_at (begun r).at (begun r).rest ≡ Ok true → ⊥
unfolding begun
begun_not_whole r = not_whole r.due (preface_at r.at r.rest) r refl refl

whole_short : (b : Pending) (whole : Bool) → preface_at b.at b.rest ≡ Ok whole → (preface_at b.at b.rest ≡ Ok true → ⊥) → length b.rest ≤ 16392
whole_short b true e not = absurd (not e)
whole_short b false e not = omega (arith, preface_short b.at b.rest e)

seen_short : (b : Pending) (due : Bool) → b.due ≡ due → (b.due ≡ true → preface_at b.at b.rest ≡ Ok true → ⊥) → seen b ≡ Ok None → length b.rest ≤ 16392
unfolding seen
seen_short b false d not e = part_short b.at b.rest (rw d at e)
seen_short b true d not e =
    let w = bind_ok (preface_at b.at b.rest) (λ whole. Ok None) None (rw d at e) in
    whole_short b w.0 w.1 (not d)

pub limit_by : (r b : Pending) → b ≡ begun r → seen b ≡ Ok None → length b.rest ≤ 16392
limit_by r b is e = subst (λ (x : Pending). seen x ≡ Ok None → length x.rest ≤ 16392) (sym is) (seen_short (begun r) (begun r).due refl (begun_not_whole r)) e
