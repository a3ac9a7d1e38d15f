-- The names that an ordered set has, as a list.
use Rattle.std.proofs.Common.{◌≡◌, refl, sym, ◌∙◌, ap, ℕ, Bool, true, false, not, ◌||◌, nat_eq, List, [], ◌∷◌, map, Bor}
use Rattle.std.specs.Ordering.{nat_cmp, is_eq, match_ordering}
use Rattle.std.specs.declared.cmp.Ordering.{Ordering}
use Rattle.std.specs.declared.cmp.Ordering.TheVariants.{Less, Equal, Greater}
use Rattle.std.specs.List.{list_any}
use Rattle.std.specs.Cmp.Lexicographic.{slice_cmp, pointwise, bytes_decides, texts_ties, nat_list_eq_equiv}
use Rattle.std.specs.BTreeMap.{is_at}
use Rattle.std.specs.BTreeSet.{insert_key}
use Rattle.directory_canon.specs.Making.{has_name}

abbrev pub text_cmp : Bor (List ℕ) → Bor (List ℕ) → Ordering
text_cmp a b = slice_cmp nat_cmp a.now b.now

abbrev pub texts : List (Bor (List ℕ)) → List (List ℕ)
texts keys = map (λ k. k.now) keys

same : (a b : List ℕ) → is_eq (slice_cmp nat_cmp a b) ≡ pointwise nat_eq b a
same a b = sym (texts_ties a b) ∙ nat_list_eq_equiv.symm a b

-- whether the set has a name
pub has_key : (keys : List (Bor (List ℕ))) (k : Bor (List ℕ)) → list_any (is_at (text_cmp k)) keys ≡ has_name (texts keys) k.now
has_key [] k = refl
has_key (x ∷ xs) k = ap (λ b. b || list_any (is_at (text_cmp k)) xs) (same k.now x.now) ∙ ap (λ b. pointwise nat_eq x.now k.now || b) (has_key xs k)

or_again : (a b : Bool) → (a || b) ≡ (a || (a || b))
or_again true b = refl
or_again false b = refl

or_between : (a b c : Bool) → (a || (b || c)) ≡ (b || (a || c))
or_between true true c = refl
or_between true false c = refl
or_between false true c = refl
or_between false false c = refl

-- a set with one more key has one more name
pub has_more : (keys : List (Bor (List ℕ))) (k : Bor (List ℕ)) (name : List ℕ) → has_name (texts (insert_key text_cmp keys k)) name ≡ (pointwise nat_eq k.now name || has_name (texts keys) name)
has_more [] k name = refl
has_more (x ∷ xs) k name = by (text_cmp k x) refl (has_more xs k name)
  where
    by : (r : Ordering) → text_cmp k x ≡ r → has_name (texts (insert_key text_cmp xs k)) name ≡ (pointwise nat_eq k.now name || has_name (texts xs) name) → has_name (texts (match_ordering r (k ∷ x ∷ xs) (x ∷ xs) (x ∷ insert_key text_cmp xs k))) name ≡ (pointwise nat_eq k.now name || has_name (texts (x ∷ xs)) name)
    by Less e more = refl
    by Equal e more =
        let same_name : x.now ≡ k.now = (bytes_decides x.now k.now).0 (sym (same k.now x.now) ∙ ap is_eq e) in
        or_again (pointwise nat_eq x.now name) (has_name (texts xs) name) ∙ ap (λ (n : List ℕ). pointwise nat_eq n name || (pointwise nat_eq x.now name || has_name (texts xs) name)) same_name
    by Greater e more = ap (λ b. pointwise nat_eq x.now name || b) more ∙ or_between (pointwise nat_eq x.now name) (pointwise nat_eq k.now name) (has_name (texts xs) name)

-- a name that was new, or that was there
pub was_new : (keys : List (Bor (List ℕ))) (k : Bor (List ℕ)) → true ≡ not (list_any (is_at (text_cmp k)) keys) → has_name (texts keys) k.now ≡ false
was_new keys k h = sym (has_key keys k) ∙ flipped _ h
  where
    flipped : (b : Bool) → true ≡ not b → b ≡ false
    flipped true e = e
    flipped false e = refl

pub was_there : (keys : List (Bor (List ℕ))) (k : Bor (List ℕ)) → false ≡ not (list_any (is_at (text_cmp k)) keys) → has_name (texts keys) k.now ≡ true
was_there keys k h = sym (has_key keys k) ∙ flipped _ h
  where
    flipped : (b : Bool) → false ≡ not b → b ≡ true
    flipped true e = refl
    flipped false e = e
