-- Elements of lists: what holds of each of them, what a filter keeps, and what is found.
use Rattle.std.proofs.Common.{◌≡◌, ℕ, zero, suc, Bool, true, false, cond, List, [], ◌∷◌, ◌++◌, map, take, Option, Some, None, inl, inr, refl, sym, ap, subst, ◌∙◌, arith}
use Rattle.std.specs.Prelude.{filter, find, is_some, Contains, ◌⊎◌, ◌||◌}
use Rattle.std.specs.Option.{option_map}
use Rattle.std.proofs.lemmas.Option.{same_Some}
use Rattle.std.specs.List.{AllByRecursion, list_any}
use Rattle.std.proofs.lemmas.Bool.{cond-true, cond-false, or_parts}
use Rattle.std.proofs.lemmas.List.Elements.{All-filter, All-from_recursion, recursion_from_All, All-append, All-push, All-take, All-contains}

-- ---- what holds of each element, by recursion

pub every_filter : {X : Type 0} (P : X → Type 0) (p : X → Bool) (xs : List X) → AllByRecursion P xs → AllByRecursion P (filter p xs)
every_filter P p xs h = recursion_from_All P (filter p xs) (All-filter p P xs (All-from_recursion P xs h))

pub every_push : {X : Type 0} (P : X → Type 0) (xs : List X) (x : X) → AllByRecursion P xs → P x → AllByRecursion P (xs ++ x ∷ [])
every_push P xs x h q = recursion_from_All P (xs ++ x ∷ []) (All-push P xs x (All-from_recursion P xs h) q)

pub every_append : {X : Type 0} (P : X → Type 0) (xs ys : List X) → AllByRecursion P xs → AllByRecursion P ys → AllByRecursion P (xs ++ ys)
every_append P xs ys h q = recursion_from_All P (xs ++ ys) (All-append P xs ys (All-from_recursion P xs h) (All-from_recursion P ys q))

pub every_take : {X : Type 0} (P : X → Type 0) (n : ℕ) (xs : List X) → AllByRecursion P xs → AllByRecursion P (take n xs)
every_take P n xs h = recursion_from_All P (take n xs) (All-take P n xs (All-from_recursion P xs h))

-- what is weaker holds of each too
pub every_weaker : {X : Type 0} (P Q : X → Type 0) → ((x : X) → P x → Q x) → (xs : List X) → AllByRecursion P xs → AllByRecursion Q xs
every_weaker P Q f [] h = tt
every_weaker P Q f (x ∷ xs) h = (f x h.0, every_weaker P Q f xs h.1)

-- what a change of each element makes of what holds of it
pub every_map : {X Y : Type 0} (P : X → Type 0) (Q : Y → Type 0) (f : X → Y) → ((x : X) → P x → Q (f x)) → (xs : List X) → AllByRecursion P xs → AllByRecursion Q (map f xs)
every_map P Q f step [] h = tt
every_map P Q f step (x ∷ xs) h = (step x h.0, every_map P Q f step xs h.1)

-- it holds of one that the list contains, and follows from those
pub every_contains : {X : Type 0} (P : X → Type 0) (xs : List X) (x : X) → AllByRecursion P xs → Contains xs x → P x
every_contains P xs x h has = All-contains P xs x (All-from_recursion P xs h) has

-- ---- what a list contains

pub has_first : {X : Type 0} (x : X) (xs : List X) → Contains (x ∷ xs) x
has_first x xs = (0, omega arith, refl)

pub has_later : {X : Type 0} (x y : X) (xs : List X) → Contains xs y → Contains (x ∷ xs) y
has_later x y xs has = (suc has.0, omega arith, has.2)

pub has_cases : {X : Type 0} (x y : X) (xs : List X) → Contains (x ∷ xs) y → (x ≡ y) ⊎ Contains xs y
has_cases x y xs (zero, lt, is) = inl is
has_cases x y xs (suc k, lt, is) = inr (k, omega arith, is)

pub every_has : {X : Type 0} (P : X → Type 0) (xs : List X) → ((x : X) → Contains xs x → P x) → AllByRecursion P xs
every_has P [] f = tt
every_has P (x ∷ xs) f = (f x (has_first x xs), every_has P xs (λ y has. f y (has_later x y xs has)))

pub has_map : {X Y : Type 0} (f : X → Y) (xs : List X) (x : X) → Contains xs x → Contains (map f xs) (f x)
has_map f [] x has = absurd (omega (arith, has.1))
has_map f (first ∷ xs) x has =
    elim (has_cases first x xs has) [
      | inl is ↦ subst (λ y. Contains (f first ∷ map f xs) (f y)) is (has_first (f first) (map f xs))
      | inr later ↦ has_later (f first) (f x) (map f xs) (has_map f xs x later)
    ]

pub has_from_map : {X Y : Type 0} (f : X → Y) (xs : List X) (y : Y) → Contains (map f xs) y → (x : X) × Contains xs x × (f x ≡ y)
has_from_map f [] y has = absurd (omega (arith, has.1))
has_from_map f (first ∷ xs) y has =
    elim (has_cases (f first) y (map f xs) has) [
      | inl is ↦ (first, has_first first xs, is)
      | inr later ↦ let r = has_from_map f xs y later in (r.0, has_later first r.0 xs r.1, r.2)
    ]

-- ---- what a filter keeps

-- in each, b says whether the first element is kept
kept_has : {X : Type 0} (b : Bool) (x y : X) (kept : List X) → Contains kept y → Contains (cond b (x ∷ kept) kept) y
kept_has true x y kept has = has_later x y kept has
kept_has false x y kept has = has

kept_first : {X : Type 0} (b : Bool) (x : X) (kept : List X) → b ≡ true → Contains (cond b (x ∷ kept) kept) x
kept_first true x kept e = has_first x kept
kept_first false x kept e = absurd cc

kept_cases : {X : Type 0} (b : Bool) (x y : X) (kept : List X) → Contains (cond b (x ∷ kept) kept) y → ((b ≡ true) × (x ≡ y)) ⊎ Contains kept y
kept_cases true x y kept has = elim (has_cases x y kept has) [ inl is ↦ inl (refl, is) | inr later ↦ inr later ]
kept_cases false x y kept has = inr has

pub has_filter : {X : Type 0} (p : X → Bool) (xs : List X) (x : X) → Contains xs x → p x ≡ true → Contains (filter p xs) x
has_filter p [] x has pass = absurd (omega (arith, has.1))
has_filter p (first ∷ xs) x has pass =
    elim (has_cases first x xs has) [
      | inl is ↦ subst (λ y. Contains (cond (p first) (first ∷ filter p xs) (filter p xs)) y) is (kept_first (p first) first (filter p xs) (ap p is ∙ pass))
      | inr later ↦ kept_has (p first) first x (filter p xs) (has_filter p xs x later pass)
    ]

pub has_from_filter : {X : Type 0} (p : X → Bool) (xs : List X) (x : X) → Contains (filter p xs) x → Contains xs x × (p x ≡ true)
has_from_filter p [] x has = absurd (omega (arith, has.1))
has_from_filter p (first ∷ xs) x has =
    elim (kept_cases (p first) first x (filter p xs) has) [
      | inl (pass, is) ↦ (subst (λ y. Contains (first ∷ xs) y) is (has_first first xs), ap p (sym is) ∙ pass)
      | inr later ↦ let r = has_from_filter p xs x later in (has_later first x xs r.0, r.1)
    ]

-- two tests that agree at each element of the list keep the same elements
pub filter_same_on : {X : Type 0} (p q : X → Bool) (xs : List X) → AllByRecursion (λ x. p x ≡ q x) xs → filter p xs ≡ filter q xs
filter_same_on p q [] h = refl
filter_same_on p q (x ∷ xs) h = ap (λ b. cond b (x ∷ filter p xs) (filter p xs)) h.0 ∙ ap (λ rest. cond (q x) (x ∷ rest) rest) (filter_same_on p q xs h.1)

-- a filter that all pass takes nothing
pub filter_all : {X : Type 0} (p : X → Bool) (xs : List X) → AllByRecursion (λ x. p x ≡ true) xs → filter p xs ≡ xs
filter_all p [] h = refl
filter_all p (x ∷ xs) h = cond-true (p x) (x ∷ filter p xs) (filter p xs) h.0 ∙ ap (λ rest. x ∷ rest) (filter_all p xs h.1)

-- in each, a and b are what the tests answer of the first element
swap_by : {X : Type 0} (p q : X → Bool) (x : X) (a b : Bool) (xs : List X) → p x ≡ a → q x ≡ b → filter p (filter q xs) ≡ filter q (filter p xs)
    → filter p (cond b (x ∷ filter q xs) (filter q xs)) ≡ filter q (cond a (x ∷ filter p xs) (filter p xs))
swap_by p q x true true xs e f h =
    cond-true (p x) (x ∷ filter p (filter q xs)) (filter p (filter q xs)) e ∙ ap (λ rest. x ∷ rest) h ∙ sym (cond-true (q x) (x ∷ filter q (filter p xs)) (filter q (filter p xs)) f)
swap_by p q x true false xs e f h = h ∙ sym (cond-false (q x) (x ∷ filter q (filter p xs)) (filter q (filter p xs)) f)
swap_by p q x false true xs e f h = cond-false (p x) (x ∷ filter p (filter q xs)) (filter p (filter q xs)) e ∙ h
swap_by p q x false false xs e f h = h

-- the order of two filters doesn't matter
pub filter_swap : {X : Type 0} (p q : X → Bool) (xs : List X) → filter p (filter q xs) ≡ filter q (filter p xs)
filter_swap p q [] = refl
filter_swap p q (x ∷ xs) = swap_by p q x (p x) (q x) xs refl refl (filter_swap p q xs)

inner_by : {X : Type 0} (p q : X → Bool) (x : X) (a b : Bool) (xs : List X) → p x ≡ a → q x ≡ b → (b ≡ true → a ≡ true) → filter q (filter p xs) ≡ filter q xs
    → filter q (cond a (x ∷ filter p xs) (filter p xs)) ≡ cond b (x ∷ filter q xs) (filter q xs)
inner_by p q x true true xs e f h same = cond-true (q x) (x ∷ filter q (filter p xs)) (filter q (filter p xs)) f ∙ ap (λ rest. x ∷ rest) same
inner_by p q x true false xs e f h same = cond-false (q x) (x ∷ filter q (filter p xs)) (filter q (filter p xs)) f ∙ same
inner_by p q x false true xs e f h same = absurd (let t = h refl in cc)
inner_by p q x false false xs e f h same = same

-- a filter that takes nothing which the next one keeps doesn't matter
pub filter_inner : {X : Type 0} (p q : X → Bool) (xs : List X) → AllByRecursion (λ x. q x ≡ true → p x ≡ true) xs → filter q (filter p xs) ≡ filter q xs
filter_inner p q [] h = refl
filter_inner p q (x ∷ xs) h = inner_by p q x (p x) (q x) xs refl refl h.0 (filter_inner p q xs h.1)

map_by : {X Y : Type 0} (f : X → Y) (x : X) (b : Bool) (xs : List X) → map f (cond b (x ∷ xs) xs) ≡ cond b (f x ∷ map f xs) (map f xs)
map_by f x true xs = refl
map_by f x false xs = refl

-- a filter after a change of each element is one before it, by what the change gives
pub filter_of_map : {X Y : Type 0} (f : X → Y) (p : Y → Bool) (xs : List X) → filter p (map f xs) ≡ map f (filter (λ x. p (f x)) xs)
filter_of_map f p [] = refl
filter_of_map f p (x ∷ xs) = ap (λ rest. cond (p (f x)) (f x ∷ rest) rest) (filter_of_map f p xs) ∙ sym (map_by f x (p (f x)) (filter (λ y. p (f y)) xs))

-- ---- what passes a test

pub none_pass : {X : Type 0} (p : X → Bool) (xs : List X) → list_any p xs ≡ false → AllByRecursion (λ x. p x ≡ false) xs
none_pass p [] e = tt
none_pass p (x ∷ xs) e = let parts = or_parts (p x) (list_any p xs) e in (parts.0, none_pass p xs parts.1)

-- ---- what is found

found_by : {X : Type 0} (p : X → Bool) (first x : X) (xs : List X) (b : Bool) → p first ≡ b → (find p xs ≡ Some x → Contains xs x × (p x ≡ true)) → cond b (Some first) (find p xs) ≡ Some x → Contains (first ∷ xs) x × (p x ≡ true)
found_by p first x xs true e h is = let same : first ≡ x = same_Some first x is in (subst (λ y. Contains (first ∷ xs) y) same (has_first first xs), ap p (sym same) ∙ e)
found_by p first x xs false e h is = let r = h is in (has_later first x xs r.0, r.1)

-- what is found is there and passes
pub find_has : {X : Type 0} (p : X → Bool) (xs : List X) (x : X) → find p xs ≡ Some x → Contains xs x × (p x ≡ true)
find_has p [] x e = absurd cc
find_has p (first ∷ xs) x e = found_by p first x xs (p first) refl (find_has p xs x) e

missed_by : {X : Type 0} (p : X → Bool) (first : X) (xs : List X) (b : Bool) → p first ≡ b → (find p xs ≡ None → AllByRecursion (λ x. p x ≡ false) xs) → cond b (Some first) (find p xs) ≡ None → AllByRecursion (λ x. p x ≡ false) (first ∷ xs)
missed_by p first xs true e h is = absurd cc
missed_by p first xs false e h is = (e, h is)

-- nothing is found exactly where none passes
pub find_missed : {X : Type 0} (p : X → Bool) (xs : List X) → find p xs ≡ None → AllByRecursion (λ x. p x ≡ false) xs
find_missed p [] e = tt
find_missed p (first ∷ xs) e = missed_by p first xs (p first) refl (find_missed p xs) e

pub find_none : {X : Type 0} (p : X → Bool) (xs : List X) → AllByRecursion (λ x. p x ≡ false) xs → find p xs ≡ None
find_none p [] h = refl
find_none p (x ∷ xs) h = cond-false (p x) (Some x) (find p xs) h.0 ∙ find_none p xs h.1

find_kept_by : {X : Type 0} (p : X → Bool) (x : X) (kept : List X) (o : Option X) (k t : Bool) → p x ≡ t → (t ≡ true → k ≡ true) → find p kept ≡ o → find p (cond k (x ∷ kept) kept) ≡ cond t (Some x) o
find_kept_by p x kept o true true e h same = cond-true (p x) (Some x) (find p kept) e
find_kept_by p x kept o true false e h same = cond-false (p x) (Some x) (find p kept) e ∙ same
find_kept_by p x kept o false true e h same = absurd (let t = h refl in cc)
find_kept_by p x kept o false false e h same = same

-- a filter that keeps all that may be found doesn't matter
pub find_kept : {X : Type 0} (p keep : X → Bool) (xs : List X) → AllByRecursion (λ x. p x ≡ true → keep x ≡ true) xs → find p (filter keep xs) ≡ find p xs
find_kept p keep [] h = refl
find_kept p keep (x ∷ xs) h = find_kept_by p x (filter keep xs) (find p xs) (keep x) (p x) refl h.0 (find_kept p keep xs h.1)

map_found : {X : Type 0} (f : X → X) (b : Bool) (x : X) (o : Option X) → cond b (Some (f x)) (option_map f o) ≡ option_map f (cond b (Some x) o)
map_found f true x o = refl
map_found f false x o = refl

-- a change that keeps the test doesn't matter for which one is found
pub find_of_map : {X : Type 0} (f : X → X) (p : X → Bool) (xs : List X) → ((x : X) → p (f x) ≡ p x) → find p (map f xs) ≡ option_map f (find p xs)
find_of_map f p [] h = refl
find_of_map f p (x ∷ xs) h =
    ap (λ b. cond b (Some (f x)) (find p (map f xs))) (h x)
    ∙ ap (λ o. cond (p x) (Some (f x)) o) (find_of_map f p xs h)
    ∙ map_found f (p x) x (find p xs)

-- a test passes somewhere where something is found
some_by : {X : Type 0} (p : X → Bool) (x : X) (xs : List X) (b : Bool) → list_any p xs ≡ is_some (find p xs) → (b || list_any p xs) ≡ is_some (cond b (Some x) (find p xs))
some_by p x xs true h = refl
some_by p x xs false h = h

pub some_found : {X : Type 0} (p : X → Bool) (xs : List X) → list_any p xs ≡ is_some (find p xs)
some_found p [] = refl
some_found p (x ∷ xs) = some_by p x xs (p x) (some_found p xs)
