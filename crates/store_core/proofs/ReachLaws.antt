-- What is reached: by how many steps, by which blobs, and by which roots.
use Rattle.std.proofs.Common.{◌≡◌, ◌↔◌, ◌⊎◌, ℕ, zero, suc, ◌+◌, ◌-◌, ◌<◌, ◌≤◌, Bool, true, false, cond, ◌&&◌, ◌||◌, List, [], ◌∷◌, length, Option, Some, None, filter, Contains, All, refl, sym, ap, subst, ◌∙◌, inl, inr, arith}
use Rattle.std.specs.Prelude.{nat_eq}
use Rattle.std.specs.List.{AllByRecursion, list_any}
use Rattle.std.proofs.lemmas.Bool.{and_parts, and_from, or_cases, or_left, or_right, false_from_ne_true, true_from_ne_false, eq-eqb, cases_lt}
use Rattle.std.proofs.lemmas.List.Elements.{Contains-append_right, All-contains, All-cons, All-nil, All-filter, All-weaker, All-contains_itself}
use Rattle.std.proofs.lemmas.List.Folds.{list_any_at}
use Rattle.std.proofs.lemmas.List.Sums.{length-filter, count_by-le-length}
use Rattle.digest_types.specs.Name.{HashAndSize}
use Rattle.directory_canon.specs.declared.node.Kind.{Kind}
use Rattle.directory_canon.specs.declared.node.Kind.TheVariants as kinds
use Rattle.directory_canon.specs.declared.node.Edge.{Edge}
use Rattle.store_core.specs.State.{same}
use Rattle.store_core.specs.Reach.{Linked, as_file, as_dir, is_reached, kind_number, is_pair, links_to, IsStep, IsPath, within, reaches, is_nearer}
use Rattle.store_core.proofs.Same.{equal_from_same, same_itself}
use Rattle.store_core.proofs.Elements.{has_first}

-- ---- tests and lists

-- two tests are the same where each follows from the other
pub same_tests : (a b : Bool) → (a ≡ true → b ≡ true) → (b ≡ true → a ≡ true) → a ≡ b
same_tests true b there back = sym (there refl)
same_tests false b there back = sym (false_from_ne_true b (λ e. let t = back e in cc))

pub Contains_later : {X : Type 0} (x : X) (xs : List X) (y : X) → Contains xs y → Contains (x ∷ xs) y
Contains_later x xs y h = Contains-append_right (x ∷ []) xs y h

-- an element of a list that passes a test
pub record Passes {X : Type 0} (test : X → Bool) (xs : List X) : Type 0 where
  pub element : X
  pub is_there : Contains xs element
  pub passes : test element ≡ true

-- an answer of some element names one
pub some_passes : {X : Type 0} (test : X → Bool) (xs : List X) → list_any test xs ≡ true → Passes test xs
some_passes test [] e = absurd cc
some_passes test (x ∷ xs) e = elim (or_cases (test x) (list_any test xs) e) [
  | inl h ↦ record { element = x; is_there = has_first x xs; passes = h }
  | inr h ↦ let p = some_passes test xs h in record { element = p.element; is_there = Contains_later x xs p.element p.is_there; passes = p.passes }
]

-- one element that passes settles the answer
pub any_passes : {X : Type 0} (test : X → Bool) (xs : List X) (x : X) → Contains xs x → test x ≡ true → list_any test xs ≡ true
any_passes test xs x h e = list_any_at test xs h.0 x h.1 (ap test h.2 ∙ e)

-- what holds of each value holds along any list
pub every : {X : Type 0} (P : X → Type 0) → ((x : X) → P x) → (xs : List X) → AllByRecursion P xs
every P h [] = tt
every P h (x ∷ xs) = (h x, every P h xs)

-- tests that agree on a list answer the same of it, also beside another test
any_agree : {X : Type 0} (p q r : X → Bool) (xs : List X) → AllByRecursion (λ x. p x ≡ q x) xs
    → list_any (λ x. p x && r x) xs ≡ list_any (λ x. q x && r x) xs
any_agree p q r [] h = refl
any_agree p q r (x ∷ xs) h = rw (h.0, any_agree p q r xs h.1)

-- a test that fails lets none pass, beside another one
any_false : {X : Type 0} (r : X → Bool) (xs : List X) → list_any (λ x. false && r x) xs ≡ false
any_false r [] = refl
any_false r (x ∷ xs) = any_false r xs

or_none : (b : Bool) → b ≡ (b || false)
or_none true = refl
or_none false = refl

filter_fits : {X : Type 0} (p : X → Bool) (xs : List X) → length (filter p xs) ≤ length xs
filter_fits p xs = omega (arith, length-filter p xs, count_by-le-length p xs)

-- of a test and one that passes more, what is kept of a list by each
record Grows {X : Type 0} (p q : X → Bool) (xs : List X) : Type 0 where
  most : length (filter p xs) ≤ length (filter q xs)
  or_same : (length (filter p xs) < length (filter q xs)) ⊎ AllByRecursion (λ x. p x ≡ q x) xs

grows_by : {X : Type 0} (p q : X → Bool) (x : X) (xs : List X) (b c : Bool) → p x ≡ b → q x ≡ c → (b ≡ true → c ≡ true) → Grows p q xs
    → (length (cond b (x ∷ filter p xs) (filter p xs)) ≤ length (cond c (x ∷ filter q xs) (filter q xs)))
    × ((length (cond b (x ∷ filter p xs) (filter p xs)) < length (cond c (x ∷ filter q xs) (filter q xs))) ⊎ AllByRecursion (λ x. p x ≡ q x) (x ∷ xs))
grows_by p q x xs true true ep eq more h = let most = h.most in (omega arith, elim h.or_same [ inl lt ↦ inl (omega arith) | inr same ↦ inr (ep ∙ sym eq, same) ])
grows_by p q x xs true false ep eq more h = absurd (let t = more refl in cc)
grows_by p q x xs false true ep eq more h = let most = h.most in (omega arith, inl (omega arith))
grows_by p q x xs false false ep eq more h = let most = h.most in (omega arith, elim h.or_same [ inl lt ↦ inl (omega arith) | inr same ↦ inr (ep ∙ sym eq, same) ])

-- a test that passes more passes more of a list, or agrees on it
grown : {X : Type 0} (p q : X → Bool) → ((x : X) → p x ≡ true → q x ≡ true) → (xs : List X) → Grows p q xs
grown p q more [] = record { most = omega arith; or_same = inr tt }
grown p q more (x ∷ xs) = let h = grows_by p q x xs (p x) (q x) refl refl (more x) (grown p q more xs) in record { most = h.0; or_same = h.1 }

-- ---- pairs

-- kinds of one number are equal
kind_equal : (k l : Kind) → nat_eq (kind_number k) (kind_number l) ≡ true → k ≡ l
kind_equal kinds.File kinds.File e = refl
kind_equal kinds.File kinds.Dir e = absurd cc
kind_equal kinds.Dir kinds.File e = absurd cc
kind_equal kinds.Dir kinds.Dir e = refl

pair_of : Kind → HashAndSize → Edge
pair_of kind digest = record { kind = kind; digest = digest }

pair_is : (p : Edge) → pair_of p.kind p.digest ≡ p
unfolding pair_of
pair_is p = refl

pub pair_itself : (p : Edge) → is_pair p p ≡ true
pair_itself p = and_from _ _ (eq-eqb (kind_number p.kind) (kind_number p.kind) refl) (same_itself p.digest)

-- pairs of the same kind and digest are equal
pub pair_equal : (a b : Edge) → is_pair a b ≡ true → a ≡ b
pair_equal a b e =
    let h = and_parts (nat_eq (kind_number a.kind) (kind_number b.kind)) (same a.digest b.digest) e in
    let kind : a.kind ≡ b.kind = kind_equal a.kind b.kind h.0 in
    let digest : a.digest ≡ b.digest = equal_from_same a.digest b.digest h.1 in
    let renamed : pair_of a.kind a.digest ≡ pair_of b.kind b.digest = cc in
    sym (pair_is a) ∙ renamed ∙ pair_is b

-- between the test for a pair and its place in a list
pub pair_from_Contains : (pairs : List Edge) (pair : Edge) → Contains pairs pair → list_any (is_pair pair) pairs ≡ true
pair_from_Contains pairs pair h = any_passes (is_pair pair) pairs pair h (pair_itself pair)

pub Contains_from_pair : (pairs : List Edge) (pair : Edge) → list_any (is_pair pair) pairs ≡ true → Contains pairs pair
Contains_from_pair pairs pair e =
    let p = some_passes (is_pair pair) pairs e in
    subst (λ (x : Edge). Contains pairs x) (sym (pair_equal pair p.element p.passes)) p.is_there

-- ---- within so many steps

-- a blob that is there and links to the pair, and passes the test as a Directory
pub record LinkedFrom (test : Edge → Bool) (there : List Linked) (pair : Edge) : Type 0 where
  pub blob : Linked
  pub is_there : Contains there blob
  pub passes : test (as_dir blob.digest) ≡ true
  pub has_link : links_to blob.edges pair ≡ true

-- between such a blob and the test for one
any_linked : (test : Edge → Bool) (there : List Linked) (pair : Edge) → LinkedFrom test there pair
    → list_any (λ blob. test (as_dir blob.digest) && links_to blob.edges pair) there ≡ true
any_linked test there pair h = any_passes (λ (blob : Linked). test (as_dir blob.digest) && links_to blob.edges pair) there h.blob h.is_there (and_from _ _ h.passes h.has_link)

some_linked : (test : Edge → Bool) (there : List Linked) (pair : Edge)
    → list_any (λ blob. test (as_dir blob.digest) && links_to blob.edges pair) there ≡ true → LinkedFrom test there pair
some_linked test there pair e =
    let p = some_passes (λ (blob : Linked). test (as_dir blob.digest) && links_to blob.edges pair) there e in
    let h = and_parts (test (as_dir p.element.digest)) (links_to p.element.edges pair) p.passes in
    record { blob = p.element; is_there = p.is_there; passes = h.0; has_link = h.1 }

-- a root is within any number of steps
pub within_root : (there : List Linked) (starts : List Edge) (steps : ℕ) (pair : Edge) → list_any (is_pair pair) starts ≡ true
    → within there starts steps pair ≡ true
unfolding within
within_root there starts zero pair e = e
within_root there starts (suc steps) pair e = or_left _ _ e

-- an edge of a blob takes one step more than it
pub within_next : (there : List Linked) (starts : List Edge) (steps : ℕ) (pair : Edge) → LinkedFrom (within there starts steps) there pair
    → within there starts (suc steps) pair ≡ true
unfolding within
within_next there starts steps pair h = or_right (list_any (is_pair pair) starts) _ (any_linked (within there starts steps) there pair h)

-- what is within one more step is a root, or an edge of a blob within as many
pub within_cases : (there : List Linked) (starts : List Edge) (steps : ℕ) (pair : Edge) → within there starts (suc steps) pair ≡ true
    → (list_any (is_pair pair) starts ≡ true) ⊎ LinkedFrom (within there starts steps) there pair
unfolding within
within_cases there starts steps pair e = elim (or_cases _ _ e) [
  | inl root ↦ inl root
  | inr linked ↦ inr (some_linked (within there starts steps) there pair linked)
]

within_zero : (there : List Linked) (starts : List Edge) (pair : Edge) → within there starts zero pair ≡ list_any (is_pair pair) starts
unfolding within
within_zero there starts pair = refl

-- more steps lead no less far
pub within_grows : (there : List Linked) (starts : List Edge) (steps : ℕ) (pair : Edge) → within there starts steps pair ≡ true
    → within there starts (suc steps) pair ≡ true
within_grows there starts zero pair e = within_root there starts 1 pair (sym (within_zero there starts pair) ∙ e)
within_grows there starts (suc steps) pair e = elim (within_cases there starts steps pair e) [
  | inl root ↦ within_root there starts (suc (suc steps)) pair root
  | inr h ↦ within_next there starts (suc steps) pair (record {
    blob = h.blob;
    is_there = h.is_there;
    passes = within_grows there starts steps (as_dir h.blob.digest) h.passes;
    has_link = h.has_link;
  })
]

within_more : (there : List Linked) (starts : List Edge) (m k : ℕ) (pair : Edge) → within there starts m pair ≡ true
    → within there starts (k + m) pair ≡ true
within_more there starts m zero pair e = subst (λ (n : ℕ). within there starts n pair ≡ true) (omega arith) e
within_more there starts m (suc k) pair e =
    subst (λ (n : ℕ). within there starts n pair ≡ true) (omega arith) (within_grows there starts (k + m) pair (within_more there starts m k pair e))

pub within_later : (there : List Linked) (starts : List Edge) (pair : Edge) (m n : ℕ) → m ≤ n → within there starts m pair ≡ true
    → within there starts n pair ≡ true
within_later there starts pair m n le e =
    subst (λ (k : ℕ). within there starts k pair ≡ true) (omega arith) (within_more there starts m (n - m) pair e)

-- ---- as many steps as there are blobs are enough

-- within fewer than so many steps, of a blob as a Directory
abbrev marked : List Linked → List Edge → ℕ → Linked → Bool
marked there starts steps blob = is_nearer there starts steps (as_dir blob.digest)

-- the blobs that are within fewer than so many steps are those within fewer than one more
abbrev Settled : List Linked → List Edge → ℕ → Type 0
Settled there starts steps = AllByRecursion (λ blob. marked there starts steps blob ≡ marked there starts (suc steps) blob) there

-- what is within so many steps follows from the blobs that are within fewer
near_unfolds : (there : List Linked) (starts : List Edge) (steps : ℕ) (pair : Edge)
    → within there starts steps pair ≡ (list_any (is_pair pair) starts || list_any (λ blob. marked there starts steps blob && links_to blob.edges pair) there)
unfolding within
near_unfolds there starts zero pair = or_none _ ∙ ap (λ (b : Bool). list_any (is_pair pair) starts || b) (sym (any_false (λ (blob : Linked). links_to blob.edges pair) there))
near_unfolds there starts (suc steps) pair = refl

near_grows : (there : List Linked) (starts : List Edge) (steps : ℕ) (pair : Edge) → is_nearer there starts steps pair ≡ true
    → is_nearer there starts (suc steps) pair ≡ true
near_grows there starts zero pair e = absurd cc
near_grows there starts (suc steps) pair e = within_grows there starts steps pair e

-- where one more step leads to no more blobs, it leads to no more pairs
settled_stays : (there : List Linked) (starts : List Edge) (steps : ℕ) → Settled there starts steps → (pair : Edge)
    → within there starts steps pair ≡ within there starts (suc steps) pair
settled_stays there starts steps h pair =
    near_unfolds there starts steps pair
    ∙ ap (λ (b : Bool). list_any (is_pair pair) starts || b) (any_agree (marked there starts steps) (marked there starts (suc steps)) (λ blob. links_to blob.edges pair) there h)
    ∙ sym (near_unfolds there starts (suc steps) pair)

-- so many blobs are within fewer than so many steps
abbrev count_marked : List Linked → List Edge → ℕ → ℕ
count_marked there starts steps = length (filter (marked there starts steps) there)

-- until then, each step leads to one more blob
settled_or_more : (there : List Linked) (starts : List Edge) (steps : ℕ)
    → Settled there starts steps ⊎ (steps + 1 ≤ count_marked there starts (suc steps))
settled_or_more there starts zero = elim (grown (marked there starts zero) (marked there starts 1) (λ blob. near_grows there starts zero (as_dir blob.digest)) there).or_same [ inl more ↦ inr (omega arith) | inr same ↦ inl same ]
settled_or_more there starts (suc steps) = elim (settled_or_more there starts steps) [
  | inl settled ↦ inl (every _ (λ blob. settled_stays there starts steps settled (as_dir blob.digest)) there)
  | inr many ↦ elim (grown (marked there starts (suc steps)) (marked there starts (suc (suc steps))) (λ blob. near_grows there starts (suc steps) (as_dir blob.digest)) there).or_same [ inl more ↦ inr (omega arith) | inr same ↦ inl same ]
]

-- this happens after as many steps as there are blobs
settles : (there : List Linked) (starts : List Edge) → Settled there starts (length there)
settles there starts = elim (settled_or_more there starts (length there)) [
  | inl h ↦ h
  | inr many ↦ absurd (omega (arith, filter_fits (marked there starts (suc (length there))) there))
]

-- one more step than there are blobs leads no further
pub stable : (there : List Linked) (starts : List Edge) (pair : Edge)
    → within there starts (suc (length there)) pair ≡ within there starts (length there) pair
stable there starts pair = sym (settled_stays there starts (length there) (settles there starts) pair)

-- where so many steps lead as far as others, one more step does too
next_same : (there : List Linked) (starts : List Edge) (m n : ℕ) → ((pair : Edge) → within there starts m pair ≡ within there starts n pair)
    → (pair : Edge) → within there starts (suc m) pair ≡ within there starts (suc n) pair
unfolding within
next_same there starts m n h pair =
    let same_blobs : AllByRecursion (λ (blob : Linked). within there starts m (as_dir blob.digest) ≡ within there starts n (as_dir blob.digest)) there = every _ (λ blob. h (as_dir blob.digest)) there in
    ap (λ (b : Bool). list_any (is_pair pair) starts || b)
    (any_agree (λ (blob : Linked). within there starts m (as_dir blob.digest)) (λ (blob : Linked). within there starts n (as_dir blob.digest)) (λ blob. links_to blob.edges pair) there same_blobs)

-- no number of further steps does
within_over : (there : List Linked) (starts : List Edge) (steps : ℕ) (pair : Edge)
    → within there starts (steps + length there) pair ≡ within there starts (length there) pair
within_over there starts zero pair = ap (λ (n : ℕ). within there starts n pair) (omega arith)
within_over there starts (suc steps) pair =
    ap (λ (n : ℕ). within there starts n pair) (omega arith)
    ∙ next_same there starts (steps + length there) (length there) (within_over there starts steps) pair
    ∙ stable there starts pair

-- ---- what is reached

-- what is within any number of steps is reached
pub reaches_from_within : (there : List Linked) (starts : List Edge) (steps : ℕ) (pair : Edge) → within there starts steps pair ≡ true
    → reaches there starts pair ≡ true
unfolding reaches
reaches_from_within there starts steps pair e = elim (cases_lt (length there) steps) [
  | inl lt ↦ sym (within_over there starts (steps - length there) pair) ∙ ap (λ (n : ℕ). within there starts n pair) (omega arith) ∙ e
  | inr le ↦ within_later there starts pair steps (length there) le e
]

pub within_from_reaches : (there : List Linked) (starts : List Edge) (pair : Edge) → reaches there starts pair ≡ true
    → within there starts (length there) pair ≡ true
unfolding reaches
within_from_reaches there starts pair e = e

-- a root is reached
pub reaches_root : (there : List Linked) (starts : List Edge) (pair : Edge) → list_any (is_pair pair) starts ≡ true → reaches there starts pair ≡ true
reaches_root there starts pair e = reaches_from_within there starts zero pair (within_root there starts zero pair e)

-- an edge of a blob that is reached as a Directory is reached
pub reaches_next : (there : List Linked) (starts : List Edge) (blob : Linked) (pair : Edge) → Contains there blob
    → reaches there starts (as_dir blob.digest) ≡ true → links_to blob.edges pair ≡ true → reaches there starts pair ≡ true
reaches_next there starts blob pair is_there is_reached has_link =
    let passes = within_from_reaches there starts (as_dir blob.digest) is_reached in
    reaches_from_within there starts (suc (length there)) pair
    (within_next there starts (length there) pair (record { blob = blob; is_there = is_there; passes = passes; has_link = has_link }))

-- what is reached is a root, or an edge of a blob that is reached as a Directory
pub reaches_unfolds : (there : List Linked) (starts : List Edge) (pair : Edge)
    → reaches there starts pair ≡ (list_any (is_pair pair) starts || list_any (λ blob. reaches there starts (as_dir blob.digest) && links_to blob.edges pair) there)
unfolding within reaches
reaches_unfolds there starts pair = sym (stable there starts pair)

-- what is within so many steps is reached among other blobs too, where those that are reached are among them
carried_within : (there other : List Linked) (starts : List Edge)
    → ((blob : Linked) → Contains there blob → reaches there starts (as_dir blob.digest) ≡ true → Contains other blob)
    → (steps : ℕ) (pair : Edge) → within there starts steps pair ≡ true → reaches other starts pair ≡ true
carried_within there other starts kept zero pair e = reaches_root other starts pair (sym (within_zero there starts pair) ∙ e)
carried_within there other starts kept (suc steps) pair e = elim (within_cases there starts steps pair e) [
  | inl root ↦ reaches_root other starts pair root
  | inr h ↦
      let in_other = kept h.blob h.is_there (reaches_from_within there starts steps (as_dir h.blob.digest) h.passes) in
      reaches_next other starts h.blob pair in_other (carried_within there other starts kept steps (as_dir h.blob.digest) h.passes) h.has_link
]

-- what is reached stays so among other blobs, where those that are reached are among them
pub carried : (there other : List Linked) (starts : List Edge)
    → ((blob : Linked) → Contains there blob → reaches there starts (as_dir blob.digest) ≡ true → Contains other blob)
    → (pair : Edge) → reaches there starts pair ≡ true → reaches other starts pair ≡ true
carried there other starts kept pair e = carried_within there other starts kept (length there) pair (within_from_reaches there starts pair e)

-- ---- roots

-- roots that hold others reach what these do
pub more_within : (there : List Linked) (some more : List Edge) → ((root : Edge) → Contains some root → Contains more root)
    → (steps : ℕ) (pair : Edge) → within there some steps pair ≡ true → within there more steps pair ≡ true
more_within there some more held zero pair e =
    within_root there more zero pair (pair_from_Contains more pair (held pair (Contains_from_pair some pair (sym (within_zero there some pair) ∙ e))))
more_within there some more held (suc steps) pair e = elim (within_cases there some steps pair e) [
  | inl root ↦ within_root there more (suc steps) pair (pair_from_Contains more pair (held pair (Contains_from_pair some pair root)))
  | inr h ↦ within_next there more steps pair (record {
    blob = h.blob;
    is_there = h.is_there;
    passes = more_within there some more held steps (as_dir h.blob.digest) h.passes;
    has_link = h.has_link;
  })
]

only_root : (root pair : Edge) → Contains (root ∷ []) pair → root ≡ pair
only_root root pair h = All-contains (λ x. root ≡ x) (root ∷ []) pair (All-cons (λ x. root ≡ x) root [] refl (All-nil (λ x. root ≡ x))) h

-- what one of the roots reaches is reached
pub more_starts : (there : List Linked) (starts : List Edge) (root : Edge) (pair : Edge) → Contains starts root
    → reaches there (root ∷ []) pair ≡ true → reaches there starts pair ≡ true
more_starts there starts root pair h e =
    let held = λ (other : Edge) (o : Contains (root ∷ []) other). subst (λ (x : Edge). Contains starts x) (only_root root other o) h in
    reaches_from_within there starts (length there) pair (more_within there (root ∷ []) starts held (length there) pair (within_from_reaches there (root ∷ []) pair e))

-- a root is reached from itself
apart_root : (there : List Linked) (starts : List Edge) (pair : Edge) → list_any (is_pair pair) starts ≡ true
    → Passes (λ root. reaches there (root ∷ []) pair) starts
apart_root there starts pair e = record {
  element = pair;
  is_there = Contains_from_pair starts pair e;
  passes = reaches_root there (pair ∷ []) pair (pair_from_Contains (pair ∷ []) pair (has_first pair []));
}

-- what is within so many steps is reached from one of the roots
apart_within : (there : List Linked) (starts : List Edge) (steps : ℕ) (pair : Edge) → within there starts steps pair ≡ true
    → Passes (λ root. reaches there (root ∷ []) pair) starts
apart_within there starts zero pair e = apart_root there starts pair (sym (within_zero there starts pair) ∙ e)
apart_within there starts (suc steps) pair e = elim (within_cases there starts steps pair e) [
  | inl root ↦ apart_root there starts pair root
  | inr h ↦
      let p = apart_within there starts steps (as_dir h.blob.digest) h.passes in
      record { element = p.element; is_there = p.is_there; passes = reaches_next there (p.element ∷ []) h.blob pair h.is_there p.passes h.has_link }
]

-- what several roots reach is what each of them reaches
pub roots_apart : (there : List Linked) (starts : List Edge) (pair : Edge)
    → reaches there starts pair ≡ list_any (λ root. reaches there (root ∷ []) pair) starts
roots_apart there starts pair = same_tests _ _
    (λ e. let p = apart_within there starts (length there) pair (within_from_reaches there starts pair e) in any_passes (λ root. reaches there (root ∷ []) pair) starts p.element p.is_there p.passes)
    (λ e. let p = some_passes (λ root. reaches there (root ∷ []) pair) starts e in more_starts there starts p.element pair p.is_there p.passes)

-- ---- other blobs

-- the order of the blobs changes nothing
pub order_changes_nothing : (there other : List Linked) → ((blob : Linked) → Contains there blob ↔ Contains other blob)
    → (starts : List Edge) (pair : Edge) → reaches other starts pair ≡ reaches there starts pair
order_changes_nothing there other alike starts pair = same_tests _ _
    (carried other there starts (λ blob h e. (alike blob).1 h) pair)
    (carried there other starts (λ blob h e. (alike blob).0 h) pair)

pub Contains_from_filter : {X : Type 0} (keep : X → Bool) (xs : List X) (x : X) → Contains (filter keep xs) x → Contains xs x
Contains_from_filter keep xs x h = All-contains (λ y. Contains xs y) (filter keep xs) x (All-filter keep (λ y. Contains xs y) xs (All-contains_itself xs)) h

first_kept : {X : Type 0} (x : X) (rest : List X) (b : Bool) → b ≡ true → Contains (cond b (x ∷ rest) rest) x
first_kept x rest true e = has_first x rest
first_kept x rest false e = absurd cc

later_kept : {X : Type 0} (x y : X) (rest : List X) (b : Bool) → Contains rest y → Contains (cond b (x ∷ rest) rest) y
later_kept x y rest true h = Contains_later x rest y h
later_kept x y rest false h = h

-- what passes is kept
all_kept : {X : Type 0} (keep : X → Bool) (xs : List X) → All (λ x. keep x ≡ true → Contains (filter keep xs) x) xs
all_kept keep [] = All-nil _
all_kept keep (x ∷ xs) = All-cons (λ y. keep y ≡ true → Contains (filter keep (x ∷ xs)) y) x xs
    (first_kept x (filter keep xs) (keep x))
    (All-weaker (λ y. keep y ≡ true → Contains (filter keep xs) y) (λ y. keep y ≡ true → Contains (filter keep (x ∷ xs)) y) (λ y h e. later_kept x y (filter keep xs) (keep x) (h e)) xs (all_kept keep xs))

pub Contains_filter : {X : Type 0} (keep : X → Bool) (xs : List X) (x : X) → Contains xs x → keep x ≡ true → Contains (filter keep xs) x
Contains_filter keep xs x h = All-contains (λ y. keep y ≡ true → Contains (filter keep xs) y) xs x (all_kept keep xs) h

-- without blobs that aren't reached as Directories, the same is reached
pub removal : (there : List Linked) (starts : List Edge) (keep : Linked → Bool)
    → ((blob : Linked) → Contains there blob → keep blob ≡ false → reaches there starts (as_dir blob.digest) ≡ false)
    → (pair : Edge) → reaches (filter keep there) starts pair ≡ reaches there starts pair
removal there starts keep unreached pair = same_tests _ _
    (carried (filter keep there) there starts (λ blob h e. Contains_from_filter keep there blob h) pair)
    (carried there (filter keep there) starts (λ blob h e. Contains_filter keep there blob h (true_from_ne_false (keep blob) (λ f. let n = unreached blob h f in absurd cc))) pair)

-- ---- paths

-- a link to the pair is a step of a path
step_by : (there : List Linked) (blob : Linked) (pair : Edge) (edges : Option (List Edge)) → blob.edges ≡ edges → Contains there blob
    → links_to edges pair ≡ true → IsStep there (as_dir blob.digest) pair
step_by there blob pair None e is_there has_link = absurd cc
step_by there blob pair (Some edges) e is_there has_link =
    record { blob = blob; edges = edges; has_blob = is_there; is_from = refl; has_edges = e; has_edge = Contains_from_pair edges pair has_link }

-- a path of at most so many steps, and back
pub path_from_within : (there : List Linked) (starts : List Edge) (steps : ℕ) (pair : Edge) → within there starts steps pair ≡ true
    → (path : List Edge) × (length path ≤ steps) × IsPath there starts (pair ∷ path)
path_from_within there starts zero pair e = ([], omega arith, Contains_from_pair starts pair (sym (within_zero there starts pair) ∙ e))
path_from_within there starts (suc steps) pair e = elim (within_cases there starts steps pair e) [
  | inl root ↦ ([], omega arith, Contains_from_pair starts pair root)
  | inr h ↦
      let p = path_from_within there starts steps (as_dir h.blob.digest) h.passes in
      (as_dir h.blob.digest ∷ p.0, omega (arith, p.1), (step_by there h.blob pair h.blob.edges refl h.is_there h.has_link, p.2))
]

pub within_from_path : (there : List Linked) (starts : List Edge) (steps : ℕ) (pair : Edge) (path : List Edge) → length path ≤ steps
    → IsPath there starts (pair ∷ path) → within there starts steps pair ≡ true
within_from_path there starts steps pair [] le is_path = within_root there starts steps pair (pair_from_Contains starts pair is_path)
within_from_path there starts zero pair (from ∷ path) le is_path = absurd (omega arith)
within_from_path there starts (suc steps) pair (from ∷ path) le is_path =
    let step = is_path.0 in
    within_next there starts steps pair (record {
      blob = step.blob;
      is_there = step.has_blob;
      passes = subst (λ (x : Edge). within there starts steps x ≡ true) step.is_from (within_from_path there starts steps from path (omega arith) is_path.1);
      has_link = subst (λ (edges : Option (List Edge)). links_to edges pair ≡ true) (sym step.has_edges) (pair_from_Contains step.edges pair step.has_edge);
    })

-- without roots nothing is reached
pub none_reached : (there : List Linked) (d : HashAndSize) → is_reached there [] d ≡ false
none_reached there d = λ i. roots_apart there [] (as_file d) i || roots_apart there [] (as_dir d) i
