-- What is looked up in a row of fields, of which only those in the middle have the number.
use Rattle.std.proofs.Common.{◌≡◌, ℕ, ◌<◌, ◌≤◌, false, eqb, List, [], ◌∷◌, ◌++◌, Option, Result, Ok, Err, refl, ap, ◌∙◌, arith}
use Rattle.std.specs.List.{AllByRecursion, filter_map}
use Rattle.std.proofs.lemmas.Bool.{ne_eqb}
use Rattle.std.proofs.lemmas.List.{append-nil}
use Rattle.std.proofs.lemmas.List.Elements.{filter_map-append}
use Rattle.proto_wire.specs.declared.fault.WireError.{WireError}
use Rattle.proto_wire.specs.Field.{WireField, int_of, bytes_of, ints, contents_of}
use Rattle.proto_wire.specs.Steps.{◌>>=◌}
use Rattle.proto_wire.specs.Packed.{numbers_of, packed_of}

-- ---- what holds of each element

pub all_from : {X : Type 0} (P Q : X → Type 0) → ((x : X) → P x → Q x) → (xs : List X) → AllByRecursion P xs → AllByRecursion Q xs
all_from P Q f [] h = tt
all_from P Q f (x ∷ xs) h = (f x h.0, all_from P Q f xs h.1)

pub all_append : {X : Type 0} (P : X → Type 0) (xs ys : List X) → AllByRecursion P xs → AllByRecursion P ys → AllByRecursion P (xs ++ ys)
all_append P [] ys h k = k
all_append P (x ∷ xs) ys h k = (h.0, all_append P xs ys h.1 k)

-- the numbers of some fields
abbrev pub Below : ℕ → List WireField → Type 0
Below number fs = AllByRecursion (λ f. f.number ≤ number) fs

abbrev pub Above : ℕ → List WireField → Type 0
Above number fs = AllByRecursion (λ f. number < f.number) fs

abbrev pub Only : ℕ → List WireField → Type 0
Only number fs = AllByRecursion (λ f. f.number ≡ number) fs

abbrev pub Without : ℕ → List WireField → Type 0
Without number fs = AllByRecursion (λ f. eqb f.number number ≡ false) fs

pub below_only : (low number : ℕ) (fs : List WireField) → low ≤ number → Below low fs → Below number fs
below_only low number fs le h = all_from (λ (f : WireField). f.number ≤ low) (λ (f : WireField). f.number ≤ number) (λ f p. omega arith) fs h

pub only_below : (number : ℕ) (fs : List WireField) → Only number fs → Below number fs
only_below number fs h = all_from (λ (f : WireField). f.number ≡ number) (λ (f : WireField). f.number ≤ number) (λ f p. omega arith) fs h

pub only_above : (low number : ℕ) (fs : List WireField) → low < number → Only number fs → Above low fs
only_above low number fs lt h = all_from (λ (f : WireField). f.number ≡ number) (λ (f : WireField). low < f.number) (λ f p. omega arith) fs h

pub above_more : (low number : ℕ) (fs : List WireField) → low < number → Above number fs → Above low fs
above_more low number fs lt h = all_from (λ (f : WireField). number < f.number) (λ (f : WireField). low < f.number) (λ f p. omega arith) fs h

pub without_below : (low number : ℕ) (fs : List WireField) → low < number → Below low fs → Without number fs
without_below low number fs lt h = all_from (λ (f : WireField). f.number ≤ low) (λ (f : WireField). eqb f.number number ≡ false) (λ f p. ne_eqb f.number number (λ e. omega arith)) fs h

pub without_above : (number : ℕ) (fs : List WireField) → Above number fs → Without number fs
without_above number fs h = all_from (λ (f : WireField). number < f.number) (λ (f : WireField). eqb f.number number ≡ false) (λ f p. ne_eqb f.number number (λ e. omega arith)) fs h

-- ---- fields of other numbers add nothing

no_ints : (number : ℕ) (fs : List WireField) → Without number fs → ints number fs ≡ []
no_ints number [] h = refl
no_ints number (f ∷ fs) h = rw (h.0, no_ints number fs h.1) refl

no_contents : (number : ℕ) (fs : List WireField) → Without number fs → contents_of number fs ≡ []
no_contents number [] h = refl
no_contents number (f ∷ fs) h = rw (h.0, no_contents number fs h.1) refl

middle : {A : Type 0} (g : WireField → Option A) (before fs after : List WireField) → filter_map g before ≡ [] → filter_map g after ≡ [] → filter_map g (before ++ (fs ++ after)) ≡ filter_map g fs
middle g before fs after b a = filter_map-append g before (fs ++ after) ∙ rw (b, filter_map-append g fs after, a) (append-nil (filter_map g fs))

pub ints_alone : (number : ℕ) (before fs after : List WireField) → Without number before → Without number after → ints number (before ++ (fs ++ after)) ≡ ints number fs
ints_alone number before fs after b a = middle (int_of number) before fs after (no_ints number before b) (no_ints number after a)

pub contents_alone : (number : ℕ) (before fs after : List WireField) → Without number before → Without number after → contents_of number (before ++ (fs ++ after)) ≡ contents_of number fs
contents_alone number before fs after b a = middle (bytes_of number) before fs after (no_contents number before b) (no_contents number after a)

-- ---- the same of a packed list

same : (read : Result (List ℕ) WireError) → (read >>= λ ns. Ok ns) ≡ read
same (Ok ns) = refl
same (Err e) = refl

packed_before : (number : ℕ) (before fs : List WireField) → Without number before → packed_of number (before ++ fs) ≡ packed_of number fs
unfolding packed_of
packed_before number [] fs h = refl
packed_before number (f ∷ before) fs h = rw h.0 (same (packed_of number (before ++ fs)) ∙ packed_before number before fs h.1)

packed_none : (number : ℕ) (fs : List WireField) → Without number fs → packed_of number fs ≡ Ok []
unfolding packed_of
packed_none number [] h = refl
packed_none number (f ∷ fs) h = rw h.0 (same (packed_of number fs) ∙ packed_none number fs h.1)

packed_after : (number : ℕ) (fs after : List WireField) → Without number after → packed_of number (fs ++ after) ≡ packed_of number fs
unfolding packed_of
packed_after number [] after h = packed_none number after h
packed_after number (f ∷ fs) after h = ap (λ (read : Result (List ℕ) WireError). numbers_of number f >>= λ ns. read >>= λ others. Ok (ns ++ others)) (packed_after number fs after h)

pub packed_alone : (number : ℕ) (before fs after : List WireField) → Without number before → Without number after → packed_of number (before ++ (fs ++ after)) ≡ packed_of number fs
packed_alone number before fs after b a = packed_before number before (fs ++ after) b ∙ packed_after number fs after a
