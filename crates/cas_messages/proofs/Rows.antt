-- Rows of fields that spell a part of a message, and what is read from them.
use Rattle.std.proofs.Common.{◌≡◌, ℕ, ◌+◌, ◌<◌, ◌≤◌, ◌^◌, Bool, true, false, cond, eqb, List, [], ◌∷◌, ◌++◌, length, map, Some, Result, Ok, refl, sym, ap, ◌∙◌, append_assoc, arith}
use Rattle.std.specs.List.{AllByRecursion, flat_map}
use Rattle.std.proofs.lemmas.Bool.{eq-eqb, eqb-true}
use Rattle.std.proofs.lemmas.List.{append-nil}
use Rattle.proto_wire.specs.Field.{WireField, int, bytes, ints, contents_of, joined_of}
use Rattle.proto_wire.specs.Wire.{Wire}
use Rattle.proto_wire.specs.Spelling.{int_field, bytes_field}
use Rattle.proto_wire.proofs.WireLaws.{int_field-spelling, bytes_field-spelling, Wire-append, Wire-one}
use Rattle.cas_messages.specs.declared.error.MessageError.{MessageError}
use Rattle.proto_wire.specs.Steps.{◌>>=◌}
use Rattle.cas_messages.specs.Spelling.{number_spelled, content_spelled}
use Rattle.cas_messages.specs.Fits.{Short}
use Rattle.cas_messages.proofs.Lists.{Below, Above, Only, Without, all_append, below_only, only_below, only_above, above_more, without_below, without_above}

-- Fields of one number, the first of which stands at `at`, that the text spells, and from which the value is read.
pub record Written {A : Type 0} (at number : ℕ) (text : List ℕ) (read : List WireField → Result A MessageError) (value : A) : Type 0 where
  pub fields : List WireField
  pub row : Wire at text fields
  pub only : Only number fields
  pub again : read fields ≡ Ok value

-- Fields of larger numbers, that the text spells, and from which the value is read, whatever stands before.
pub record WrittenAbove {A : Type 0} (at low : ℕ) (text : List ℕ) (read : List WireField → Result A MessageError) (value : A) : Type 0 where
  pub fields : List WireField
  pub row : Wire at text fields
  pub above : Above low fields
  pub again : (before : List WireField) → Below low before → read (before ++ fields) ≡ Ok value

-- what is read depends on the fields of one number alone
abbrev pub Alone : {A : Type 0} → ℕ → (List WireField → Result A MessageError) → Type 0
Alone number read = (before fs after : List WireField) → Without number before → Without number after → read (before ++ (fs ++ after)) ≡ read fs

-- ---- one field, or none

abbrev pub int_row : ℕ → ℕ → ℕ → WireField
int_row at number n = record { number = number; at = at; value = int n }

abbrev pub bytes_row : ℕ → ℕ → List ℕ → WireField
bytes_row at number b = record { number = number; at = at; value = bytes b }

-- nothing is written
pub none_written : {A : Type 0} (at number : ℕ) (read : List WireField → Result A MessageError) (value : A) → read [] ≡ Ok value → Written at number [] read value
none_written at number read value again = record { fields = []; row = refl; only = tt; again = again }

pub int_written : {A : Type 0} (at number n : ℕ) (read : List WireField → Result A MessageError) (value : A) → 0 < number → number < 2 ^ 29 → n < 2 ^ 64
    → read (int_row at number n ∷ []) ≡ Ok value → Written at number (int_field number n) read value
int_written at number n read value low high small again = record {
  fields = int_row at number n ∷ [];
  row = Wire-one (int_field number n) (int_row at number n) (int_field-spelling number n at low high small);
  only = (refl, tt);
  again = again;
}

pub bytes_written : {A : Type 0} (at number : ℕ) (b : List ℕ) (read : List WireField → Result A MessageError) (value : A) → 0 < number → number < 2 ^ 29 → Short b
    → read (bytes_row at number b ∷ []) ≡ Ok value → Written at number (bytes_field number b) read value
bytes_written at number b read value low high short again = record {
  fields = bytes_row at number b ∷ [];
  row = Wire-one (bytes_field number b) (bytes_row at number b) (bytes_field-spelling number at b low high short);
  only = (refl, tt);
  again = again;
}

number_either : {A : Type 0} (at number n : ℕ) (read : List WireField → Result A MessageError) (value : A) (none : Bool) → eqb n 0 ≡ none → 0 < number → number < 2 ^ 29 → n < 2 ^ 64
    → (n ≡ 0 → read [] ≡ Ok value) → read (int_row at number n ∷ []) ≡ Ok value → Written at number (cond none [] (int_field number n)) read value
number_either at number n read value true e low high small absent again = none_written at number read value (absent (eqb-true n 0 e))
number_either at number n read value false e low high small absent again = int_written at number n read value low high small again

-- a number that is left out where it is 0
pub number_written : {A : Type 0} (at number n : ℕ) (read : List WireField → Result A MessageError) (value : A) → 0 < number → number < 2 ^ 29 → n < 2 ^ 64
    → (n ≡ 0 → read [] ≡ Ok value) → read (int_row at number n ∷ []) ≡ Ok value → Written at number (number_spelled number n) read value
number_written at number n read value low high small absent again = number_either at number n read value (eqb n 0) refl low high small absent again

-- a bool that is left out where it is false
pub flag_written : {A : Type 0} (at number : ℕ) (b : Bool) (read : List WireField → Result A MessageError) (value : A) → 0 < number → number < 2 ^ 29
    → (b ≡ false → read [] ≡ Ok value) → (b ≡ true → read (int_row at number 1 ∷ []) ≡ Ok value) → Written at number (cond b (int_field number 1) []) read value
flag_written at number true read value low high absent again = int_written at number 1 read value low high (omega arith) (again refl)
flag_written at number false read value low high absent again = none_written at number read value (absent refl)

-- a content that is left out where it is empty
pub content_written : {A : Type 0} (at number : ℕ) (b : List ℕ) (read : List WireField → Result A MessageError) (value : A) → 0 < number → number < 2 ^ 29 → Short b
    → (b ≡ [] → read [] ≡ Ok value) → read (bytes_row at number b ∷ []) ≡ Ok value → Written at number (content_spelled number b) read value
content_written at number [] read value low high short absent again = none_written at number read value (absent refl)
content_written at number (c ∷ cs) read value low high short absent again = bytes_written at number (c ∷ cs) read value low high short again

-- ---- what one field gives

pub one_int : (at number n : ℕ) → ints number (int_row at number n ∷ []) ≡ n ∷ []
one_int at number n = rw (eq-eqb number number refl) refl

pub one_content : (at number : ℕ) (b : List ℕ) → contents_of number (bytes_row at number b ∷ []) ≡ b ∷ []
one_content at number b = rw (eq-eqb number number refl) refl

pub one_joined : (at number : ℕ) (b : List ℕ) → joined_of (contents_of number (bytes_row at number b ∷ [])) ≡ Some b
one_joined at number b = ap joined_of (one_content at number b) ∙ ap (λ (c : List ℕ). Some c) (append-nil b)

-- ---- a row of contents

-- a field for each, the first of which stands at `at`
pub record WrittenList (at number : ℕ) (text : List ℕ) (bs : List (List ℕ)) : Type 0 where
  pub fields : List WireField
  pub row : Wire at text fields
  pub only : Only number fields
  pub contents : contents_of number fields ≡ bs

pub list_written : {X : Type 0} (at number : ℕ) (f : X → List ℕ) (xs : List X) → 0 < number → number < 2 ^ 29 → AllByRecursion (λ x. Short (f x)) xs → WrittenList at number (flat_map (λ x. bytes_field number (f x)) xs) (map f xs)
list_written at number f [] low high short = record { fields = []; row = refl; only = tt; contents = refl }
list_written at number f (x ∷ xs) low high short =
    let text = bytes_field number (f x) in
    let first = bytes_row at number (f x) in
    let rest = list_written (at + length text) number f xs low high short.1 in
    record {
      fields = first ∷ rest.fields;
      row = Wire-append at text (flat_map (λ x. bytes_field number (f x)) xs) (first ∷ []) rest.fields (Wire-one text first (bytes_field-spelling number at (f x) low high short.0)) rest.row;
      only = (refl, rest.only);
      contents = rw (eq-eqb number number refl) (ap (λ (bs : List (List ℕ)). f x ∷ bs) rest.contents);
    }

-- ---- a row, then the rows below

pub joined_written : {A B : Type 0} (at low number : ℕ) (text others : List ℕ) (read : List WireField → Result A MessageError) (below : List WireField → Result B MessageError) (x : A) (y : B) → low < number → Alone number read
    → Written at number text read x → WrittenAbove (at + length text) number others below y → WrittenAbove {A = A × B} at low (text ++ others) (λ fs. read fs >>= λ v. below fs >>= λ vs. Ok (v, vs)) (x, y)
joined_written at low number text others read below x y lt alone w v = record {
  fields = w.fields ++ v.fields;
  row = Wire-append at text others w.fields v.fields w.row v.row;
  above = all_append (λ f. low < f.number) w.fields v.fields (only_above low number w.fields lt w.only) (above_more low number v.fields lt v.above);
  again = λ before h.
      let first = alone before w.fields v.fields (without_below low number before lt h) (without_above number v.fields v.above) ∙ w.again in
      let under : Below number (before ++ w.fields) = all_append (λ f. f.number ≤ number) before w.fields (below_only low number before (omega arith) h) (only_below number w.fields w.only) in
      let rest = ap below (sym (append_assoc before w.fields v.fields)) ∙ v.again (before ++ w.fields) under in
      rw (first, rest) refl;
}
