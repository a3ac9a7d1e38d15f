-- Digests that have rows, over the changes of the rows; and what is held has a row.
use Rattle.std.proofs.Common.{◌≡◌, true, false, List, [], ◌∷◌, ◌++◌, Option, Some, None, inl, inr, refl, sym, ap, ◌∙◌}
use Rattle.std.specs.Prelude.{is_some, ◌||◌, ◌&&◌}
use Rattle.std.specs.Option.{option_map}
use Rattle.std.proofs.lemmas.Bool.{cases_Bool, or_left, or_right, and_parts}
use Rattle.std.proofs.lemmas.List.Folds.{list_any-append}
use Rattle.digest_types.specs.Name.{HashAndSize}
use Rattle.store_core.specs.declared.state.Row.{Row}
use Rattle.store_core.specs.State.{Holds, same, is_of, has_row, is_held, is_sound, row_of, others}
use Rattle.store_core.specs.Step.{damaged}
use Rattle.store_core.proofs.Elements.{some_found}
use Rattle.store_core.proofs.HoldLaws.{any_weaker}
use Rattle.store_core.proofs.RowLaws.{IsTurned, unsound_if, others_row, damaged_row}
use Rattle.store_core.proofs.Same.{equal_from_same, same_from_equal, other_from_not_same}

-- what is held has a row
abbrev pub HaveRows : List Holds → List Row → Type 0
HaveRows holds rows = (d : HashAndSize) → is_held holds d ≡ true → has_row rows d ≡ true

-- a digest has a row where one is found
pub has_found : (d : HashAndSize) (rows : List Row) → has_row rows d ≡ is_some (row_of d rows)
has_found d rows = some_found (is_of d) rows

-- a digest whose row is found as before has one as before
pub has_as_before : (d : HashAndSize) (rows after : List Row) → row_of d after ≡ row_of d rows → has_row after d ≡ has_row rows d
has_as_before d rows after e = has_found d after ∙ ap (λ (o : Option Row). is_some o) e ∙ sym (has_found d rows)

-- one more row takes none away
pub has_push : (d : HashAndSize) (rows : List Row) (row : Row) → has_row rows d ≡ true → has_row (rows ++ row ∷ []) d ≡ true
has_push d rows row h = list_any-append (is_of d) rows (row ∷ []) ∙ or_left (has_row rows d) (is_of d row || false) h

-- and its digest has one
pub has_last : (d : HashAndSize) (rows : List Row) (row : Row) → row.digest ≡ d → has_row (rows ++ row ∷ []) d ≡ true
has_last d rows row is =
    list_any-append (is_of d) rows (row ∷ []) ∙ or_right (has_row rows d) (is_of d row || false) (or_left (is_of d row) false (same_from_equal row.digest d is))

-- a row that is put again stands behind the others
pub has_again : (d q : HashAndSize) (rows : List Row) (row : Row) → row.digest ≡ d → has_row rows q ≡ true → has_row (others d rows ++ row ∷ []) q ≡ true
has_again d q rows row is h =
    elim (cases_Bool (same d q)) [
      | inl here ↦ has_last q (others d rows) row (is ∙ equal_from_same d q here)
      | inr other ↦ has_push q (others d rows) row (has_as_before q rows (others d rows) (others_row d q rows (other_from_not_same d q other)) ∙ h)
    ]

some_map : (f : Row → Row) (o : Option Row) → is_some (option_map f o) ≡ is_some o
some_map f None = refl
some_map f (Some row) = refl

pub has_damaged : (d q : HashAndSize) (rows : List Row) → has_row (damaged d rows) q ≡ has_row rows q
has_damaged d q rows =
    has_found q (damaged d rows) ∙ ap (λ (o : Option Row). is_some o) (damaged_row d q rows) ∙ some_map (unsound_if d) (row_of q rows) ∙ sym (has_found q rows)

-- a sound row is a row
pub has_sound : (d : HashAndSize) (rows : List Row) → is_sound rows d ≡ true → has_row rows d ≡ true
has_sound d rows e = any_weaker (λ (row : Row). is_of d row && row.sound) (is_of d) (λ row both. (and_parts (is_of d row) row.sound both).0) rows e

-- ---- what is held has a row still

pub held_turned : (holds : List Holds) (rows after : List Row) → IsTurned rows after → HaveRows holds rows → HaveRows holds after
held_turned holds rows after t h d e = has_as_before d rows after (t.row d) ∙ h d e

pub held_damaged : (holds : List Holds) (d : HashAndSize) (rows : List Row) → HaveRows holds rows → HaveRows holds (damaged d rows)
held_damaged holds d rows h q e = has_damaged d q rows ∙ h q e

pub held_push : (holds : List Holds) (rows : List Row) (row : Row) → HaveRows holds rows → HaveRows holds (rows ++ row ∷ [])
held_push holds rows row h q e = has_push q rows row (h q e)

pub held_again : (holds : List Holds) (d : HashAndSize) (rows : List Row) (row : Row) → row.digest ≡ d → HaveRows holds rows → HaveRows holds (others d rows ++ row ∷ [])
held_again holds d rows row is h q e = has_again d q rows row is (h q e)
