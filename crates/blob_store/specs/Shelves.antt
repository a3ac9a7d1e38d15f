-- What a shelf tells, and what its calls leave.
use Rattle.std.specs.Prelude.{◌≡◌, ◌≤◌, ◌<◌, ◌++◌, ◌+◌, ◌-◌, ◌^◌, min, ℕ, zero, suc, Bool, true, List, [], ◌∷◌, length, take, Option, Some, None, IfSome, Result, IsErrOf}
use Rattle.casd_base.specs.Causes.{Rose}
use Rattle.digest_types.specs.Name.{HashAndSize}
use Rattle.blob_store.specs.declared.shelf.ShelfEnd.{ShelfEnd}
use Rattle.blob_store.specs.declared.shelf.ShelfEnd.TheVariants.{Failed}

-- How many calls failed, how many bodies and how many drafts were given up, each up to 2^64 - 1; whether a call may fail
-- at all; the bodies that are still to be found, in order and each with its bytes where it tells them, if the shelf tells
-- that; a number that falls with each body that is found; and the list of use that an earlier run left, if the shelf tells
-- that.
pub record Shelved : Type 0 where
  pub faults : ℕ
  pub discarded : ℕ
  pub dropped : ℕ
  pub may_fail : Bool
  pub found : Option (List (Option (List ℕ)))
  pub to_find : ℕ
  pub saved : Option (List HashAndSize)

-- a call that finds no body leaves those that are to be found and the saved list, and gives none up; and the count of faults
-- never falls
pub record Stays (old new : Shelved) : Type 0 where
  pub discarded : new.discarded ≡ old.discarded
  pub dropped : new.dropped ≡ old.dropped
  pub may_fail : new.may_fail ≡ old.may_fail
  pub found : new.found ≡ old.found
  pub to_find : new.to_find ≤ old.to_find
  pub saved : new.saved ≡ old.saved
  pub later : old.faults ≤ new.faults

-- a call failed: on a shelf whose calls may fail, and it was counted
abbrev pub Fails : Shelved → Shelved → Type 0
Fails old new = (old.may_fail ≡ true) × Rose old.faults new.faults

-- a fault is answered only where a call failed
abbrev pub HasShelfCause : {T : Type 0} → Shelved → Shelved → Result T ShelfEnd → Type 0
HasShelfCause old new result = IsErrOf result Failed → Fails old new

-- this many more are counted, up to 2^64 - 1
abbrev pub counting : ℕ → ℕ → ℕ
counting zero n = n
counting (suc more) n = min (n + suc more) (2 ^ 64 - 1)

-- this many bodies were given up, and all else stays
abbrev pub discarding : ℕ → Shelved → Shelved
discarding count s = record s { discarded = counting count s.discarded }

-- a draft was given up, and all else stays
abbrev pub dropping : Shelved → Shelved
dropping s = record s { dropped = counting 1 s.dropped }

-- what a draft tells grows by just these bytes; one that tells nothing goes on so
abbrev pub appended : Option (List ℕ) → List ℕ → Option (List ℕ)
appended None bytes = None
appended (Some old) bytes = Some (old ++ bytes)

-- a prefix of the bytes was appended
abbrev pub HasPart : Option (List ℕ) → Option (List ℕ) → List ℕ → Type 0
HasPart old new bytes = (n : ℕ) × (n ≤ length bytes) × (new ≡ appended old (take n bytes))

-- one more body was found: the first of those that were to be, where the shelf tells them
abbrev pub Finds : Shelved → Shelved → Option (List ℕ) → Type 0
Finds old new body = (new.to_find < old.to_find) × IfSome old.found (λ bodies. (rest : List (Option (List ℕ))) × (bodies ≡ body ∷ rest) × (new.found ≡ Some rest))

-- none is to be found any more
abbrev pub FindsNone : Shelved → Shelved → Type 0
FindsNone old new = (new.found ≡ old.found) × IfSome old.found (λ bodies. bodies ≡ [])
