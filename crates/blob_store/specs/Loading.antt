-- A load of a store from its shelf: how one body is read, and what becomes of those that are found.
use Rattle.std.specs.Prelude.{◌≡◌, ◌≢◌, ◌≤◌, ◌+◌, ◌^◌, ◌&&◌, ◌++◌, not, nat_le, nat_lt, ℕ, Bool, true, List, [], ◌∷◌, length, map, take, Option, Some, IfSome, if◌then◌else◌}
use Rattle.std.specs.List.{AllByRecursion}
use Rattle.digest_types.specs.Name.{HashAndSize}
use Rattle.digest_types.specs.Digest.{digest_of}
use Rattle.digest_types.specs.Hasher.{Holds}
use Rattle.digest_types.specs.declared.hasher.Hasher.{Hasher}
use Rattle.directory_canon.specs.declared.node.Edge.{Edge}
use Rattle.store_core.specs.declared.state.Row.{Row}
use Rattle.store_core.specs.declared.state.Guard.{Guard}
use Rattle.store_core.specs.State.{State, Valid, Distinct, has_row, sizes, used}
use Rattle.blob_store.specs.Bodies.{copy_of}
use Rattle.blob_store.specs.Kept.{Told, AreBodiesOf, told_in}
use Rattle.blob_store.specs.Restored.{taken}
use Rattle.blob_store.specs.Shelves.{Shelved, Stays, counting, discarding}

-- The first bytes of a body were read, so many: a hasher took them, and this is the copy that is kept of them.
pub record IsScan (hasher : Hasher) (copy : Option (List ℕ)) (size : ℕ) (told : Option (List ℕ)) : Type 0 where
  pub bytes : List ℕ
  pub hash : Holds hasher bytes
  pub copy_is : copy ≡ copy_of bytes
  pub len : length bytes ≡ size
  pub front : IfSome told (λ all. bytes ≡ take size all)

-- whether a blob becomes a row beside the others: it isn't empty, has no row, and the rows have at most 2^60 bytes with it
abbrev pub is_new_row : List Row → HashAndSize → Bool
is_new_row rows d = nat_lt 0 d.size && (not (has_row rows d) && nat_le (sizes rows + d.size) (2 ^ 60))

-- the rows with a blob's, where it becomes one
abbrev pub with_found : List Row → HashAndSize → Option (List Edge) → List Row
with_found rows d edges = if is_new_row rows d then rows ++ record { digest = d; edges = edges; sound = true } ∷ [] else rows

-- each body that tells its bytes tells those of its digest
abbrev pub AreTheirOwn : Told → Type 0
AreTheirOwn bodies = (d : HashAndSize) (bytes : List ℕ) → told_in bodies d ≡ Some (Some bytes) → digest_of bytes ≡ d

abbrev pub AreSound : List Row → Type 0
AreSound rows = AllByRecursion (λ row. row.sound ≡ true) rows

-- the rows of what was found so far, and the bodies of these rows
pub record Gathered : Type 0 where
  pub rows : List Row
  pub bodies : Told

-- what holds of them, with the sum of their sizes
pub record IsGathered (rows : List Row) (sum : ℕ) (bodies : Told) : Type 0 where
  pub distinct : Distinct rows
  pub filled : AllByRecursion (λ row. row.digest ≢ digest_of []) rows
  pub sound : AreSound rows
  pub sum_is : sum ≡ sizes rows
  pub within : sum ≤ 2 ^ 60
  pub bodies_are : AreBodiesOf rows bodies
  pub own : AreTheirOwn bodies

-- ---- the shelf

-- one body more became a row, or was discarded
abbrev pub Sifts : Shelved → Shelved → ℕ → ℕ → Type 0
Sifts old new before after = (gone : ℕ) × (gone + after ≡ before + 1) × Stays (discarding gone old) new

-- what each part of a load leaves as it was
pub record Lasts (old new : Shelved) : Type 0 where
  pub dropped : new.dropped ≡ old.dropped
  pub may_fail : new.may_fail ≡ old.may_fail
  pub saved : new.saved ≡ old.saved
  pub to_find : new.to_find ≤ old.to_find
  pub later : old.faults ≤ new.faults

-- Of these bodies so many are gone and others became rows, and the rest is still to be found. Where all tell their bytes,
-- the rest leads to the same rows as all of them.
pub record SiftsTold (bodies : List (Option (List ℕ))) (left : Option (List (Option (List ℕ)))) (gone : ℕ) (rows : List Row) : Type 0 where
  pub rest : List (Option (List ℕ))
  pub left_is : left ≡ Some rest
  pub count : length bodies ≡ length rows + gone + length rest
  pub same : (all : List (List ℕ)) → bodies ≡ map Some all → (more : List (List ℕ)) × (rest ≡ map Some more) × (taken rows more ≡ taken [] all)

-- the bodies that were found so far became these rows, or are gone
pub record Sifted (old now : Shelved) (rows : List Row) : Type 0 where
  pub gone : ℕ
  pub discarded : now.discarded ≡ counting gone old.discarded
  pub lasts : Lasts old now
  pub told : (bodies : List (Option (List ℕ))) → old.found ≡ Some bodies → SiftsTold bodies now.found gone rows

-- All bodies that were to be found became rows, so many, or were discarded.
pub record Loads (old new : Shelved) (rows : ℕ) : Type 0 where
  pub gone : ℕ
  pub discarded : new.discarded ≡ counting gone old.discarded
  pub lasts : Lasts old new
  pub told : (bodies : List (Option (List ℕ))) → old.found ≡ Some bodies → (new.found ≡ Some []) × (length bodies ≡ rows + gone)

-- ---- the state

-- The state of a store that was loaded with these marks: there are no leases, holds and owners, both next numbers are 1, and
-- each row is sound.
pub record IsLoaded (low high : ℕ) (guard : Guard) (s : State) : Type 0 where
  pub valid : Valid s
  pub sound : AreSound s.rows
  pub within : used s ≤ 2 ^ 60
  pub leases : s.leases ≡ []
  pub holds : s.holds ≡ []
  pub owners : s.owners ≡ []
  pub low_is : s.low ≡ low
  pub high_is : s.high ≡ high
  pub guard_is : s.guard ≡ guard
  pub next_owner : s.next_owner ≡ 1
  pub next_lease : s.next_lease ≡ 1
