-- What serving one connection of HTTP/2 over a new store reads and writes, by its status.
use Rattle.std.specs.Prelude.{◌≡◌, ◌⊎◌, codes, ℕ, false, List, [], ◌∷◌, Option, Some, None}
use Rattle.store_core.specs.State.{new_state}
use Rattle.store_core.specs.declared.state.Guard.TheVariants as guards
use Rattle.blob_store.specs.View.{View}
use Rattle.blob_store.specs.Benched.{new_bench, view_of}
use Rattle.blob_store.specs.Shelves.{Shelved}
use Rattle.casd_connection.specs.declared.end.ConnEnd.{ConnEnd}
use Rattle.casd_connection.specs.declared.end.ConnEnd.TheVariants as ends
use Rattle.casd_connection.specs.declared.report.ConnReport.{ConnReport}
use Rattle.casd_connection.specs.Linked.{Linked, linked}
use Rattle.casd_connection.specs.Written.{Serves}
use Rattle.casd_server.specs.Replay.{default_low, default_high}

-- the words that ask for a connection
abbrev pub AreH2Words : List (List ℕ) → Type 0
AreH2Words words =
    (words ≡ codes "replay" ∷ codes "h2" ∷ []) ⊎ (words ≡ codes "replay" ∷ codes "h2" ∷ codes "--" ∷ [])

-- the status of the process
abbrev pub status_of : ConnEnd → ℕ
status_of ends.Done = 0
status_of (ends.Truncated at) = 3
status_of (ends.Protocol code at) = 3
status_of ends.ReadFault = 4
status_of ends.WriteFault = 5
status_of ends.OutOfMemory = 6
status_of ends.Spent = 7

-- the view of the one seat of a bench over a new store with the default marks
abbrev pub new_view : View
new_view = view_of (new_bench (new_state default_low default_high guards.Leases) 1)

-- an empty shelf in memory, whose calls don't fail
abbrev pub empty_shelf : Shelved
empty_shelf = record { faults = 0; discarded = 0; dropped = 0; may_fail = false; found = Some []; to_find = 0; saved = Some [] }

-- a link that has met no end yet, and over which nothing was written yet: what is left to read, what its sink tells, and both
-- counts of faults
abbrev pub begun : Option (List ℕ) → Option (List ℕ) → ℕ → ℕ → Linked
begun left written reads writes = linked left written reads writes (Some 0) (Some None)

-- There is a report of a connection that was served over such a store, between a source and a sink that told `left` and
-- `written` and tell `left'` and `written'`. The status is that of its end. `reads` and `writes` are the counts of faults.
pub record ServesOne (status : ℕ) (left left' written written' : Option (List ℕ)) (reads reads' writes writes' : ℕ) : Type 0 where
  pub report : ConnReport
  pub told : status ≡ status_of report.end
  pub view : View
  pub shelf : Shelved
  pub sent : Option ℕ
  pub at_end : Option (Option ℕ)
  pub serves : Serves report new_view view empty_shelf shelf (begun left written reads writes) (linked left' written' reads' writes' sent at_end)

-- memory was wanting before there was a store, and nothing was read or written
pub record HasNoStore (status : ℕ) (left left' written written' : Option (List ℕ)) (reads reads' writes writes' : ℕ) : Type 0 where
  pub told : status ≡ 6
  pub left_stays : left' ≡ left
  pub written_stays : written' ≡ written
  pub reads_stay : reads' ≡ reads
  pub writes_stay : writes' ≡ writes

abbrev pub ServesH2 : ℕ → Option (List ℕ) → Option (List ℕ) → Option (List ℕ) → Option (List ℕ) → ℕ → ℕ → ℕ → ℕ → Type 0
ServesH2 status left left' written written' reads reads' writes writes' =
    ServesOne status left left' written written' reads reads' writes writes' ⊎ HasNoStore status left left' written written' reads reads' writes writes'
