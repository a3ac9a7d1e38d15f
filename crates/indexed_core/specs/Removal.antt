-- Rows that go one after the other, and all at once.
use Rattle.std.specs.Prelude.{◌≡◌, ◌&&◌, ◌||◌, not, ℕ, Bool, true, false, List, Option, filter, length, take}
use Rattle.std.specs.List.{AllByRecursion}
use Rattle.digest_types.specs.Name.{HashAndSize}
use Rattle.store_core.specs.declared.state.Row.{Row}
use Rattle.store_core.specs.declared.event.Reply.{Reply}
use Rattle.store_core.specs.declared.event.Reply.TheVariants as replies
use Rattle.store_core.specs.State.{State, DistinctDigests, digests, same, is_among, has_row}
use Rattle.store_core.specs.Pass.{is_guarded, unguarded, without}
use Rattle.lease_table.specs.Table.{from_on}

-- the state without the rows of the first unguarded digests
abbrev pub removed : State → ℕ → State
removed s count = record s { rows = without (take count (unguarded s)) s.rows }

-- A pass that goes on from this digest, or from the least recent row where none is named, leaves out no row that isn't
-- guarded: each row before it in the order of use is.
abbrev pub IsPassed : State → Option HashAndSize → Type 0
IsPassed s from = filter (λ d. not (is_guarded s d)) (from_on from (digests s.rows)) ≡ unguarded s

-- these are distinct digests of rows
pub record AreRows (rows : List Row) (ds : List HashAndSize) : Type 0 where
  pub distinct : DistinctDigests ds
  pub there : AllByRecursion (λ d. has_row rows d ≡ true) ds

-- whether a put with this reply added a row
abbrev pub adds_row : Reply → Bool
adds_row (replies.Stored removed used) = true
adds_row _ = false

-- how many rows a reply to a put tells that went
abbrev pub told_gone : Reply → ℕ
told_gone (replies.Stored removed used) = removed
told_gone _ = 0

-- A put of a digest with this reply removed the rows of `gone`, and added its row where it was stored.
pub record PutsRow (digest : HashAndSize) (reply : Reply) (gone : List HashAndSize) (old new : List Row) : Type 0 where
  pub rows : AreRows old gone
  pub count : length gone ≡ told_gone reply
  pub there : (d : HashAndSize) → has_row new d ≡ ((adds_row reply && same digest d) || (has_row old d && not (is_among gone d)))
