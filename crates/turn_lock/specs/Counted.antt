-- The rule of a diary's table: its word counts the history that its one seat knows.
use Rattle.std.specs.Prelude.{◌≡◌, ◌≤◌, ◌^◌, [], ◌∷◌, length}
use Rattle.atomic_table.specs.Table as table
use Rattle.store_core.specs.State.{new_state}
use Rattle.store_core.specs.declared.state.Guard.TheVariants as guards
use Rattle.store_core.specs.History.{Legal}
use Rattle.turn_lock.specs.Told.{Told}

-- what the seat knows before it is told where the history begins
abbrev pub untold : Told
untold = record { start = new_state 0 0 guards.Leases; seen = [] }

-- The table has one view, of a legal history, and one word, the number of its entries, which is at most 2^63.
pub record IsCounted (s : table.State (Unit {0}) Told) : Type 0 where
  pub told : Told
  pub views : s.views ≡ told ∷ []
  pub words : s.words ≡ length told.seen ∷ []
  pub legal : Legal told.start told.seen
  pub room : length told.seen ≤ 2 ^ 63
