-- What a diary tells.
use Rattle.std.specs.Prelude.{List}
use Rattle.store_core.specs.State.{State}
use Rattle.store_core.specs.History.{Entry}

-- the state at which the history begins, and its entries
pub record Told : Type 0 where
  pub start : State
  pub seen : List Entry
