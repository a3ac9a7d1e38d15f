-- A turn lends its value.
use Rattle.std.specs.Borrow.{Lends, MutBor, Fml}
use denote.RattleType.{RattleType}
use Rattle.turn_lock.specs.declared.lock.Turn.{Turn}
use Rattle.turn_lock.specs.contracts.lock.Turn.{the_row}

-- the turn ends with the last value behind r
abbrev pub LendsValue : (R : RattleType) → MutBor (Turn R.Denot) → MutBor R.Denot → Fml
LendsValue R t r = Lends (the_row R) R t r (λ x. record t.now { value = x })
