use Rattle.std.proofs.Common.{refl}
use Rattle.lease_table.specs.contracts.pairs.KeyPartialEq.TheImpl.{ghosts}
use Rattle.lease_table.proofs.PairKeyLaws.{distinct_pairs}
use Rattle.lease_table.proofs.pairs.Pairs.new.Goals as goal

pub invariant_of-result : goal.invariant_of-result
invariant_of-result c = distinct_pairs ghosts.eq (λ d e. (refl, refl, refl, refl)) c.new.result.keys c.new.ensures.unique
