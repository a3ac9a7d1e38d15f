use Rattle.std.proofs.Common.{◌∙◌, take, refl, ap}
use Rattle.lease_table.specs.contracts.pairs.KeyPartialEq.TheImpl.{ghosts}
use Rattle.lease_table.specs.PairKeys.{pairs_of}
use Rattle.lease_table.proofs.PairKeyLaws.{keys_taken, distinct_pairs}
use Rattle.lease_table.proofs.pairs.Pairs.truncate.Goals as goal

pub invariant_of-self : goal.invariant_of-self
invariant_of-self c = distinct_pairs ghosts.eq (λ d e. (refl, refl, refl, refl)) c.truncate.new.self.keys c.truncate.ensures.unique

pub returns : goal.returns
returns c = ap pairs_of c.truncate.ensures.keys ∙ keys_taken c.args.len c.self.inside.keys.keys ∙ ap (take c.args.len) c.self.view_is
