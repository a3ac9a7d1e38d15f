use Rattle.std.proofs.Common.{◌∙◌, List, refl, ap}
use Rattle.std.specs.List.{list_any}
use Rattle.directory_canon.specs.declared.node.Edge.{Edge}
use Rattle.lease_table.specs.declared.pairs.Key.{Key}
use Rattle.lease_table.specs.contracts.pairs.KeyPartialEq.TheImpl.{ghosts}
use Rattle.lease_table.specs.Pairs.{has}
use Rattle.lease_table.proofs.PairKeyLaws.{has_key}
use Rattle.lease_table.proofs.pairs.Pairs.contains.Goals as goal

pub returns : goal.returns
returns c =
    let keys = c.self.inside.keys.keys in
    c.contains.ensures
    ∙ ap (λ (k : Key). list_any (ghosts.eq k) keys) c.key_of.ensures
    ∙ has_key ghosts.eq (λ d e. (refl, refl, refl, refl)) c.args.pair.now keys
    ∙ ap (λ (pairs : List Edge). has pairs c.args.pair.now) c.self.view_is
