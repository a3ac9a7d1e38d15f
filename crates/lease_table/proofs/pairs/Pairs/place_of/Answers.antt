use Rattle.std.proofs.Common.{◌∙◌, refl, ap}
use Rattle.std.specs.Prelude.{position}
use Rattle.store_core.specs.Reach.{is_pair}
use Rattle.lease_table.specs.declared.pairs.Key.{Key}
use Rattle.lease_table.specs.contracts.pairs.KeyPartialEq.TheImpl.{ghosts}
use Rattle.lease_table.proofs.PairKeyLaws.{key_place}
use Rattle.lease_table.proofs.pairs.Pairs.place_of.Goals as goal

pub returns : goal.returns
returns c =
    let keys = c.self.inside.keys.keys in
    c.get_index_of.ensures.index
    ∙ ap (λ (k : Key). position (ghosts.eq k) keys) c.key_of.ensures
    ∙ key_place ghosts.eq (λ d e. (refl, refl, refl, refl)) c.args.pair.now keys
    ∙ ap (position (is_pair c.args.pair.now)) c.self.view_is
