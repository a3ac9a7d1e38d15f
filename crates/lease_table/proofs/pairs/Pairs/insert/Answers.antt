use Rattle.std.proofs.Common.{◌∙◌, List, refl, ap}
use Rattle.indexmap.specs.IndexSet.{insert_key}
use Rattle.directory_canon.specs.declared.node.Edge.{Edge}
use Rattle.store_core.specs.Reach.{is_pair}
use Rattle.lease_table.specs.declared.pairs.Key.{Key}
use Rattle.lease_table.specs.contracts.pairs.KeyPartialEq.TheImpl.{ghosts}
use Rattle.lease_table.specs.PairKeys.{pairs_of}
use Rattle.lease_table.proofs.PairKeyLaws.{key_inserted, distinct_pairs}
use Rattle.lease_table.proofs.pairs.Pairs.insert.Goals as goal

pub invariant_of-self-2 : goal.invariant_of-self-2
invariant_of-self-2 c = distinct_pairs ghosts.eq (λ d e. (refl, refl, refl, refl)) c.insert.new.self.keys c.in_ok-insert.ensures.unique

pub returns-clause-ok : goal.returns-clause-ok
returns-clause-ok c =
    let keys = c.self.inside.keys.keys in
    ap pairs_of c.in_ok-insert.ensures.keys
    ∙ ap (λ (k : Key). pairs_of (insert_key ghosts.eq keys k)) c.key_of.ensures
    ∙ key_inserted ghosts.eq (λ d e. (refl, refl, refl, refl)) c.args.pair.now keys
    ∙ ap (λ (pairs : List Edge). insert_key is_pair pairs c.args.pair.now) c.self.view_is
