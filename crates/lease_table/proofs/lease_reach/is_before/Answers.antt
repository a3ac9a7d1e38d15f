use Rattle.std.proofs.Common.{◌∙◌, sym, ap}
use Rattle.std.specs.Prelude.{position}
use Rattle.directory_canon.specs.declared.node.Edge.{Edge}
use Rattle.store_core.specs.Reach.{is_pair}
use Rattle.lease_table.specs.Tallies.{other_kind}
use Rattle.lease_table.proofs.LeaseReachLaws.{before_told, before_nowhere}
use Rattle.lease_table.proofs.lease_reach.is_before.Goals as goal

pub returns-in-Some : goal.returns-in-Some
returns-in-Some c =
    before_told (other_kind c.args.pair.now) c.args.pairs.now c.args.place c.in-Some.other
    (ap (λ (p : Edge). position (is_pair p) c.args.pairs.now) (sym c.other_kind.ensures) ∙ sym c.place_of.ensures ∙ c.in-Some.is)

pub returns-in-None : goal.returns-in-None
returns-in-None c =
    before_nowhere (other_kind c.args.pair.now) c.args.pairs.now c.args.place
    (ap (λ (p : Edge). position (is_pair p) c.args.pairs.now) (sym c.other_kind.ensures) ∙ sym c.place_of.ensures ∙ c.in-None.is)
