use Rattle.std.proofs.Common.{[], List, sym, ap, subst, ◌∙◌}
use Rattle.directory_canon.specs.declared.node.Edge.{Edge}
use Rattle.store_core.specs.Reach.{Linked, is_pair}
use Rattle.indexmap.specs.IndexSet.{insert_key}
use Rattle.lease_table.specs.Table.{without}
use Rattle.lease_table.specs.Pairs.{IsReach, IsWalked}
use Rattle.lease_table.proofs.PairSetLaws.{walked_start}
use Rattle.lease_table.proofs.RowLaws.{without_none}
use Rattle.lease_table.proofs.lease_reaches.reach_of.Goals as goal

pub walk-requires : goal.walk-requires
walk-requires c =
    let root = c.args.lease.root in
    subst (λ (pairs : List Edge). IsWalked (without [] c.args.rows.now) root pairs 0) (sym (c.in_ok-insert.ensures.ok ∙ ap (λ (pairs : List Edge). insert_key is_pair pairs root) c.new-pairs.ensures))
    (walked_start (without [] c.args.rows.now) root)

pub returns-clause-reach : goal.returns-clause-reach
returns-clause-reach c = subst (λ (rows : List Linked). IsReach rows c.args.lease.root c.walk.new.pairs) (without_none c.args.rows.now) c.in_ok-walk.ensures.exact
