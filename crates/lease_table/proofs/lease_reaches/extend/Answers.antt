use Rattle.std.proofs.Common.{◌||◌, ◌&&◌, ◌∙◌, Bool, List, length, sym, ap, subst}
use Rattle.store_core.specs.Reach.{Linked}
use Rattle.lease_table.specs.Table.{without, others}
use Rattle.lease_table.specs.Pairs.{has, IsWalked}
use Rattle.lease_table.proofs.PairSetLaws.{walked_again}
use Rattle.lease_table.proofs.lease_reaches.extend.Goals as goal

pub walk-requires : goal.walk-requires
walk-requires c =
    let rows = (without c.args.gone.now c.args.rows.now) in
    let d = c.args.digest.now in
    let before = c.args.reach.now.pairs in
    let after = c.add_all.new.pairs in
    let root = c.args.reach.now.lease.root in
    subst (λ n. IsWalked rows root after n) (sym c.len-from.ensures.len)
    (subst (λ (there : List Linked). IsWalked there root after (length before)) (sym c.requires.last)
    (walked_again (others d rows) _ root before after c.requires.reach c.add_all.ensures.begins
    (λ pair. c.in_ok-add_all.ensures.adds pair ∙ ap (λ (b : Bool). has before pair || (b && has c.args.edges.now pair)) (sym c.requires.there))))
