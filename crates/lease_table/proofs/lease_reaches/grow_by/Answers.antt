use Rattle.std.proofs.Common.{◌∙◌, List, sym, ap, subst}
use Rattle.std.specs.Option.{option_copied}
use Rattle.store_core.specs.Reach.{Linked}
use Rattle.lease_table.specs.Table.{without, others}
use Rattle.lease_table.specs.LeaseReaches.{wholes, AreReached}
use Rattle.lease_table.proofs.LeaseReachesLaws.{uncounted_more, file_more}
use Rattle.lease_table.proofs.lease_reaches.grow_by.Goals as goal

pub returns-then-count-eq0-clause-ok : goal.returns-then-count-eq0-clause-ok
returns-then-count-eq0-clause-ok c =
    let before = others c.args.digest.now (without c.args.gone.now c.args.rows.now) in
    subst (λ (there : List Linked). AreReached there (wholes c.args.kept.now.items)) (sym c.requires.last)
    (uncounted_more before _ c.args.kept.now.items c.requires.full c.requires.reached (sym c.requires.counted ∙ sym c.count.ensures ∙ c.if-count-eq0.true))

pub returns-in-None-clause-ok : goal.returns-in-None-clause-ok
returns-in-None-clause-ok c =
    let before = others c.args.digest.now (without c.args.gone.now c.args.rows.now) in
    subst (λ (there : List Linked). AreReached there (wholes c.args.kept.now.items)) (sym c.requires.last)
    (file_more before _ c.args.kept.now.items (ap option_copied c.in-None.is) c.requires.full c.requires.reached)
