use Rattle.std.proofs.Common.{◌≡◌, ◌∙◌, List, Some, sym, ap, subst}
use Rattle.std.specs.Prelude.{slice_get}
use Rattle.digest_types.specs.Name.{HashAndSize}
use Rattle.lease_table.specs.Table.{unguarded, other_digests, IsPassed}
use Rattle.lease_table.proofs.PassLaws.{passed_next}
use Rattle.lease_table.proofs.use_order.UseOrder.take_next.Goals as goal

pub returns-clause-passed : goal.returns-clause-passed
returns-clause-passed c =
    let t = c.args.leases.now in
    let order = c.self.inside.slots in
    let d = c.in_ok-digest.digest in
    let passed = subst (λ (ds : List HashAndSize). IsPassed t ds c.args.from.now) (sym c.self.view_is) c.requires in
    let first : slice_get (unguarded t order) 0 ≡ Some d =
    ap (λ (ds : List HashAndSize). slice_get ds 0) (sym passed ∙ ap (unguarded t) (sym c.from_on.ensures)) ∙ sym c.first_unguarded.ensures ∙ c.in_ok-digest.was in
    subst (λ (ds : List HashAndSize). IsPassed t ds c.behind.result) (sym c.remove.ensures)
    (subst (IsPassed t (other_digests d order)) (sym c.behind.ensures.behind) (passed_next t d order c.behind.ensures.distinct first))
