use Rattle.std.proofs.Common.{◌≡◌, ◌∙◌, List, false, not, sym, ap, subst}
use Rattle.std.specs.Prelude.{Contains}
use Rattle.store_core.specs.Reach.{Linked}
use Rattle.store_core.proofs.Same.{equal_from_same}
use Rattle.lease_table.specs.Table.{Table, is_blob, is_guarded}
use Rattle.lease_table.specs.LeaseReaches.{IsKept}
use Rattle.lease_table.proofs.KeptLaws.{table_of, kept_without, guards_left, not_by}
use Rattle.lease_table.proofs.table.LeaseTable.on_remove.Goals as goal

-- a row that goes isn't guarded
loose : (c : goal.After-remove_one) (row : Linked) → Contains c.self.inside.rows row → not (is_blob c.args.digest.now row) ≡ false → is_guarded (table_of c.self.inside.rows c.self.inside.kept.items c.self.inside.holds.items) row.digest ≡ false
loose c row there gone =
    let t = table_of c.self.inside.rows c.self.inside.kept.items c.self.inside.holds.items in
    ap (is_guarded t) (equal_from_same row.digest c.args.digest.now (not_by (is_blob c.args.digest.now row) gone))
    ∙ ap (λ (u : Table). is_guarded u c.args.digest.now) c.self.view_is ∙ c.requires

pub invariant_of-self : goal.invariant_of-self
invariant_of-self c =
    let inside = c.self.inside in
    subst (λ (rows : List Linked). IsKept rows inside.kept.items inside.holds.items inside.tally.counts.entries inside.tally.bytes) (sym c.remove_one.ensures)
    (kept_without inside.rows (λ row. not (is_blob c.args.digest.now row)) inside.kept.items inside.holds.items inside.tally.counts.entries inside.tally.bytes (loose c) c.self.invariant)

pub returns-clause-guards : goal.returns-clause-guards
returns-clause-guards c = λ d.
    let inside = c.self.inside in
    ap (λ (rows : List Linked). is_guarded (table_of rows inside.kept.items inside.holds.items) d) c.remove_one.ensures
    ∙ guards_left inside.rows (λ row. not (is_blob c.args.digest.now row)) inside.kept.items inside.holds.items inside.tally.counts.entries inside.tally.bytes (loose c) c.self.invariant d
    ∙ ap (λ (u : Table). is_guarded u d) c.self.view_is
