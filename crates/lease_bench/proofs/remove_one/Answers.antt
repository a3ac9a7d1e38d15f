use Rattle.std.proofs.Common.{◌≡◌, ◌≤◌, ap, not, arith}
use Rattle.lease_table.specs.Table.{Table, is_blob, sizes}
use Rattle.lease_table.proofs.TableLaws.{smaller}
use Rattle.lease_bench.proofs.remove_one.Goals as goal

pub invariant_of-kept : goal.invariant_of-kept
invariant_of-kept c =
    let is = ap (λ (t : Table). sizes t.blobs) c.on_remove.ensures.rows in
    let fewer = smaller (λ blob. not (is_blob c.args.digest.now blob)) c.args.kept.now.table.blobs in
    record { total = omega (arith, is, fewer, c.args.kept.now.total) }
