use Rattle.std.proofs.Common.{◌≡◌, ◌≤◌, ap, not, arith}
use Rattle.lease_table.specs.Table.{Table, is_blob, sizes}
use Rattle.lease_table.proofs.TableLaws.{smaller}
use Rattle.lease_bench.proofs.remove_next.Goals as goal

pub invariant_of-kept-2 : goal.invariant_of-kept-2
invariant_of-kept-2 c =
    let is = ap (λ (t : Table). sizes t.blobs) c.on_remove.ensures.rows in
    let fewer = smaller (λ blob. not (is_blob c.in_ok-digest.digest blob)) c.args.kept.now.table.blobs in
    record { total = omega (arith, is, fewer, c.args.kept.now.total) }
