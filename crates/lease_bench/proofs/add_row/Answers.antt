use Rattle.std.proofs.Common.{◌≡◌, ◌+◌, ◌≤◌, ◌++◌, ◌∷◌, [], ap, not, arith, List}
use Rattle.std.proofs.lemmas.List.Sums.{sum_by_push}
use Rattle.std.specs.Option.{option_copied}
use Rattle.digest_types.specs.Name.{HashAndSize}
use Rattle.store_core.specs.Reach.{Linked}
use Rattle.store_core.specs.State.{is_among}
use Rattle.lease_table.specs.Table.{Table, sizes, without}
use Rattle.lease_table.proofs.TableLaws.{smaller}
use Rattle.lease_bench.proofs.add_row.Goals as goal

pub invariant_of-kept : goal.invariant_of-kept
invariant_of-kept c =
    let gone = c.args.none.now in
    let old = c.args.kept.now.table.blobs in
    let row : Linked = record { digest = c.args.digest.now; edges = option_copied c.args.edges } in
    let is = ap (λ (t : Table). sizes t.blobs) c.in-Ok.ensures.ok in
    let grown = sum_by_push (λ (blob : Linked). blob.digest.size) (without gone old) row in
    let fewer = smaller (λ blob. not (is_among gone blob.digest)) old in
    let size = ap (λ (d : HashAndSize). d.size) c.digest.view_is in
    record { total = omega (arith, is, grown, fewer, size, c.args.kept.now.total) }
