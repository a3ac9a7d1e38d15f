use Rattle.std.proofs.Common.{◌≡◌, ◌≤◌, ◌^◌, false, length}
use Rattle.casd_server.specs.Sitting.{StaysSeated}
use Rattle.casd_server.proofs.PutLaws.{IsPutBefore}
use Rattle.casd_server.proofs.batch.put_all.Given as goal

abbrev pub invariant-items : goal.invariant-items
invariant-items g l =
    StaysSeated l.fn.bench l.bench
    × (length l.bench.seen ≤ 2 ^ 62)
    × ((g.K.Shelf.shelved l.shelf).may_fail ≡ false)
    × IsPutBefore l.fn.bench l.bench l.items l.answers.items l.item-index
