use Rattle.std.proofs.Common.{refl, sym, [], length, ◌*◌}
use Rattle.cas_calls.specs.Served.{answer_of}
use Rattle.cas_calls.specs.BatchRead.{blobs_script, blob_script, wanting}
use Rattle.cas_calls.proofs.TakeLaws.{took_none, is_in_after}
use Rattle.cas_calls.proofs.UpdateLaws.{always_err}
use Rattle.cas_calls.proofs.ReadLaws.{one_blob, blob_broke, answer_broke, all_blobs}
use Rattle.cas_calls.proofs.read.read_blobs.Goals as goal

pub digests-init : goal.digests-init
digests-init g c = (rw c.new-answers.ensures.items (took_none (blobs_script c.args.digests.now []) (g.D.Door.view c.args.door.now) (g.K.Shelf.shelved c.args.shelf.now) c.requires.is_in), c.requires.is_in)

pub returns-in_err-served-clause-err : goal.returns-in_err-served-clause-err
returns-in_err-served-clause-err g c =
    always_err c.from_residual.result
    (blob_broke c.args.digests.now c.digests.answers.items c.digests.digest-index (length c.args.digests.now) c.digest-item.result (g.D.Door.view c.args.door.now) (g.D.Door.view c.digests.door) (g.D.Door.view c.serve.new.door) (g.K.Shelf.shelved c.args.shelf.now) (g.K.Shelf.shelved c.digests.shelf) (g.K.Shelf.shelved c.serve.new.shelf)
    c.digests-test.true refl c.digest-item.is c.digests.invariant.0 c.in_err-served.ensures.err)

pub returns-in_err-answer-clause-err : goal.returns-in_err-answer-clause-err
returns-in_err-answer-clause-err g c =
    always_err c.from_residual-in_err-answer.result
    (answer_broke c.args.digests.now c.digests.answers.items c.digests.digest-index (length c.args.digests.now) c.digest-item.result (answer_of c.digest-item.result c.in_ok-served.served) (g.D.Door.view c.args.door.now) (g.D.Door.view c.digests.door) (g.D.Door.view c.serve.new.door) (g.K.Shelf.shelved c.args.shelf.now) (g.K.Shelf.shelved c.digests.shelf) (g.K.Shelf.shelved c.serve.new.shelf)
    c.digests-test.true refl c.digest-item.is c.digests.invariant.0 c.in_ok-served.ensures.ok)

pub returns-in_err-push-clause-err : goal.returns-in_err-push-clause-err
returns-in_err-push-clause-err g c =
    always_err c.from_residual-in_err-push.result
    (answer_broke c.args.digests.now c.digests.answers.items c.digests.digest-index (length c.args.digests.now) c.digest-item.result (answer_of c.digest-item.result c.in_ok-served.served) (g.D.Door.view c.args.door.now) (g.D.Door.view c.digests.door) (g.D.Door.view c.serve.new.door) (g.K.Shelf.shelved c.args.shelf.now) (g.K.Shelf.shelved c.digests.shelf) (g.K.Shelf.shelved c.serve.new.shelf)
    c.digests-test.true refl c.digest-item.is c.digests.invariant.0 c.in_ok-served.ensures.ok)

pub digests-preserved : goal.digests-preserved
digests-preserved g c = (
  rw (c.in_ok-push.ensures.items, c.in_ok-answer.ensures)
      (one_blob c.args.digests.now c.digests.answers.items c.digests.digest-index c.digest-item.result (answer_of c.digest-item.result c.in_ok-served.served) (g.D.Door.view c.args.door.now) (g.D.Door.view c.digests.door) (g.D.Door.view c.serve.new.door) (g.K.Shelf.shelved c.args.shelf.now) (g.K.Shelf.shelved c.digests.shelf) (g.K.Shelf.shelved c.serve.new.shelf)
      c.digests-test.true c.digest-item.is c.digests.invariant.0 c.in_ok-served.ensures.ok),
  is_in_after (blob_script c.digest-item.result (λ a. wanting)) wanting (g.D.Door.view c.digests.door) (g.D.Door.view c.serve.new.door) (g.K.Shelf.shelved c.digests.shelf) (g.K.Shelf.shelved c.serve.new.shelf) 2 (c.in_ok-served.ensures.ok (λ a. wanting)),
)

pub returns-clause-ok : goal.returns-clause-ok
returns-clause-ok g c =
    all_blobs c.args.digests.now c.digests.answers.items c.digests.digest-index (length c.args.digests.now) (g.D.Door.view c.args.door.now) (g.D.Door.view c.digests.door) (g.K.Shelf.shelved c.args.shelf.now) (g.K.Shelf.shelved c.digests.shelf)
    c.digests-test.false c.digests.auto.digest-index-end c.digests.invariant.0
