use Rattle.std.proofs.Common.{◌∙◌, sym, ap, subst, Ok, Err, [], length, List, ◌*◌}
use Rattle.cas_messages.specs.declared.blobs.BatchReadBlobsResponseItem1.{BatchReadBlobsResponseItem1 as Answer}
use Rattle.digest_types.specs.Name.{HashAndSize}
use Rattle.casd_base.specs.declared.status.Status.{Status}
use Rattle.cas_calls.specs.Script.{End}
use Rattle.cas_calls.specs.Plays.{Took}
use Rattle.cas_calls.specs.BatchRead.{batch_read_view, batch_read_script, blobs_script, fits, wanting}
use Rattle.cas_calls.proofs.ReadLaws.{fits_small, took_batch, other_batch, large_batch}
use Rattle.cas_calls.proofs.read.batch_read.Goals as goal

pub returns-then-not-is_sha256-clause-plays : goal.returns-then-not-is_sha256-clause-plays
returns-then-not-is_sha256-clause-plays g c =
    rw c.other_function.ensures (other_batch (batch_read_view c.args.request.now) (g.D.Door.view c.args.door.now) (g.K.Shelf.shelved c.args.shelf.now) (2 * length c.args.request.now.digests) (sym c.is_sha256.ensures ∙ c.if-not-is_sha256.true)
    (record { is_in = c.requires.is_in; seated = c.left-turns.ensures.seated c.requires.is_in }))

pub returns-then-not-fits-clause-plays : goal.returns-then-not-fits-clause-plays
returns-then-not-fits-clause-plays g c =
    rw c.batch_too_large.ensures (large_batch (batch_read_view c.args.request.now) (g.D.Door.view c.args.door.now) (g.K.Shelf.shelved c.args.shelf.now) (2 * length c.args.request.now.digests) (sym c.is_sha256.ensures ∙ c.if-not-is_sha256.false) (ap fits (sym c.as_slice.ensures) ∙ sym c.fits.ensures ∙ c.if-not-fits.true)
    (record { is_in = c.requires.is_in; seated = c.left-turns.ensures.seated c.requires.is_in }))

pub read_blobs-requires-clause-small : goal.read_blobs-requires-clause-small
read_blobs-requires-clause-small g c = rw c.as_slice-2.ensures (fits_small c.args.request.now.digests (ap fits (sym c.as_slice.ensures) ∙ sym c.fits.ensures ∙ c.if-not-fits.false))

pub returns-in-Ok-clause-plays : goal.returns-in-Ok-clause-plays
returns-in-Ok-clause-plays g c =
    took_batch (batch_read_view c.args.request.now) (g.D.Door.view c.args.door.now) (g.D.Door.view c.read_blobs.new.door) (g.K.Shelf.shelved c.args.shelf.now) (g.K.Shelf.shelved c.read_blobs.new.shelf) (2 * length c.args.request.now.digests) (End (Ok c.from_vec.result))
    (sym c.is_sha256.ensures ∙ c.if-not-is_sha256.false) (ap fits (sym c.as_slice.ensures) ∙ sym c.fits.ensures ∙ c.if-not-fits.false)
    (subst (λ (answers : List Answer). Took (blobs_script c.args.request.now.digests []) (g.D.Door.view c.args.door.now) (g.D.Door.view c.read_blobs.new.door) (g.K.Shelf.shelved c.args.shelf.now) (g.K.Shelf.shelved c.read_blobs.new.shelf) (2 * length c.args.request.now.digests) (End (Ok answers))) (sym c.from_vec.ensures)
    (subst (λ (items : List HashAndSize). Took (blobs_script items []) (g.D.Door.view c.args.door.now) (g.D.Door.view c.read_blobs.new.door) (g.K.Shelf.shelved c.args.shelf.now) (g.K.Shelf.shelved c.read_blobs.new.shelf) (2 * length items) (End (Ok c.in-Ok.answers.items))) c.as_slice-2.ensures c.in-Ok.ensures.ok))

pub returns-in-Err-clause-plays : goal.returns-in-Err-clause-plays
returns-in-Err-clause-plays g c =
    took_batch (batch_read_view c.args.request.now) (g.D.Door.view c.args.door.now) (g.D.Door.view c.read_blobs.new.door) (g.K.Shelf.shelved c.args.shelf.now) (g.K.Shelf.shelved c.read_blobs.new.shelf) (2 * length c.args.request.now.digests) (End (Err c.out_of_memory.result))
    (sym c.is_sha256.ensures ∙ c.if-not-is_sha256.false) (ap fits (sym c.as_slice.ensures) ∙ sym c.fits.ensures ∙ c.if-not-fits.false)
    (subst (λ (status : Status). Took (blobs_script c.args.request.now.digests []) (g.D.Door.view c.args.door.now) (g.D.Door.view c.read_blobs.new.door) (g.K.Shelf.shelved c.args.shelf.now) (g.K.Shelf.shelved c.read_blobs.new.shelf) (2 * length c.args.request.now.digests) (End (Err status))) (sym c.out_of_memory.ensures)
    (subst (λ (items : List HashAndSize). Took (blobs_script items []) (g.D.Door.view c.args.door.now) (g.D.Door.view c.read_blobs.new.door) (g.K.Shelf.shelved c.args.shelf.now) (g.K.Shelf.shelved c.read_blobs.new.shelf) (2 * length items) wanting) c.as_slice-2.ensures c.in-Err.ensures.err))
