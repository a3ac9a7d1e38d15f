use Rattle.std.proofs.Common.{◌∙◌, sym, ap, subst, Ok, Err, [], length, List}
use Rattle.cas_messages.specs.declared.blobs.BatchUpdateBlobsRequestItem2.{BatchUpdateBlobsRequestItem2 as Item}
use Rattle.cas_messages.specs.declared.blobs.BatchUpdateBlobsResponseItem1.{BatchUpdateBlobsResponseItem1 as Answer}
use Rattle.casd_base.specs.declared.status.Status.{Status}
use Rattle.cas_calls.specs.Script.{End}
use Rattle.cas_calls.specs.Plays.{Took}
use Rattle.cas_calls.specs.Update.{update_view, update_script, items_script, fits, wanting}
use Rattle.cas_calls.proofs.UpdateLaws.{fits_small, took_update, other_update, large_update}
use Rattle.cas_calls.proofs.update.batch_update.Goals as goal

pub returns-then-not-is_sha256-clause-plays : goal.returns-then-not-is_sha256-clause-plays
returns-then-not-is_sha256-clause-plays g c =
    rw c.other_function.ensures (other_update (update_view c.args.request.now) (g.D.Door.view c.args.door.now) (g.K.Shelf.shelved c.args.shelf.now) (length c.args.request.now.requests) (sym c.is_sha256.ensures ∙ c.if-not-is_sha256.true)
    (record { is_in = c.requires.is_in; seated = c.left-turns.ensures.seated c.requires.is_in }))

pub returns-then-not-fits-clause-plays : goal.returns-then-not-fits-clause-plays
returns-then-not-fits-clause-plays g c =
    rw c.batch_too_large.ensures (large_update (update_view c.args.request.now) (g.D.Door.view c.args.door.now) (g.K.Shelf.shelved c.args.shelf.now) (length c.args.request.now.requests) (sym c.is_sha256.ensures ∙ c.if-not-is_sha256.false) (ap fits (sym c.as_slice.ensures) ∙ sym c.fits.ensures ∙ c.if-not-fits.true)
    (record { is_in = c.requires.is_in; seated = c.left-turns.ensures.seated c.requires.is_in }))

pub put_items-requires-clause-small : goal.put_items-requires-clause-small
put_items-requires-clause-small g c = rw c.as_slice-2.ensures (fits_small c.args.request.now.requests (ap fits (sym c.as_slice.ensures) ∙ sym c.fits.ensures ∙ c.if-not-fits.false))

pub returns-in-Ok-clause-plays : goal.returns-in-Ok-clause-plays
returns-in-Ok-clause-plays g c =
    took_update (update_view c.args.request.now) (g.D.Door.view c.args.door.now) (g.D.Door.view c.put_items.new.door) (g.K.Shelf.shelved c.args.shelf.now) (g.K.Shelf.shelved c.put_items.new.shelf) (length c.args.request.now.requests) (End (Ok c.from_vec.result))
    (sym c.is_sha256.ensures ∙ c.if-not-is_sha256.false) (ap fits (sym c.as_slice.ensures) ∙ sym c.fits.ensures ∙ c.if-not-fits.false)
    (subst (λ (answers : List Answer). Took (items_script c.args.request.now.requests []) (g.D.Door.view c.args.door.now) (g.D.Door.view c.put_items.new.door) (g.K.Shelf.shelved c.args.shelf.now) (g.K.Shelf.shelved c.put_items.new.shelf) (length c.args.request.now.requests) (End (Ok answers))) (sym c.from_vec.ensures)
    (subst (λ (items : List Item). Took (items_script items []) (g.D.Door.view c.args.door.now) (g.D.Door.view c.put_items.new.door) (g.K.Shelf.shelved c.args.shelf.now) (g.K.Shelf.shelved c.put_items.new.shelf) (length items) (End (Ok c.in-Ok.answers.items))) c.as_slice-2.ensures c.in-Ok.ensures.ok))

pub returns-in-Err-clause-plays : goal.returns-in-Err-clause-plays
returns-in-Err-clause-plays g c =
    took_update (update_view c.args.request.now) (g.D.Door.view c.args.door.now) (g.D.Door.view c.put_items.new.door) (g.K.Shelf.shelved c.args.shelf.now) (g.K.Shelf.shelved c.put_items.new.shelf) (length c.args.request.now.requests) (End (Err c.out_of_memory.result))
    (sym c.is_sha256.ensures ∙ c.if-not-is_sha256.false) (ap fits (sym c.as_slice.ensures) ∙ sym c.fits.ensures ∙ c.if-not-fits.false)
    (subst (λ (status : Status). Took (items_script c.args.request.now.requests []) (g.D.Door.view c.args.door.now) (g.D.Door.view c.put_items.new.door) (g.K.Shelf.shelved c.args.shelf.now) (g.K.Shelf.shelved c.put_items.new.shelf) (length c.args.request.now.requests) (End (Err status))) (sym c.out_of_memory.ensures)
    (subst (λ (items : List Item). Took (items_script items []) (g.D.Door.view c.args.door.now) (g.D.Door.view c.put_items.new.door) (g.K.Shelf.shelved c.args.shelf.now) (g.K.Shelf.shelved c.put_items.new.shelf) (length items) wanting) c.as_slice-2.ensures c.in-Err.ensures.err))
