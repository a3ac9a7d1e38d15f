use Rattle.std.proofs.Common.{◌^◌, Ok, Err, length, arith}
use Rattle.casd_base.specs.declared.status.Status.{Status}
use Rattle.cas_calls.specs.Update.{update_view, update_script, response_spelled}
use Rattle.live_calls.specs.Turns.{update_by, updated}
use Rattle.live_calls.proofs.TurnLaws.{plays_wanting, plays_then, ends_replied, ends_as}
use Rattle.live_calls.proofs.batch.update.Goals as goal

pub returns-then-len-gt-MAX_BLOBS : goal.returns-then-len-gt-MAX_BLOBS
returns-then-len-gt-MAX_BLOBS g c =
    plays_wanting (update_by (Ok (update_view c.args.request.now))) c.refuse.result c.out_of_memory.result (g.D.Door.view c.args.door.now) (g.K.Shelf.shelved c.args.shelf.now) (2 ^ 22) (record { is_in = c.requires.is_in; seated = c.left-turns.ensures.seated c.requires.is_in }) c.refuse.ensures c.out_of_memory.ensures

pub returns-in-Ok : goal.returns-in-Ok
returns-in-Ok g c =
    plays_then (update_script (update_view c.args.request.now)) updated (Ok c.in-Ok.response.responses) c.reply.result (g.D.Door.view c.args.door.now) (g.D.Door.view c.batch_update.new.door) (g.K.Shelf.shelved c.args.shelf.now) (g.K.Shelf.shelved c.batch_update.new.shelf) (length c.args.request.now.requests) (2 ^ 22)
    (omega (arith, c.len.ensures, c.if-len-gt-MAX_BLOBS.false)) c.in-Ok.ensures.plays
    (ends_replied c.reply.result c.write.result (response_spelled c.in-Ok.response.responses) c.reply.ensures c.write.ensures.value)

pub returns-in-Err : goal.returns-in-Err
returns-in-Err g c =
    plays_then (update_script (update_view c.args.request.now)) updated (Err c.in-Err.status) c.refuse-in-Err.result (g.D.Door.view c.args.door.now) (g.D.Door.view c.batch_update.new.door) (g.K.Shelf.shelved c.args.shelf.now) (g.K.Shelf.shelved c.batch_update.new.shelf) (length c.args.request.now.requests) (2 ^ 22)
    (omega (arith, c.len.ensures, c.if-len-gt-MAX_BLOBS.false)) c.in-Err.ensures.plays
    (ends_as _ c.refuse-in-Err.result c.refuse-in-Err.ensures)
