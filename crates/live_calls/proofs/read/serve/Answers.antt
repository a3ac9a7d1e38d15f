use Rattle.std.proofs.Common.{◌^◌, ◌*◌, Ok, Err, length, arith}
use Rattle.casd_base.specs.declared.status.Status.{Status}
use Rattle.cas_calls.specs.BatchRead.{batch_read_view, batch_read_script, response_spelled}
use Rattle.live_calls.specs.Turns.{read_by, given}
use Rattle.live_calls.proofs.TurnLaws.{plays_wanting, plays_then, ends_replied, ends_as}
use Rattle.live_calls.proofs.read.serve.Goals as goal

pub returns-then-len-gt-MAX_DIGESTS : goal.returns-then-len-gt-MAX_DIGESTS
returns-then-len-gt-MAX_DIGESTS g c =
    plays_wanting (read_by (Ok (batch_read_view c.args.request.now))) c.refuse.result c.out_of_memory.result (g.D.Door.view c.args.door.now) (g.K.Shelf.shelved c.args.shelf.now) (2 ^ 22) (record { is_in = c.requires.is_in; seated = c.left-turns.ensures.seated c.requires.is_in }) c.refuse.ensures c.out_of_memory.ensures

pub returns-in-Ok : goal.returns-in-Ok
returns-in-Ok g c =
    plays_then (batch_read_script (batch_read_view c.args.request.now)) given (Ok c.in-Ok.response.responses) c.reply.result (g.D.Door.view c.args.door.now) (g.D.Door.view c.batch_read.new.door) (g.K.Shelf.shelved c.args.shelf.now) (g.K.Shelf.shelved c.batch_read.new.shelf) (2 * length c.args.request.now.digests) (2 ^ 22)
    (omega (arith, c.len.ensures, c.if-len-gt-MAX_DIGESTS.false)) c.in-Ok.ensures.plays
    (ends_replied c.reply.result c.write.result (response_spelled c.in-Ok.response.responses) c.reply.ensures c.write.ensures.value)

pub returns-in-Err : goal.returns-in-Err
returns-in-Err g c =
    plays_then (batch_read_script (batch_read_view c.args.request.now)) given (Err c.in-Err.status) c.refuse-in-Err.result (g.D.Door.view c.args.door.now) (g.D.Door.view c.batch_read.new.door) (g.K.Shelf.shelved c.args.shelf.now) (g.K.Shelf.shelved c.batch_read.new.shelf) (2 * length c.args.request.now.digests) (2 ^ 22)
    (omega (arith, c.len.ensures, c.if-len-gt-MAX_DIGESTS.false)) c.in-Err.ensures.plays
    (ends_as _ c.refuse-in-Err.result c.refuse-in-Err.ensures)
