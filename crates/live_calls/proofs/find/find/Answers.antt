use Rattle.std.proofs.Common.{◌^◌, Ok, Err, arith}
use Rattle.casd_base.specs.declared.status.Status.{Status}
use Rattle.cas_calls.specs.Find.{find_view, find_script, response_spelled}
use Rattle.live_calls.specs.Turns.{find_by, found}
use Rattle.live_calls.proofs.TurnLaws.{plays_wanting, plays_then, ends_replied, ends_as}
use Rattle.live_calls.proofs.find.find.Goals as goal

pub returns-then-len-gt-MAX_DIGESTS : goal.returns-then-len-gt-MAX_DIGESTS
returns-then-len-gt-MAX_DIGESTS g c = λ x.
    plays_wanting (find_by (Ok (find_view c.args.request.now))) c.refuse.result c.out_of_memory.result (g.D.Door.view c.args.door.now) x (2 ^ 22) (record { is_in = c.requires.is_in; seated = c.left-turns.ensures.seated c.requires.is_in }) c.refuse.ensures c.out_of_memory.ensures

pub returns-in-Ok : goal.returns-in-Ok
returns-in-Ok g c = λ x.
    plays_then (find_script (find_view c.args.request.now)) found (Ok c.in-Ok.response.missing_blob_digests) c.reply.result (g.D.Door.view c.args.door.now) (g.D.Door.view c.find_missing.new.door) x x 1 (2 ^ 22)
    (omega arith) (c.in-Ok.ensures.plays x)
    (ends_replied c.reply.result c.write.result (response_spelled c.in-Ok.response.missing_blob_digests) c.reply.ensures c.write.ensures.value)

pub returns-in-Err : goal.returns-in-Err
returns-in-Err g c = λ x.
    plays_then (find_script (find_view c.args.request.now)) found (Err c.in-Err.status) c.refuse-in-Err.result (g.D.Door.view c.args.door.now) (g.D.Door.view c.find_missing.new.door) x x 1 (2 ^ 22)
    (omega arith) (c.in-Err.ensures.plays x)
    (ends_as _ c.refuse-in-Err.result c.refuse-in-Err.ensures)
