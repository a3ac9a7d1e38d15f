use Rattle.std.proofs.Common.{◌^◌, refl}
use Rattle.cas_calls.specs.Script.{Room}
use Rattle.cas_calls.specs.BatchRead.{batch_read_in, batch_read_view}
use Rattle.live_calls.specs.Turns.{wanting, read_by}
use Rattle.live_calls.proofs.TurnLaws.{plays_ends, ends_refused}
use Rattle.live_calls.proofs.read.answer.Goals as goal

pub returns-in-Err : goal.returns-in-Err
returns-in-Err g c =
    plays_ends (Room wanting (read_by (batch_read_in c.args.message.now))) c.refuse.result (g.D.Door.view c.args.door.now) (g.K.Shelf.shelved c.args.shelf.now) (2 ^ 22) (record { is_in = c.requires.is_in; seated = c.left-turns.ensures.seated c.requires.is_in })
    (ends_refused batch_read_view read_by c.in-Err.fault (batch_read_in c.args.message.now) c.refuse.result c.fault_status.result (λ e. refl) c.in-Err.ensures c.refuse.ensures c.fault_status.ensures)
