use Rattle.std.proofs.Common.{◌^◌, refl}
use Rattle.cas_calls.specs.Script.{Room}
use Rattle.cas_calls.specs.Find.{find_in, find_view}
use Rattle.live_calls.specs.Turns.{wanting, find_by}
use Rattle.live_calls.proofs.TurnLaws.{plays_ends, ends_refused}
use Rattle.live_calls.proofs.find.answer.Goals as goal

pub returns-in-Err : goal.returns-in-Err
returns-in-Err g c = λ x.
    plays_ends (Room wanting (find_by (find_in c.args.message.now))) c.refuse.result (g.D.Door.view c.args.door.now) x (2 ^ 22) (record { is_in = c.requires.is_in; seated = c.left-turns.ensures.seated c.requires.is_in })
    (ends_refused find_view find_by c.in-Err.fault (find_in c.args.message.now) c.refuse.result c.fault_status.result (λ e. refl) c.in-Err.ensures c.refuse.ensures c.fault_status.ensures)
