use Rattle.std.proofs.Common.{◌^◌, Ok, Err, refl, ap, arith}
use Rattle.cas_messages.specs.declared.byte_stream.ReadRequest.{ReadRequest}
use Rattle.cas_calls.specs.Script.{Room}
use Rattle.byte_stream.specs.Read.{begin_script, read_request_in}
use Rattle.live_calls.specs.declared.outcome.Outcome.TheVariants as outcomes
use Rattle.live_calls.specs.Places.{Waiting}
use Rattle.live_calls.specs.Turns.{wanting, open_by, opened}
use Rattle.live_calls.proofs.TurnLaws.{plays_ends, plays_read, plays_then, ends_refused, ends_as}
use Rattle.live_calls.proofs.stream_read.open.Goals as goal

pub returns-in-Ok-begin : goal.returns-in-Ok-begin
returns-in-Ok-begin g c =
    plays_read open_by (read_request_in c.args.message.now) c.in-Ok.request (outcomes.Rests c.reading.result) (g.D.Door.view c.args.door.now) (g.D.Door.view c.begin.new.door) (g.K.Shelf.shelved c.args.shelf.now) (g.K.Shelf.shelved c.begin.new.shelf) (2 ^ 22) c.in-Ok.ensures
    (plays_then (begin_script c.in-Ok.request) opened (Ok c.in-Ok-begin.call) (outcomes.Rests c.reading.result) (g.D.Door.view c.args.door.now) (g.D.Door.view c.begin.new.door) (g.K.Shelf.shelved c.args.shelf.now) (g.K.Shelf.shelved c.begin.new.shelf) 1 (2 ^ 22) (omega arith) c.in-Ok-begin.ensures.plays
    (ends_as _ (outcomes.Rests c.reading.result) (ap (λ (p : Waiting). outcomes.Rests p) c.reading.ensures)))

pub returns-in-Ok : goal.returns-in-Ok
returns-in-Ok g c =
    plays_read open_by (read_request_in c.args.message.now) c.in-Ok.request c.refuse.result (g.D.Door.view c.args.door.now) (g.D.Door.view c.begin.new.door) (g.K.Shelf.shelved c.args.shelf.now) (g.K.Shelf.shelved c.begin.new.shelf) (2 ^ 22) c.in-Ok.ensures
    (plays_then (begin_script c.in-Ok.request) opened (Err c.in-Err-begin.status) c.refuse.result (g.D.Door.view c.args.door.now) (g.D.Door.view c.begin.new.door) (g.K.Shelf.shelved c.args.shelf.now) (g.K.Shelf.shelved c.begin.new.shelf) 1 (2 ^ 22) (omega arith) c.in-Err-begin.ensures.plays (ends_as _ c.refuse.result c.refuse.ensures))

pub returns : goal.returns
returns g c =
    plays_ends (Room wanting (open_by (read_request_in c.args.message.now))) c.refuse-in-Err.result (g.D.Door.view c.args.door.now) (g.K.Shelf.shelved c.args.shelf.now) (2 ^ 22) (record { is_in = c.requires.is_in; seated = c.left-turns.ensures.seated c.requires.is_in })
    (ends_refused (λ (r : ReadRequest). r) open_by c.in-Err.fault (read_request_in c.args.message.now) c.refuse-in-Err.result c.fault_status.result (λ e. refl) c.in-Err.ensures c.refuse-in-Err.ensures c.fault_status.ensures)
