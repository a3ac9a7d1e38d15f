use Rattle.std.proofs.Common.{◌^◌, ◌∙◌, ℕ, List, Option, Some, None, Ok, Err, ap, subst, arith}
use Rattle.cas_messages.specs.declared.byte_stream.ReadResponse.{ReadResponse}
use Rattle.cas_calls.specs.Script.{End}
use Rattle.cas_calls.specs.Plays.{Plays}
use Rattle.byte_stream.specs.Read.{next_script, standing, answered, response_spelled}
use Rattle.live_calls.specs.declared.outcome.Outcome.TheVariants as outcomes
use Rattle.live_calls.specs.Places.{Waiting, Reading}
use Rattle.live_calls.specs.Turns.{gone_on}
use Rattle.live_calls.proofs.TurnLaws.{plays_on, ends_fit, ends_as, ends_wanted}
use Rattle.live_calls.proofs.stream_read.go_on.Goals as goal

pub returns-in-Ok-clause-plays : goal.returns-in-Ok-clause-plays
returns-in-Ok-clause-plays g c =
    let outcome = outcomes.Gives c.in-Ok.message c.reading.result in
    let given = outcomes.Gives (response_spelled c.in-Ok-Some.response.bytes) (Reading c.next.new.self) in
    plays_on (next_script c.args.call) gone_on (Ok (Some (c.in-Ok-Some.response.bytes, c.next.new.self))) outcome (g.D.Door.view c.args.door.now) (g.D.Door.view c.next.new.door) (g.K.Shelf.shelved c.args.shelf.now) (g.K.Shelf.shelved c.next.new.shelf) 1 (2 ^ 22) (omega arith)
    (subst (λ (o : Option ReadResponse). Plays (next_script c.args.call) (g.D.Door.view c.args.door.now) (g.D.Door.view c.next.new.door) (g.K.Shelf.shelved c.args.shelf.now) (g.K.Shelf.shelved c.next.new.shelf) 1 (standing c.next.new.self (answered (Ok o)))) c.in-Ok-Some.field-0-is c.in-Ok-Some.ensures.plays)
    (ends_fit (End given) outcome (ends_as given outcome (ap (λ (m : List ℕ). outcomes.Gives m c.reading.result) c.in-Ok.ensures.value ∙ ap (λ (p : Waiting). outcomes.Gives (response_spelled c.in-Ok-Some.response.bytes) p) c.reading.ensures)))

pub returns-in-Err-write-clause-plays : goal.returns-in-Err-write-clause-plays
returns-in-Err-write-clause-plays g c =
    let given = outcomes.Gives (response_spelled c.in-Ok-Some.response.bytes) (Reading c.next.new.self) in
    plays_on (next_script c.args.call) gone_on (Ok (Some (c.in-Ok-Some.response.bytes, c.next.new.self))) c.refuse.result (g.D.Door.view c.args.door.now) (g.D.Door.view c.next.new.door) (g.K.Shelf.shelved c.args.shelf.now) (g.K.Shelf.shelved c.next.new.shelf) 1 (2 ^ 22) (omega arith)
    (subst (λ (o : Option ReadResponse). Plays (next_script c.args.call) (g.D.Door.view c.args.door.now) (g.D.Door.view c.next.new.door) (g.K.Shelf.shelved c.args.shelf.now) (g.K.Shelf.shelved c.next.new.shelf) 1 (standing c.next.new.self (answered (Ok o)))) c.in-Ok-Some.field-0-is c.in-Ok-Some.ensures.plays)
    (ends_wanted (End given) c.refuse.result c.out_of_memory.result c.refuse.ensures c.out_of_memory.ensures)

pub returns-in-Ok-None-clause-plays : goal.returns-in-Ok-None-clause-plays
returns-in-Ok-None-clause-plays g c =
    plays_on (next_script c.args.call) gone_on (Ok None) c.end.result (g.D.Door.view c.args.door.now) (g.D.Door.view c.next.new.door) (g.K.Shelf.shelved c.args.shelf.now) (g.K.Shelf.shelved c.next.new.shelf) 1 (2 ^ 22) (omega arith)
    (subst (λ (o : Option ReadResponse). Plays (next_script c.args.call) (g.D.Door.view c.args.door.now) (g.D.Door.view c.next.new.door) (g.K.Shelf.shelved c.args.shelf.now) (g.K.Shelf.shelved c.next.new.shelf) 1 (standing c.next.new.self (answered (Ok o)))) c.in-Ok-None.field-0-is c.in-Ok-None.ensures.plays)
    (ends_as _ c.end.result c.end.ensures)

pub returns-in-Err-clause-plays : goal.returns-in-Err-clause-plays
returns-in-Err-clause-plays g c =
    plays_on (next_script c.args.call) gone_on (Err c.in-Err.status) c.refuse-in-Err.result (g.D.Door.view c.args.door.now) (g.D.Door.view c.next.new.door) (g.K.Shelf.shelved c.args.shelf.now) (g.K.Shelf.shelved c.next.new.shelf) 1 (2 ^ 22) (omega arith) c.in-Err.ensures.plays (ends_as _ c.refuse-in-Err.result c.refuse-in-Err.ensures)
