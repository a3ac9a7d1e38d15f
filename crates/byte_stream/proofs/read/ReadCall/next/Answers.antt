use Rattle.std.proofs.Common.{◌∙◌, ap}
use Rattle.byte_stream.specs.declared.place.Place.{Place}
use Rattle.byte_stream.specs.Read.{next_script, answered, stop_answer, Answered}
use Rattle.byte_stream.proofs.OpenLaws.{stopped_then}
use Rattle.byte_stream.proofs.read.ReadCall.next.Goals as goal

pub returns-in-Err-clause-plays : goal.returns-in-Err-clause-plays
returns-in-Err-clause-plays g c =
    stopped_then c.args.self.now.place.digest (next_script c.args.self.now) c.in-Err.stop c.stop.ensures.0 (answered c.stop.result) c.stop.new.self (g.D.Door.view c.args.door.now) (g.D.Door.view c.turn.new.door) (g.K.Shelf.shelved c.args.shelf.now) (g.K.Shelf.shelved c.turn.new.shelf)
    c.in-Err.ensures.took c.stop.ensures.1 (c.stop.ensures.3 ∙ ap (λ (p : Place). stop_answer p.digest c.stop.ensures.0) c.in-Err.ensures.place)
