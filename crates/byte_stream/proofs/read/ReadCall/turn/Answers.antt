use Rattle.std.proofs.Common.{Some, Option, ◌∙◌, ap, sym}
use Rattle.byte_stream.specs.declared.read_stop.ReadStop.{ReadStop}
use Rattle.byte_stream.specs.Read.{next_script, next_by, ReadState}
use Rattle.byte_stream.proofs.OpenLaws.{stopped_again}
use Rattle.byte_stream.proofs.read.ReadCall.turn.Goals as goal

pub returns-in-Some-clause-took : goal.returns-in-Some-clause-took
returns-in-Some-clause-took g c =
    stopped_again c.args.self.now.place.digest (next_script c.args.self.now) c.in-Some.stop (g.D.Door.view c.args.door.now) (g.K.Shelf.shelved c.args.shelf.now) c.requires.is_in
    (ap (λ (o : Option ReadStop). next_by o c.args.self.now) (sym (ap (λ (s : ReadState). s.ended) c.self.view_is) ∙ c.in-Some.is))
