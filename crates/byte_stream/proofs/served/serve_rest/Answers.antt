use Rattle.byte_stream.proofs.ReadTurns.{took_rest}
use Rattle.byte_stream.proofs.served.serve_rest.Goals as goal

pub returns-clause-took : goal.returns-clause-took
returns-clause-took g c =
    took_rest c.args.place.now c.args.reading.now c.read_rest.new.reading c.read_rest.result (g.D.Door.view c.args.door.now) (g.D.Door.view c.note.new.door) (g.K.Shelf.shelved c.args.shelf.now) (g.K.Shelf.shelved c.read_rest.new.shelf)
    c.requires.is_in c.read_rest.ensures.leaves c.read_rest.ensures.later c.read_rest.ensures.stop c.note.ensures
