use Rattle.byte_stream.proofs.ReadTurns.{took_piece}
use Rattle.byte_stream.proofs.served.serve_piece.Goals as goal

pub returns-clause-took : goal.returns-clause-took
returns-clause-took g c =
    took_piece c.args.place.now c.args.reading.now c.read_piece-served.new.reading c.read_piece-served.result (g.D.Door.view c.args.door.now) (g.D.Door.view c.note.new.door) (g.K.Shelf.shelved c.args.shelf.now) (g.K.Shelf.shelved c.read_piece-served.new.shelf)
    c.requires.is_in c.read_piece-served.ensures.leaves c.read_piece-served.ensures.later c.read_piece-served.ensures.ok c.read_piece-served.ensures.err c.note.ensures
