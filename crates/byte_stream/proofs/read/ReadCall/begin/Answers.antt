use Rattle.std.proofs.Common.{Ok}
use Rattle.byte_stream.proofs.OpenLaws.{open_refused, open_taken}
use Rattle.byte_stream.proofs.read.ReadCall.begin.Goals as goal

pub returns-in-Err-clause-plays : goal.returns-in-Err-clause-plays
returns-in-Err-clause-plays g c = open_refused c.args.request.now c.in-Err.status (g.D.Door.view c.args.door.now) (g.K.Shelf.shelved c.args.shelf.now) (record { is_in = c.requires.is_in; seated = c.left-turns.ensures.seated c.requires.is_in }) c.in-Err.ensures.value
