use Rattle.proto_wire.proofs.Spelled.{spelled-spelling, spelled_least}
use Rattle.proto_wire.proofs.laws.shortest_spelling.Goals as goal

pub returns-clause-spells : goal.returns-clause-spells
returns-clause-spells c = spelled-spelling

pub returns-clause-shortest : goal.returns-clause-shortest
returns-clause-shortest c = spelled_least
