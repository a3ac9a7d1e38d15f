use Rattle.std.proofs.Common.{Ok, ◌∙◌, ap}
use Rattle.byte_stream.specs.Names.{write_named}
use Rattle.byte_stream.proofs.QueryLaws.{query_by, query_misnamed}
use Rattle.byte_stream.proofs.progress.query.Goals as goal

pub returns-in-Ok : goal.returns-in-Ok
returns-in-Ok g c = λ x. query_by c.args.request.now.resource_name (Ok c.in-Ok.digest) c.look.result (g.D.Door.view c.args.door.now) (g.D.Door.view c.look.new.door) x (c.in-Ok.ensures ∙ ap write_named c.as_str.ensures) (c.look.ensures x)

pub returns-in-Err : goal.returns-in-Err
returns-in-Err g c = λ x. query_misnamed c.args.request.now.resource_name c.in-Err.status (g.D.Door.view c.args.door.now) x (record { is_in = c.requires.is_in; seated = c.left-turns.ensures.seated c.requires.is_in }) (c.in-Err.ensures ∙ ap write_named c.as_str.ensures)
