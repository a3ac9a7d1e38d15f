use Rattle.std.proofs.Common.{ap, ◌∙◌}
use Rattle.grpc_calls.specs.Calls.{Calls}
use Rattle.grpc_calls.proofs.StayLaws.{goes_role, said_role}
use Rattle.grpc_calls.proofs.calls.Calls.send.Goals as goal

pub returns-in-Ok-clause-role : goal.returns-in-Ok-clause-role
returns-in-Ok-clause-role c =
    goes_role _ c.self.inside.session c.send.new.self c.in-Ok.ensures.ok (said_role c.args.stream c.args.what c.self.inside.session.part) ∙ ap (λ (x : Calls). x.session.part.role) c.self.view_is
