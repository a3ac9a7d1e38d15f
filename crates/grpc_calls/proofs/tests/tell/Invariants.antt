use Rattle.std.proofs.Common.{◌≡◌}
use Rattle.grpc_calls.proofs.tests.tell.Given as goal

abbrev pub invariant-events : goal.invariant-events
invariant-events l = l.calls.session.part.role ≡ l.initial.calls.session.part.role
