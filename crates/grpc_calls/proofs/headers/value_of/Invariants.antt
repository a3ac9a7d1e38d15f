use Rattle.std.proofs.Common.{◌≡◌, drop}
use Rattle.grpc_calls.specs.Headers.{value_of}
use Rattle.grpc_calls.proofs.headers.value_of.Given as goal

abbrev pub invariant-headers : goal.invariant-headers
invariant-headers l = value_of l.name (drop l.header-index l.headers) ≡ value_of l.name l.headers
