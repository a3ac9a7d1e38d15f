use Rattle.std.proofs.Common.{◌≡◌, ◌≤◌, drop}
use Rattle.grpc_calls.specs.Codes.{code_of}
use Rattle.grpc_calls.specs.Headers.{number_on}
use Rattle.grpc_calls.proofs.headers.number_in.Given as goal

abbrev pub invariant-digits : goal.invariant-digits
invariant-digits l = record {
  small : l.number ≤ 1000;
  same : code_of (number_on l.number (drop l.digit-index l.digits)) ≡ code_of (number_on 0 l.digits);
}
