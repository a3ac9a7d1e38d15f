-- The codes of a gRPC status by their numbers (gRPC, Status codes and their use).
use Rattle.std.specs.Prelude.{◌==◌, ℕ, if◌then◌else◌}
use Rattle.casd_base.specs.declared.code.Code.{Code}
use Rattle.casd_base.specs.declared.code.Code.TheVariants as codes

-- the code of a number; a number above 16, which is no code's, counts as UNKNOWN
abbrev pub code_of : ℕ → Code
code_of n =
    if n == 0 then codes.Ok
    else if n == 1 then codes.Cancelled
    else if n == 2 then codes.Unknown
    else if n == 3 then codes.InvalidArgument
    else if n == 4 then codes.DeadlineExceeded
    else if n == 5 then codes.NotFound
    else if n == 6 then codes.AlreadyExists
    else if n == 7 then codes.PermissionDenied
    else if n == 8 then codes.ResourceExhausted
    else if n == 9 then codes.FailedPrecondition
    else if n == 10 then codes.Aborted
    else if n == 11 then codes.OutOfRange
    else if n == 12 then codes.Unimplemented
    else if n == 13 then codes.Internal
    else if n == 14 then codes.Unavailable
    else if n == 15 then codes.DataLoss
    else if n == 16 then codes.Unauthenticated
    else codes.Unknown
