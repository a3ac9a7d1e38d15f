-- The numbers of the gRPC status codes.
use Rattle.std.specs.Prelude.{ℕ}
use Rattle.casd_base.specs.declared.code.Code.{Code}
use Rattle.casd_base.specs.declared.code.Code.TheVariants as code

abbrev pub number_of : Code → ℕ
number_of code.Ok = 0
number_of code.Cancelled = 1
number_of code.Unknown = 2
number_of code.InvalidArgument = 3
number_of code.DeadlineExceeded = 4
number_of code.NotFound = 5
number_of code.AlreadyExists = 6
number_of code.PermissionDenied = 7
number_of code.ResourceExhausted = 8
number_of code.FailedPrecondition = 9
number_of code.Aborted = 10
number_of code.OutOfRange = 11
number_of code.Unimplemented = 12
number_of code.Internal = 13
number_of code.Unavailable = 14
number_of code.DataLoss = 15
number_of code.Unauthenticated = 16
