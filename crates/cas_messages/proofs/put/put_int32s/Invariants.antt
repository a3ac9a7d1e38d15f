use Rattle.std.proofs.Common.{◌≡◌, map, take}
use Rattle.std.specs.Int.{w32, w64, cast_unsigned}
use Rattle.std.specs.List.{AllByRecursion}
use Rattle.std.specs.Prelude.{FitsSigned}
use Rattle.cas_messages.proofs.put.put_int32s.Given as goal

abbrev pub invariant-values : goal.invariant-values
invariant-values l = record {
  numbers : l.numbers.items ≡ map (cast_unsigned w64) (take l.value-index l.values);
  fits : AllByRecursion (FitsSigned w32) (take l.value-index l.values);
}
