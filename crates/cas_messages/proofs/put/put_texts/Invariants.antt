use Rattle.std.proofs.Common.{◌≡◌, ◌++◌, take}
use Rattle.std.specs.List.{flat_map, AllByRecursion}
use Rattle.proto_wire.specs.Spelling.{bytes_field}
use Rattle.cas_messages.specs.Fits.{IsText}
use Rattle.cas_messages.proofs.put.put_texts.Given as goal

abbrev pub invariant-values : goal.invariant-values
invariant-values l = record {
  wrote : l.out ≡ l.fn.out ++ flat_map (bytes_field l.number) (take l.value-index l.values);
  fits : AllByRecursion IsText (take l.value-index l.values);
}
