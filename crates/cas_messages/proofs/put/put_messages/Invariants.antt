use Rattle.std.proofs.Common.{◌≡◌, ◌++◌, map, take}
use Rattle.std.specs.List.{flat_map, AllByRecursion}
use Rattle.proto_wire.specs.Spelling.{bytes_field}
use Rattle.cas_messages.specs.Spelling.{spelled}
use Rattle.cas_messages.specs.Fits.{Short, Fits}
use Rattle.cas_messages.proofs.put.put_messages.Given as goal

abbrev pub invariant-values : goal.invariant-values
invariant-values g l = record {
  wrote : l.out ≡ l.fn.out ++ flat_map (λ m. bytes_field l.number (spelled g.T.Message.table m)) (map g.T.Message.value (take l.value-index l.values));
  fits : AllByRecursion (λ m. Short (spelled g.T.Message.table m) × Fits g.T.Message.table m) (map g.T.Message.value (take l.value-index l.values));
}
