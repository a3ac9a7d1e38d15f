use Rattle.std.proofs.Common.{◌≡◌, ◌++◌, take}
use Rattle.std.specs.List.{flat_map, AllByRecursion}
use Rattle.digest_types.specs.Digest.{IsDigest}
use Rattle.cas_messages.specs.Spelling.{digest_spelled}
use Rattle.cas_messages.proofs.put.put_digests.Given as goal

abbrev pub invariant-values : goal.invariant-values
invariant-values l = record {
  wrote : l.out ≡ l.fn.out ++ flat_map (digest_spelled l.number) (take l.value-index l.values);
  fits : AllByRecursion IsDigest (take l.value-index l.values);
}
