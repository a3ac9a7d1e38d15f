use Rattle.std.proofs.Common.{◌≡◌, ◌++◌, length}
use Rattle.std.specs.List.{AllByRecursion}
use Rattle.digest_types.specs.Digest.{IsDigest}
use Rattle.store_core.specs.State.{DistinctDigests}
use Rattle.cache_folder.specs.UseList.{lines}
use Rattle.cache_folder.proofs.use_list.read_use.Given as goal

-- the lines so far and the rest are all lines
abbrev pub invariant-lines : goal.invariant-lines
invariant-lines l = record {
  digests : AllByRecursion IsDigest l.order.keys;
  distinct : DistinctDigests l.order.keys;
  whole : lines l.order.keys ++ l.rest ≡ l.initial.rest;
}

abbrev pub decreases-lines : goal.decreases-lines
decreases-lines l = length l.rest
