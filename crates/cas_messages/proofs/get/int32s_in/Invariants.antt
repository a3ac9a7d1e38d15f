use Rattle.std.proofs.Common.{◌≡◌, map, take}
use Rattle.cas_messages.specs.Meaning.{int32_of}
use Rattle.cas_messages.proofs.get.int32s_in.Given as goal

abbrev pub invariant-numbers : goal.invariant-numbers
invariant-numbers l = l.values.items ≡ map int32_of (take l.n-index l.n-items)
