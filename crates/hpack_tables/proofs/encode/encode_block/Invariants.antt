use Rattle.std.proofs.Common.{◌≡◌, ◌++◌, ◌∷◌, [], cond, take}
use Rattle.std.specs.List.{flat_map}
use Rattle.hpack_tables.specs.Encoding.{header_spelled}
use Rattle.hpack_tables.proofs.encode.encode_block.Given as goal

abbrev pub invariant-headers : goal.invariant-headers
invariant-headers l = l.out.items ≡ cond l.shrink (32 ∷ []) [] ++ flat_map header_spelled (take l.header-index l.header-items)
