-- What is packed is read.
use Rattle.std.proofs.Common.{◌≡◌, ℕ, ◌^◌, ◌<◌, List, [], ◌∷◌, ◌++◌, length, Result, Ok, refl, ap, ◌∙◌, arith}
use Rattle.std.specs.List.{flat_map, AllByRecursion}
use Rattle.std.proofs.lemmas.List.{length-append}
use Rattle.proto_wire.specs.declared.fault.WireError.{WireError}
use Rattle.proto_wire.specs.Steps.{◌>>=◌}
use Rattle.proto_wire.specs.Spelling.{varint}
use Rattle.proto_wire.specs.Packed.{varints_in}
use Rattle.proto_wire.proofs.Again.{ten_again, some_groups}
use Rattle.proto_wire.proofs.Spelled.{varint-spelling}
use Rattle.proto_wire.proofs.PackedLoop.{varints_more}

-- the varints of a packed list, wherever its field begins
pub packed-read : (at : ℕ) (ns : List ℕ) → AllByRecursion (λ n. n < 2 ^ 64) ns → varints_in (length (flat_map varint ns)) at (flat_map varint ns) ≡ Ok ns
unfolding varints_in
packed-read at [] small = refl
packed-read at (n ∷ ns) small =
    let first = varint-spelling n small.0 in
    let rest = flat_map varint ns in
    let long : 0 < length (varint n ++ rest) = omega (arith, length-append (varint n) rest, some_groups (varint n) n first.groups) in
    varints_more at (varint n ++ rest) (n, rest) long (ten_again at n (varint n) rest first)
    ∙ ap (λ (r : Result (List ℕ) WireError). r >>= λ others. Ok (n ∷ others)) (packed-read at ns small.1)
