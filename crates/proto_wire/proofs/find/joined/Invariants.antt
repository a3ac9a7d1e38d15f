use Rattle.std.proofs.Common.{◌≡◌, map, take}
use Rattle.std.specs.List.{concat}
use Rattle.proto_wire.proofs.find.joined.Given as goal

abbrev pub invariant-parts : goal.invariant-parts
invariant-parts l = l.whole.items ≡ concat (take l.part-index (map (λ b. b.now) l.part-items))
