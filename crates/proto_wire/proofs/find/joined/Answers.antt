use Rattle.std.proofs.Common.{List, ℕ, Bor}
use Rattle.proto_wire.proofs.Finds.{joined_more}
use Rattle.proto_wire.proofs.find.joined.Goals as goal

pub parts-preserved : goal.parts-preserved
parts-preserved c = joined_more (λ (b : Bor (List ℕ)). b.now) c.deref-part-items.result.now c.parts.part-index _ c.parts.whole.items c.extend_from_slice.new.self.items c.parts-test.true c.in_ok-extend_from_slice.ensures.items c.parts.invariant
