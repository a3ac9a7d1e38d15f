use Rattle.std.proofs.Common.{◌≡◌, length}
use Rattle.std.specs.Prelude.{option_map}
use Rattle.byte_stream.specs.Names.{segments, segments_behind, write_in}
use Rattle.byte_stream.proofs.names.write_name.Given as goal

abbrev pub invariant-loop-rest : goal.invariant-loop-rest
invariant-loop-rest l = write_in (segments_behind (option_map (λ t. t.now) l.rest)) ≡ write_in (segments l.name)

abbrev pub decreases-loop-rest : goal.decreases-loop-rest
decreases-loop-rest l = length (segments_behind (option_map (λ t. t.now) l.rest))
