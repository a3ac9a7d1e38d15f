use Rattle.std.proofs.Common.{◌≡◌, ℕ, ◌-◌, ◌<◌, ◌≤◌, length}
use Rattle.std.specs.Prelude.{Some, slice_get}
use Rattle.h2_session.specs.declared.stream.Stream.{Stream}
use Rattle.h2_session.proofs.streams.find.Given as goal

abbrev pub invariant-halves : goal.invariant-halves
invariant-halves l = record {
  order : l.low ≤ l.high;
  within : l.high ≤ length l.streams;
  below : (k : ℕ) (s : Stream) → k < l.low → slice_get l.streams k ≡ Some s → s.number < l.number;
  above : (k : ℕ) (s : Stream) → l.high ≤ k → slice_get l.streams k ≡ Some s → l.number < s.number;
}

abbrev pub decreases-halves : goal.decreases-halves
decreases-halves l = l.high - l.low
