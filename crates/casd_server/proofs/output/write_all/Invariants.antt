use Rattle.std.proofs.Common.{◌≤◌, ◌-◌, length, take}
use Rattle.casd_base.specs.Streams.{Adds}
use Rattle.casd_server.proofs.output.write_all.Given as goal

abbrev pub invariant-pieces : goal.invariant-pieces
invariant-pieces g l = (l.done ≤ length l.bytes) × Adds (g.W.Sink.written l.initial.sink) (g.W.Sink.written l.sink) (take l.done l.bytes)
    × (g.W.Sink.write_faults l.initial.sink ≤ g.W.Sink.write_faults l.sink)

abbrev pub decreases-pieces : goal.decreases-pieces
decreases-pieces g l = length l.bytes - l.done
