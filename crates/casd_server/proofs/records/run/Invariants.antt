use Rattle.std.proofs.Common.{◌≤◌, ◌+◌, ◌-◌, ◌^◌, length}
use Rattle.casd_server.specs.Going.{Going}
use Rattle.casd_server.proofs.records.run.Given as goal

abbrev pub invariant-lines : goal.invariant-lines
invariant-lines g l = record {
  going : Going (g.S.Source.left l.initial.source) (g.S.Source.left l.source) (g.W.Sink.written l.initial.sink) (g.W.Sink.written l.sink) l.running.input l.running.seats l.running.number;
  bounded : l.running.input.read ≤ 2 ^ 50;
  later : g.S.Source.read_faults l.initial.source ≤ g.S.Source.read_faults l.source;
  written : g.W.Sink.write_faults l.initial.sink ≤ g.W.Sink.write_faults l.sink;
}

abbrev pub decreases-lines : goal.decreases-lines
decreases-lines g l = 2 ^ 50 - l.running.input.read + length l.running.input.bytes
