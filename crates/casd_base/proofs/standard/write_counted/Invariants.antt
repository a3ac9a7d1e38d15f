-- While calls are interrupted no fault is counted, and the known bytes stay.
use Rattle.std.proofs.Common.{◌≡◌}
use Rattle.std.specs.Io.KnownBytes.{Keeps}
use Rattle.casd_base.proofs.standard.write_counted.Given as goal

abbrev pub invariant-tries : goal.invariant-tries
invariant-tries g l = record {
  faults : l.faults ≡ l.fn.faults;
  kept : Keeps (g.W.Write.contents l.fn.inner) (g.W.Write.contents l.inner);
}
