-- While calls are interrupted no fault is counted, and the known bytes stay.
use Rattle.std.proofs.Common.{◌≡◌}
use Rattle.std.specs.Io.KnownBytes.{Keeps}
use Rattle.casd_base.proofs.standard.read_counted.Given as goal

abbrev pub invariant-tries : goal.invariant-tries
invariant-tries g l = record {
  faults : l.faults ≡ l.fn.faults;
  kept : Keeps (g.R.Read.remaining l.fn.inner) (g.R.Read.remaining l.inner);
}
