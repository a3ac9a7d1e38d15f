use Rattle.std.proofs.Common.{◌≡◌, drop}
use Rattle.h2_session.specs.Machine.{part_of}
use Rattle.h2_session.specs.Heard.{with_settings}
use Rattle.h2_session.proofs.machine.Machine.set_all.Given as goal

abbrev pub invariant-values : goal.invariant-values
invariant-values l = record {
  part : with_settings (drop l.name-index l.values) (part_of l.self) ≡ with_settings l.values (part_of l.initial.self);
  role : l.self.role ≡ l.initial.self.role;
}
