use Rattle.std.proofs.Common.{◌≤◌, ◌-◌, ◌^◌}
use Rattle.casd_server.specs.Input.{ReadsMore}
use Rattle.casd_server.proofs.InputLemmas.{Searched}
use Rattle.casd_server.proofs.input.Input.fill.Given as goal

abbrev pub invariant-search : goal.invariant-search
invariant-search g l = record {
  reads : ReadsMore (g.S.Source.left l.initial.source) (g.S.Source.left l.source) l.initial.self l.self;
  searched : Searched l.self.bytes l.searched;
  later : g.S.Source.read_faults l.initial.source ≤ g.S.Source.read_faults l.source;
}

abbrev pub decreases-search : goal.decreases-search
decreases-search g l = 2 ^ 50 - l.self.read
