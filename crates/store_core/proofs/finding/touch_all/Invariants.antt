use Rattle.std.proofs.Common.{◌≡◌, drop}
use Rattle.store_core.specs.State.{Distinct}
use Rattle.store_core.specs.Step.{touched_all}
use Rattle.store_core.proofs.finding.touch_all.Given as goal

-- those of the rest touched are all touched
abbrev pub invariant-loop-digest : goal.invariant-loop-digest
invariant-loop-digest l = record {
  distinct : Distinct l.rows.items;
  rest : touched_all (drop l.digest-index l.digests) l.rows.items ≡ touched_all l.digests l.fn.rows.items;
}
