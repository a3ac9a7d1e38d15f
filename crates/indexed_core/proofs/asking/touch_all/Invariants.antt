use Rattle.std.proofs.Common.{◌≡◌, drop}
use Rattle.store_core.specs.Step.{touched_all}
use Rattle.indexed_core.proofs.asking.touch_all.Given as goal

-- those of the rest touched are all touched
abbrev pub invariant-loop-digest : goal.invariant-loop-digest
invariant-loop-digest l = record {
  guards : l.index.guards ≡ l.fn.index.guards;
  rest : touched_all (drop l.digest-index l.digests) l.index.rows ≡ touched_all l.digests l.fn.index.rows;
}
