-- No node offends so far, all so far are valid, and the set has their names.
use Rattle.std.proofs.Common.{◌≡◌, ℕ, List, [], All, take}
use Rattle.directory_canon.specs.Node.{IsNode}
use Rattle.directory_canon.specs.Making.{has_name}
use Rattle.directory_canon.proofs.MakeNames.{texts}
use Rattle.directory_canon.proofs.MakeOffence.{Left, seen}
use Rattle.directory_canon.proofs.first.refuse_first.Given as goal

abbrev pub invariant-loop-at : goal.invariant-loop-at
invariant-loop-at l = record {
  left : Left l.nodes l.at;
  valid : All IsNode (take l.at l.nodes);
  names : (name : List ℕ) → has_name (texts l.names.keys) name ≡ has_name (seen [] (take l.at l.nodes)) name;
}
