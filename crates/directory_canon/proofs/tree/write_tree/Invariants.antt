-- The root is written, and the children before this one.
use Rattle.std.proofs.Common.{◌≡◌, take, ◌++◌}
use Rattle.std.specs.List.{flat_map}
use Rattle.proto_wire.specs.Spelling.{bytes_field}
use Rattle.directory_canon.specs.Canon.{spelled}
use Rattle.directory_canon.proofs.tree.write_tree.Given as goal

abbrev pub invariant-loop-dir : goal.invariant-loop-dir
invariant-loop-dir l =
    l.out ≡ bytes_field 1 (spelled l.tree.root) ++ flat_map (λ dir. bytes_field 2 (spelled dir)) (take l.dir-index l.tree.children)
