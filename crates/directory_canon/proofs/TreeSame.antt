-- Equal canonical bytes are those of equal Directories.
use Rattle.std.proofs.Common.{◌≡◌, refl, List}
use Rattle.directory_canon.specs.declared.node.Node.{Node}
use Rattle.directory_canon.specs.Canon.{spelled, IsDirectory}
use Rattle.directory_canon.proofs.CanonRead.{canon_unique}

pub same_spelled : (a b : List Node) → IsDirectory a → IsDirectory b → spelled a ≡ spelled b → a ≡ b
same_spelled a b is_a is_b e = (canon_unique a b (spelled a) (spelled b) (is_a, refl) (is_b, refl)).1 e
