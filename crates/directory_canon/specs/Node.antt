-- The nodes of a Directory (Remote Execution API v2, Directory), and which of them are valid.
use Rattle.std.specs.Prelude.{◌≡◌, ◌==◌, ◌||◌, ◌&&◌, not, nat_eq, nat_le, codes, ℕ, Bool, true, List, length, Option, Some, None}
use Rattle.std.specs.List.{list_any}
use Rattle.std.specs.Str.{is_utf8}
use Rattle.std.specs.Cmp.Lexicographic.{pointwise}
use Rattle.digest_types.specs.Digest.{IsDigest}
use Rattle.directory_canon.specs.declared.node.Node.{Node}
use Rattle.directory_canon.specs.declared.node.Node.TheVariants as nodes
use Rattle.directory_canon.specs.declared.node.Kind.TheVariants as kinds
use Rattle.directory_canon.specs.declared.node.Edge.{Edge}

-- the number of the list that the node stands in: files 1, directories 2, symlinks 3
abbrev pub number_of : Node → ℕ
number_of (nodes.File name digest exec) = 1
number_of (nodes.Dir name digest) = 2
number_of (nodes.Link name target) = 3

abbrev pub name_of : Node → List ℕ
name_of (nodes.File name digest exec) = name
name_of (nodes.Dir name digest) = name
name_of (nodes.Link name target) = name

-- `.` and `..`
abbrev pub is_dots : List ℕ → Bool
is_dots name = pointwise nat_eq name (codes ".") || pointwise nat_eq name (codes "..")

-- A name is text of 1 to 255 bytes, isn't `.` or `..`, and has no slash and no NUL.
unfoldable pub is_name : List ℕ → Bool
is_name name = is_utf8 name && nat_le 1 (length name) && nat_le (length name) 255 && not (is_dots name)
    && not (list_any (λ b. b == 47 || b == 0) name)

-- A target is text of 1 to 4,095 bytes, and has no NUL.
unfoldable pub is_target : List ℕ → Bool
is_target target = is_utf8 target && nat_le 1 (length target) && nat_le (length target) 4095 && not (list_any (λ b. b == 0) target)

-- a valid node
abbrev pub IsNode : Node → Type 0
IsNode (nodes.File name digest exec) = (is_name name ≡ true) × IsDigest digest
IsNode (nodes.Dir name digest) = (is_name name ≡ true) × IsDigest digest
IsNode (nodes.Link name target) = (is_name name ≡ true) × (is_target target ≡ true)

-- what a node links to: a file's or a directory's digest
abbrev pub edge_of : Node → Option Edge
edge_of (nodes.File name digest exec) = Some (record { kind = kinds.File; digest = digest })
edge_of (nodes.Dir name digest) = Some (record { kind = kinds.Dir; digest = digest })
edge_of (nodes.Link name target) = None
