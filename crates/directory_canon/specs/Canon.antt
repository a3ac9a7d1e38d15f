-- The canonical form of a Directory (Remote Execution API v2, Directory): one spelling for each.
use Rattle.std.specs.Prelude.{◌≡◌, ◌≢◌, ◌≤◌, ◌==◌, map, filter, All, AllPairs, ℕ, List, [], ◌++◌, length, if◌then◌else◌}
use Rattle.std.specs.Ordering.{nat_cmp}
use Rattle.std.specs.List.{flat_map}
use Rattle.std.specs.List.Sorted.{IsStrictlySortedBy}
use Rattle.std.specs.Cmp.Lexicographic.{slice_cmp}
use Rattle.proto_wire.specs.Spelling.{int_field, bytes_field}
use Rattle.digest_types.specs.Digest as digests
use Rattle.directory_canon.specs.declared.node.Node.{Node}
use Rattle.directory_canon.specs.declared.node.Node.TheVariants as nodes
use Rattle.directory_canon.specs.Node.{number_of, name_of, IsNode}

-- the most bytes of a Directory's canonical form
abbrev pub max_len : ℕ
max_len = 4_194_304

-- The content of a node: field 1 is its name. A file has its digest in field 2 and, if it is executable, a 1 in field 4;
-- a directory has its digest in field 2; a symlink has its target in field 2.
abbrev pub content_of : Node → List ℕ
content_of (nodes.File name digest exec) =
    bytes_field 1 name ++ (bytes_field 2 (digests.spelled digest) ++ (if exec then int_field 4 1 else []))
content_of (nodes.Dir name digest) = bytes_field 1 name ++ bytes_field 2 (digests.spelled digest)
content_of (nodes.Link name target) = bytes_field 1 name ++ bytes_field 2 target

-- a node in its list
abbrev pub node_spelled : Node → List ℕ
node_spelled node = bytes_field (number_of node) (content_of node)

-- nodes one after the other
abbrev pub spelled : List Node → List ℕ
spelled dir = flat_map node_spelled dir

-- the nodes of one of the three lists
abbrev pub list_of : ℕ → List Node → List Node
list_of number dir = filter (λ node. number_of node == number) dir

-- the names of one of the three lists ascend, compared by their bytes
abbrev pub Ascends : ℕ → List Node → Type 0
Ascends number dir = IsStrictlySortedBy (slice_cmp nat_cmp) (map name_of (list_of number dir))

-- A Directory is its files, then its directories, then its symlinks. All are valid, each list ascends by name, and no name
-- stands twice, in whichever lists.
pub record IsDirectory (dir : List Node) : Type 0 where
  pub parts : dir ≡ list_of 1 dir ++ (list_of 2 dir ++ list_of 3 dir)
  pub valid : All IsNode dir
  pub files : Ascends 1 dir
  pub directories : Ascends 2 dir
  pub symlinks : Ascends 3 dir
  pub distinct : AllPairs (λ a b. name_of a ≢ name_of b) dir
  pub short : length (spelled dir) ≤ max_len

-- these bytes are the canonical form of this Directory
abbrev pub Canon : List Node → List ℕ → Type 0
Canon dir bytes = IsDirectory dir × (bytes ≡ spelled dir)
