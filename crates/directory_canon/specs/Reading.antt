-- Reading a Directory from its canonical bytes, with the first fault that is met.
use Rattle.std.specs.Prelude.{◌==◌, ◌&&◌, not, nat_eq, nat_lt, unwrap_or, map, find, drop, ℕ, Bool, true, false, List, [], ◌∷◌, length, Option, Some, None, Result, Ok, Err, if◌then◌else◌}
use Rattle.std.specs.Ordering.{nat_cmp}
use Rattle.std.specs.declared.cmp.Ordering.{Ordering}
use Rattle.std.specs.declared.cmp.Ordering.TheVariants.{Less, Equal, Greater}
use Rattle.std.specs.List.{list_any, starts_with}
use Rattle.std.specs.Cmp.Lexicographic.{slice_cmp, pointwise}
use Rattle.proto_wire.specs.declared.fault.WireError.{WireError}
use Rattle.proto_wire.specs.declared.fault.WireError.TheVariants as wire
use Rattle.proto_wire.specs.Field.{WireValue, int, fixed64, bytes, fixed32, WireField, last_of, ints, contents_of, joined_of}
use Rattle.proto_wire.specs.Reading.{fields_of}
use Rattle.proto_wire.specs.Steps.{◌>>=◌, FailsBut, GivesBut}
use Rattle.digest_types.specs.Name.{HashAndSize}
use Rattle.digest_types.specs.Reading.{digest_in}
use Rattle.digest_types.specs.declared.error.DigestError.{DigestError}
use Rattle.directory_canon.specs.declared.error.DirError.{DirError}
use Rattle.directory_canon.specs.declared.error.DirError.TheVariants as errors
use Rattle.directory_canon.specs.declared.node.Node.{Node}
use Rattle.directory_canon.specs.declared.node.Node.TheVariants as nodes
use Rattle.directory_canon.specs.Node.{number_of, name_of, is_name, is_target}
use Rattle.directory_canon.specs.Canon.{max_len, node_spelled}

-- want of memory
abbrev pub wants_memory : DirError → Bool
wants_memory errors.OutOfMemory = true
wants_memory _ = false

-- what a refusal says of what reading gives: want of memory says nothing
abbrev pub Fails : {Y : Type 0} → DirError → Result Y DirError → Type 0
Fails e read = FailsBut wants_memory e read

-- what a function returned, seen by view, is what reading gives, unless memory ran out
abbrev pub Gives : {X Y : Type 0} → (X → Y) → Result X DirError → Result Y DirError → Type 0
Gives view result read = GivesBut wants_memory view result read

-- the refusal of malformed bytes
abbrev pub wire_fault : WireError → DirError
wire_fault wire.OutOfMemory = errors.OutOfMemory
wire_fault (wire.Truncated at) = errors.Wire (wire.Truncated at)
wire_fault (wire.BadTag at) = errors.Wire (wire.BadTag at)
wire_fault (wire.BadVarint at) = errors.Wire (wire.BadVarint at)
wire_fault (wire.Group at) = errors.Wire (wire.Group at)

-- the fields of a content
abbrev pub split : Result (List WireField) WireError → Result (List WireField) DirError
split (Ok fs) = Ok fs
split (Err e) = Err (wire_fault e)

-- a node with its place
pub record Entry : Type 0 where
  pub at : ℕ
  pub node : Node

-- The node whose field begins at `at`. Its parts are checked in this order: properties, which no canonical node has;
-- the name; the target; the digest.

-- there is no content with this number
abbrev pub without : ℕ → ℕ → List WireField → Result (List WireField) DirError
without number at fs = if length (contents_of number fs) == 0 then Ok fs else Err (errors.HasProperties at)

-- the last content with a number; empty if there is none
abbrev pub content_at : ℕ → List WireField → List ℕ
content_at number fs = unwrap_or (last_of (contents_of number fs)) []

abbrev pub name_in : ℕ → List WireField → Result (List ℕ) DirError
name_in at fs = if is_name (content_at 1 fs) then Ok (content_at 1 fs) else Err (errors.BadName at)

abbrev pub target_in : ℕ → List WireField → Result (List ℕ) DirError
target_in at fs = if is_target (content_at 2 fs) then Ok (content_at 2 fs) else Err (errors.BadTarget at)

-- the digest that was read, or its refusal
abbrev pub digest_or : ℕ → Result HashAndSize DigestError → Result HashAndSize DirError
digest_or at (Ok d) = Ok d
digest_or at (Err e) = Err (errors.BadDigest at)

-- the digest of a content, if there is one
abbrev pub digest_by : ℕ → Option (List ℕ) → Result HashAndSize DirError
digest_by at None = Err (errors.BadDigest at)
digest_by at (Some b) = digest_or at (digest_in b)

abbrev pub digest_of : ℕ → List WireField → Result HashAndSize DirError
digest_of at fs = digest_by at (joined_of (contents_of 2 fs))

-- FileNode: 1 name, 2 digest, 4 is_executable, 6 node_properties
unfoldable pub file_in : ℕ → List ℕ → Result Node DirError
file_in at content = do
  split_fields ← split (fields_of content)
  fs ← without 6 at split_fields
  name ← name_in at fs
  digest ← digest_of at fs
  Ok (nodes.File name digest (not (unwrap_or (last_of (ints 4 fs)) 0 == 0)))

-- DirectoryNode: 1 name, 2 digest
unfoldable pub directory_in : ℕ → List ℕ → Result Node DirError
directory_in at content = do
  fs ← split (fields_of content)
  name ← name_in at fs
  digest ← digest_of at fs
  Ok (nodes.Dir name digest)

-- SymlinkNode: 1 name, 2 target, 4 node_properties
unfoldable pub symlink_in : ℕ → List ℕ → Result Node DirError
symlink_in at content = do
  split_fields ← split (fields_of content)
  fs ← without 4 at split_fields
  name ← name_in at fs
  target ← target_in at fs
  Ok (nodes.Link name target)

-- Directory: 1 files, 2 directories, 3 symlinks; 5, node_properties, is refused by its number alone, and any other field is
-- not canonical.
abbrev pub node_by : ℕ → ℕ → WireValue → Result Node DirError
node_by at number (int n) = Err (errors.NotCanonical at)
node_by at number (fixed64 n) = Err (errors.NotCanonical at)
node_by at number (fixed32 n) = Err (errors.NotCanonical at)
node_by at number (bytes content) =
    if number == 1 then file_in at content
    else if number == 2 then directory_in at content
    else if number == 3 then symlink_in at content
    else Err (errors.NotCanonical at)

unfoldable pub node_in : WireField → Result Node DirError
node_in f = if f.number == 5 then Err (errors.HasProperties f.at) else node_by f.at f.number f.value

-- the bytes of the whole, at the node's place, begin with the canonical spelling of the node
unfoldable pub spelled_in : List ℕ → WireField → Result Node DirError
spelled_in whole f = do
  node ← node_in f
  if starts_with nat_eq (drop f.at whole) (node_spelled node) then Ok node
      else Err (errors.NotCanonical f.at)

-- a node behind one of its list, by how their names compare
abbrev pub by_order : ℕ → Ordering → Node → Result Node DirError
by_order at Less node = Ok node
by_order at Equal node = Err (errors.Twice at)
by_order at Greater node = Err (errors.Unsorted at)

-- a node behind the one before it, if there is one
abbrev pub after : Option Node → ℕ → Node → Result Node DirError
after None at node = Ok node
after (Some before) at node =
    if nat_lt (number_of node) (number_of before) then Err (errors.NotCanonical at)
    else if number_of node == number_of before then by_order at (slice_cmp nat_cmp (name_of before) (name_of node)) node
    else Ok node

-- the nodes of the fields, behind the node before them, if there is one
unfoldable pub entries_in : List ℕ → Option Node → List WireField → Result (List Entry) DirError
entries_in whole before [] = Ok []
entries_in whole before (f ∷ fs) = do
  spelled_node ← spelled_in whole f
  node ← after before f.at spelled_node
  others ← entries_in whole (Some node) fs
  Ok (record { at = f.at; node = node } ∷ others)

-- whether the name of this node stands in an earlier list
abbrev pub is_twice : List Entry → Entry → Bool
is_twice all e =
    list_any (λ o. nat_lt (number_of o.node) (number_of e.node) && pointwise nat_eq (name_of o.node) (name_of e.node)) all

-- the nodes, unless the name of one stands in an earlier list
abbrev pub unless_twice : Option Entry → List Entry → Result (List Node) DirError
unless_twice None all = Ok (map (λ e. e.node) all)
unless_twice (Some e) all = Err (errors.Twice e.at)

-- the Directory whose canonical form the bytes are
unfoldable pub canon_of : List ℕ → Result (List Node) DirError
canon_of whole =
    if nat_lt max_len (length whole) then Err errors.TooLong
    else (do
      fs ← split (fields_of whole)
      all ← entries_in whole None fs
      unless_twice (find (is_twice all) all) all)
