-- What a root leads to, and what is guarded by that.
use Rattle.std.specs.Prelude.{◌≡◌, ◌||◌, ◌&&◌, not, nat_eq, ℕ, zero, suc, Bool, false, List, [], ◌∷◌, ◌++◌, length, map, filter, flat_map, Contains, unwrap_or, Option, Some, None}
use Rattle.std.specs.List.{list_any}
use Rattle.std.specs.Ordering.{nat_cmp, ordering_then}
use Rattle.std.specs.declared.cmp.Ordering.{Ordering}
use Rattle.digest_types.specs.Name.{HashAndSize}
use Rattle.directory_canon.specs.declared.node.Kind.{Kind}
use Rattle.directory_canon.specs.declared.node.Kind.TheVariants as kinds
use Rattle.directory_canon.specs.declared.node.Edge.{Edge}
use Rattle.directory_canon.specs.Tree.{digest_cmp}
use Rattle.store_core.specs.declared.state.Row.{Row}
use Rattle.store_core.specs.Ascending.{ascending}
use Rattle.store_core.specs.State.{same}

-- A blob that is there, and what it links to, where it is a Directory.
pub record Linked : Type 0 where
  pub digest : HashAndSize
  pub edges : Option (List Edge)

-- the blobs of the rows
abbrev pub blobs : List Row → List Linked
blobs rows = map (λ row. record { digest = row.digest; edges = row.edges }) rows

-- a digest, taken as a file's
abbrev pub as_file : HashAndSize → Edge
as_file d = record { kind = kinds.File; digest = d }

-- a digest, taken as a Directory's
abbrev pub as_dir : HashAndSize → Edge
as_dir d = record { kind = kinds.Dir; digest = d }

-- files are numbered before Directories
abbrev pub kind_number : Kind → ℕ
kind_number kinds.File = 0
kind_number kinds.Dir = 1

abbrev pub is_dir : Edge → Bool
is_dir pair = nat_eq (kind_number pair.kind) 1

-- whether two pairs have the same kind and digest
abbrev pub is_pair : Edge → Edge → Bool
is_pair a b = nat_eq (kind_number a.kind) (kind_number b.kind) && same a.digest b.digest

-- whether a blob links to the pair
abbrev pub links_to : Option (List Edge) → Edge → Bool
links_to None pair = false
links_to (Some edges) pair = list_any (is_pair pair) edges

-- ---- paths

-- a step of a path: from a Directory that is there to one of its edges
pub record IsStep (there : List Linked) (from to : Edge) : Type 0 where
  pub blob : Linked
  pub edges : List Edge
  pub has_blob : Contains there blob
  pub is_from : from ≡ as_dir blob.digest
  pub has_edges : blob.edges ≡ Some edges
  pub has_edge : Contains edges to

-- A path, its last pair first: it begins at a root, and each further pair is an edge of the one before it.
abbrev pub IsPath : List Linked → List Edge → List Edge → Type 0
IsPath there starts [] = ⊥
IsPath there starts (pair ∷ []) = Contains starts pair
IsPath there starts (pair ∷ from ∷ path) = IsStep there from pair × IsPath there starts (from ∷ path)

-- ---- the same as a test

-- Whether a path of at most so many steps leads from a root to the pair: the pair is a root, or an edge of a blob to
-- which, as a Directory, a path of one step less leads.
unfoldable pub within : List Linked → List Edge → ℕ → Edge → Bool
within there starts zero pair = list_any (is_pair pair) starts
within there starts (suc steps) pair =
    list_any (is_pair pair) starts || list_any (λ blob. within there starts steps (as_dir blob.digest) && links_to blob.edges pair) there

-- Whether a path leads from a root to the pair. One that visits no blob twice has at most as many steps as there are
-- blobs.
unfoldable pub reaches : List Linked → List Edge → Edge → Bool
reaches there starts pair = within there starts (length there) pair

-- whether the shortest path to the pair has fewer than so many steps
abbrev pub is_nearer : List Linked → List Edge → ℕ → Edge → Bool
is_nearer there starts zero pair = false
is_nearer there starts (suc steps) pair = within there starts steps pair

-- whether the digest is reached, as a file or as a Directory
abbrev pub is_reached : List Linked → List Edge → HashAndSize → Bool
is_reached there starts d = reaches there starts (as_file d) || reaches there starts (as_dir d)

-- ---- all of it, in order

-- pairs ascend by digest, with a file before a Directory of the same digest
abbrev pub pair_cmp : Edge → Edge → Ordering
pair_cmp a b = ordering_then (digest_cmp a.digest b.digest) (nat_cmp (kind_number a.kind) (kind_number b.kind))

-- the edges of a blob
abbrev pub edges_of : Linked → List Edge
edges_of blob = unwrap_or blob.edges []

-- The pairs that are reached, each once, ascending: the roots, and the edges of the blobs that are reached as
-- Directories.
unfoldable pub reached : List Linked → List Edge → List Edge
reached there starts = ascending pair_cmp (starts ++ flat_map edges_of (filter (λ blob. reaches there starts (as_dir blob.digest)) there))

-- whether some pair of kind Dir that is reached has no path of fewer than so many steps
unfoldable pub is_deep : List Linked → List Edge → ℕ → Bool
is_deep there starts steps = list_any (λ pair. is_dir pair && not (is_nearer there starts steps pair)) (reached there starts)
