-- How the parts of an index go together.
use Rattle.std.specs.Prelude.{◌≡◌, ◌≤◌, ◌^◌, map, find, is_some, unwrap_or, if◌then◌else◌, ℕ, Bool, true, false, List, Option, Some, None}
use Rattle.std.specs.List.{list_any}
use Rattle.std.specs.Map.{lookup}
use Rattle.std.specs.Option.{option_map}
use Rattle.digest_types.specs.Name.{HashAndSize}
use Rattle.directory_canon.specs.declared.node.Edge.{Edge}
use Rattle.store_core.specs.declared.state.Row.{Row}
use Rattle.store_core.specs.State.{same, is_among, total}
use Rattle.store_core.specs.Reach.{Linked}
use Rattle.lease_table.specs.Table.{Table, is_blob, Distinct, DistinctDigests}
use Rattle.indexed_core.specs.Parts.{Guards}

-- for each digest that has a row whether it is sound
abbrev pub Soundness : Type 0
Soundness = HashAndSize → Option Bool

-- what the entries of a map tell
abbrev pub told : List (HashAndSize × Bool) → Soundness
told entries = λ d. lookup (same d) entries

-- whether the digest has a row that is sound
abbrev pub sound_in : Soundness → HashAndSize → Bool
sound_in flags d = unwrap_or (flags d) false

-- the same, with a sound row for this digest
abbrev pub with_flag : HashAndSize → Soundness → Soundness
with_flag d flags = λ q. if same d q then Some true else flags q

-- the same, with this test for the digest, if it has a row
abbrev pub set_flag : HashAndSize → Bool → Soundness → Soundness
set_flag d sound flags = λ q. if same d q then option_map (λ _. sound) (flags q) else flags q

-- the same for the digests that pass a test
abbrev pub kept_flags : (HashAndSize → Bool) → Soundness → Soundness
kept_flags keep flags = λ q. if keep q then flags q else None

-- the edges of a blob, if it is there
abbrev pub edges_if : Option Linked → Option (List Edge)
edges_if None = None
edges_if (Some blob) = blob.edges

-- the edges of the blob of a digest
abbrev pub edges_in : List Linked → HashAndSize → Option (List Edge)
edges_in there d = edges_if (find (is_blob d) there)

-- the row of a digest
abbrev pub row_in : List Linked → Soundness → HashAndSize → Row
row_in there flags d = record { digest = d; edges = edges_in there d; sound = sound_in flags d }

-- the rows in the order of use
abbrev pub rows_in : List HashAndSize → List Linked → Soundness → List Row
rows_in order there flags = map (row_in there flags) order

-- what guards the rows of a table
abbrev pub guards_in : Table → Guards
guards_in t = record { leases = t.leases; holds = t.holds }

-- The order, the blobs and the flags are those of the same digests, each once, and this is the sum of their sizes.
pub record IsJoined (order : List HashAndSize) (there : List Linked) (flags : Soundness) (used : ℕ) : Type 0 where
  pub distinct : DistinctDigests order
  pub distinct_blobs : Distinct there
  pub has_blobs : (d : HashAndSize) → list_any (is_blob d) there ≡ is_among order d
  pub has_flags : (d : HashAndSize) → is_some (flags d) ≡ is_among order d
  pub sum : used ≡ total order
  pub small : used ≤ 2 ^ 62
