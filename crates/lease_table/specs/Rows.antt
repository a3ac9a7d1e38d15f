-- How the rows are kept: their digests in an order, and a map from each to its edges.
use Rattle.std.specs.Prelude.{◌≡◌, is_some, map, unwrap_or, List, Option, None}
use Rattle.std.specs.Map.{lookup}
use Rattle.digest_types.specs.Name.{HashAndSize}
use Rattle.directory_canon.specs.declared.node.Edge.{Edge}
use Rattle.store_core.specs.Reach.{Linked}
use Rattle.store_core.specs.State.{same, is_among}
use Rattle.lease_table.specs.Table.{DistinctDigests}

-- the edges that the map has for a digest
abbrev pub edges_in : List (HashAndSize × Option (List Edge)) → HashAndSize → Option (List Edge)
edges_in entries d = unwrap_or (lookup (same d) entries) None

-- the row of a digest
abbrev pub row_in : List (HashAndSize × Option (List Edge)) → HashAndSize → Linked
row_in entries d = record { digest = d; edges = edges_in entries d }

-- the rows of digests
abbrev pub rows_in : List HashAndSize → List (HashAndSize × Option (List Edge)) → List Linked
rows_in order entries = map (row_in entries) order

-- the map has the digests of the order, and each of them stands there once
pub record IsIndexed (order : List HashAndSize) (entries : List (HashAndSize × Option (List Edge))) : Type 0 where
  pub distinct : DistinctDigests order
  pub has : (d : HashAndSize) → is_some (lookup (same d) entries) ≡ is_among order d
