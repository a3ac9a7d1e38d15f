-- What a blob links to.
use Rattle.std.specs.Prelude.{ℕ, List, filter_map, Option, Some, None, Result, Ok, Err}
use Rattle.directory_canon.specs.declared.error.DirError.{DirError}
use Rattle.directory_canon.specs.declared.node.Node.{Node}
use Rattle.directory_canon.specs.declared.node.Edge.{Edge}
use Rattle.directory_canon.specs.Node.{edge_of}
use Rattle.directory_canon.specs.Reading.{canon_of}

-- the links of a Directory: those of its files, then those of its directories
abbrev pub edges_of : List Node → List Edge
edges_of dir = filter_map edge_of dir

-- the links of what was read
abbrev pub edges_by : Result (List Node) DirError → Option (List Edge)
edges_by (Ok dir) = Some (edges_of dir)
edges_by (Err e) = None

-- The links of a blob, if it is the canonical form of a Directory. Any other blob has none.
unfoldable pub links : List ℕ → Option (List Edge)
links bytes = edges_by (canon_of bytes)
