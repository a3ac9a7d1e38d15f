-- One step of the walk from the roots: what the rows that are marked lead to.
use Rattle.std.specs.Prelude.{◌||◌, ◌&&◌, not, Bool, List, [], map, flat_map, unwrap_or, zip, if◌then◌else◌}
use Rattle.std.specs.List.{list_any}
use Rattle.directory_canon.specs.declared.node.Edge.{Edge}
use Rattle.store_core.specs.declared.state.Row.{Row}
use Rattle.store_core.specs.State.{Holds, is_held}
use Rattle.store_core.specs.Reach.{as_dir, as_file, is_dir, is_pair, links_to}

-- whether a row that is marked links to the pair
abbrev pub has_link : List Row → List Bool → Edge → Bool
has_link rows marks pair = list_any (λ p. p.1 && links_to p.0.edges pair) (zip rows marks)

-- whether the pair is a root, or a row that is marked links to it
abbrev pub leads : List Row → List Edge → List Bool → Edge → Bool
leads rows starts marks pair = list_any (is_pair pair) starts || has_link rows marks pair

-- for each row whether it is a root as a Directory
abbrev pub first_marks : List Row → List Edge → List Bool
first_marks rows starts = map (λ row. list_any (is_pair (as_dir row.digest)) starts) rows

-- for each row whether the marks lead to it as a Directory
abbrev pub next_marks : List Row → List Edge → List Bool → List Bool
next_marks rows starts marks = map (λ row. leads rows starts marks (as_dir row.digest)) rows

-- for each row whether the marks lead to its digest, as a file or as a Directory, or some owner holds it
abbrev pub found_marks : List Row → List Edge → List Bool → List Holds → List Bool
found_marks rows starts marks holds = map (λ row. (leads rows starts marks (as_file row.digest) || leads rows starts marks (as_dir row.digest)) || is_held holds row.digest) rows

-- the edges of the rows that are marked
abbrev pub marked_edges : List Row → List Bool → List Edge
marked_edges rows marks = flat_map (λ p. if p.1 then unwrap_or p.0.edges [] else []) (zip rows marks)

-- whether some pair of kind Dir is no root, and no row that is marked links to it
abbrev pub some_further : List Row → List Edge → List Bool → List Edge → Bool
some_further rows starts marks pairs = list_any (λ pair. is_dir pair && not (leads rows starts marks pair)) pairs
