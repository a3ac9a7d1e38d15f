-- How a lease stands.
use Rattle.std.specs.Prelude.{◌+◌, ◌||◌, ◌&&◌, not, nat_lt, is_none, map, filter, ℕ, Bool, List, [], ◌∷◌, length, if◌then◌else◌}
use Rattle.std.specs.List.{list_any}
use Rattle.digest_types.specs.Name.{HashAndSize}
use Rattle.directory_canon.specs.Tree.{digest_cmp}
use Rattle.directory_canon.specs.declared.node.Edge.{Edge}
use Rattle.store_core.specs.declared.state.Row.{Row}
use Rattle.store_core.specs.declared.event.Standing.{Standing}
use Rattle.store_core.specs.declared.event.Standing.TheVariants as standings
use Rattle.store_core.specs.Ascending.{ascending}
use Rattle.store_core.specs.State.{is_empty, is_of, is_sound}
use Rattle.store_core.specs.Reach.{blobs, reached, is_dir, is_deep}

-- how many pairs besides the root are at most reached
abbrev pub max_pairs : ℕ
max_pairs = 1_000_000

-- at how many steps from the root a Directory is too deep
abbrev pub max_steps : ℕ
max_steps = 128

-- the distinct digests of the pairs but the empty blob's, ascending
abbrev pub digests_of : List Edge → List HashAndSize
digests_of pairs = filter (λ d. not (is_empty d)) (ascending digest_cmp (map (λ pair. pair.digest) pairs))

-- the pairs that count: all of them, or without `files` those of kind Dir
abbrev pub counted : Bool → List Edge → List Edge
counted files pairs = filter (λ pair. files || is_dir pair) pairs

-- those of the digests that have no sound row
abbrev pub wanted : List Row → List HashAndSize → List HashAndSize
wanted rows ds = filter (λ d. not (is_sound rows d)) ds

-- whether the digest is that of a sound row without edges
abbrev pub is_plain : List Row → HashAndSize → Bool
is_plain rows d = list_any (λ row. is_of d row && (row.sound && is_none row.edges)) rows

-- the digests that are reached as Directories and aren't such, ascending
abbrev pub not_directories : List Row → List Edge → List HashAndSize
not_directories rows pairs = filter (is_plain rows) (map (λ pair. pair.digest) (filter is_dir pairs))

-- the standing of a lease that isn't too large: by those that aren't Directories, by those that are wanted, and by all
abbrev pub standing_by : List HashAndSize → List HashAndSize → List HashAndSize → Standing
standing_by (d ∷ more) wants all = standings.NotDirectory d
standing_by [] (d ∷ more) all = standings.Wants (d ∷ more)
standing_by [] [] all = standings.Complete all

-- the first standing that holds of a lease on this root
unfoldable pub standing : List Row → Edge → Bool → Standing
standing rows root files =
    let pairs = reached (blobs rows) (root ∷ []) in
    if nat_lt (max_pairs + 1) (length pairs) then standings.TooMany
    else if is_deep (blobs rows) (root ∷ []) max_steps then standings.TooDeep
    else standing_by (not_directories rows pairs) (wanted rows (digests_of (counted files pairs))) (digests_of pairs)
