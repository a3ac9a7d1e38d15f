-- Pairs as keys of a set.
use Rattle.std.specs.Prelude.{List, map, if◌then◌else◌}
use Rattle.directory_canon.specs.declared.node.Edge.{Edge}
use Rattle.directory_canon.specs.declared.node.Kind.TheVariants as kinds
use Rattle.store_core.specs.Reach.{is_dir}
use Rattle.lease_table.specs.declared.pairs.Key.{Key}

-- the key of a pair
abbrev pub key_of : Edge → Key
key_of pair = record { is_dir = is_dir pair; digest = pair.digest }

-- the pair of a key
abbrev pub pair_of : Key → Edge
pair_of key = record { kind = if key.is_dir then kinds.Dir else kinds.File; digest = key.digest }

-- the pairs of keys
abbrev pub pairs_of : List Key → List Edge
pairs_of keys = map pair_of keys
