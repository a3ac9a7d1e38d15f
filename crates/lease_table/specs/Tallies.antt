-- How many leases and owners guard each digest, and how many bytes are guarded by that.
use Rattle.std.specs.Prelude.{◌≡◌, ◌+◌, ℕ, Bool, List, [], ◌∷◌, nat_lt, unwrap_or, if◌then◌else◌}
use Rattle.std.specs.List.{list_any}
use Rattle.std.specs.Map.{lookup}
use Rattle.digest_types.specs.Name.{HashAndSize}
use Rattle.directory_canon.specs.declared.node.Edge.{Edge}
use Rattle.directory_canon.specs.declared.node.Kind.{Kind}
use Rattle.directory_canon.specs.declared.node.Kind.TheVariants as kinds
use Rattle.store_core.specs.State.{same}
use Rattle.store_core.specs.Reach.{Linked}

-- whether the pairs have the digest, in either kind
abbrev pub touches : List Edge → HashAndSize → Bool
touches pairs d = list_any (λ pair. same d pair.digest) pairs

-- the same as a number
abbrev pub touch : List Edge → HashAndSize → ℕ
touch pairs d = if touches pairs d then 1 else 0

-- one for this digest
abbrev pub one_at : HashAndSize → HashAndSize → ℕ
one_at d q = if same q d then 1 else 0

-- how many bytes the rows have whose digests count more than nothing
abbrev pub bytes_of : (HashAndSize → ℕ) → List Linked → ℕ
bytes_of f [] = 0
bytes_of f (row ∷ rows) = (if nat_lt 0 (f row.digest) then row.digest.size else 0) + bytes_of f rows

-- the number that a map of counts has for a digest
abbrev pub count_in : List (HashAndSize × ℕ) → HashAndSize → ℕ
count_in counts d = unwrap_or (lookup (same d) counts) 0

-- the counts and the bytes are those of these numbers
pub record IsTallied (rows : List Linked) (f : HashAndSize → ℕ) (counts : List (HashAndSize × ℕ)) (bytes : ℕ) : Type 0 where
  pub counted : (d : HashAndSize) → count_in counts d ≡ f d
  pub summed : bytes ≡ bytes_of f rows

-- the other kind
abbrev pub turned : Kind → Kind
turned kinds.File = kinds.Dir
turned kinds.Dir = kinds.File

-- the same digest in the other kind
abbrev pub other_kind : Edge → Edge
other_kind pair = record pair { kind = turned pair.kind }
