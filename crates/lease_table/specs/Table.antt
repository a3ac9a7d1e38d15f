-- What a lease table was told, and what follows from that.
use Rattle.std.specs.Prelude.{◌≡◌, ◌≢◌, ◌&&◌, ◌||◌, not, nat_eq, is_some, map, filter, slice_get, ℕ, Bool, List, [], ◌∷◌, sum_by, Option, Some, None, if◌then◌else◌}
use Rattle.std.specs.List.{AllByRecursion, list_any}
use Rattle.digest_types.specs.Name.{HashAndSize}
use Rattle.directory_canon.specs.declared.node.Edge.{Edge}
use Rattle.store_core.specs.State.{Holds, same, is_among, is_held}
pub use Rattle.store_core.specs.State.{DistinctDigests}
use Rattle.store_core.specs.Reach.{Linked, is_reached}
use Rattle.lease_table.specs.declared.table_lease.TableLease.{TableLease}

-- The blobs of the rows, in the order in which they were put; the leases, in the order in which they were taken; and what
-- each owner holds.
pub record Table : Type 0 where
  pub blobs : List Linked
  pub leases : List TableLease
  pub holds : List Holds

-- whether a blob has this digest
abbrev pub is_blob : HashAndSize → Linked → Bool
is_blob d blob = same blob.digest d

-- whether a digest has a row
abbrev pub has_row : Table → HashAndSize → Bool
has_row t d = list_any (is_blob d) t.blobs

-- whether a lease has this number
abbrev pub has_id : ℕ → TableLease → Bool
has_id id lease = nat_eq lease.id id

-- whether the table has a lease with this number
abbrev pub has_lease : Table → ℕ → Bool
has_lease t id = list_any (has_id id) t.leases

-- the roots of the leases
abbrev pub roots : List TableLease → List Edge
roots leases = map (λ lease. lease.root) leases

-- the root of the lease with this number, as a list
abbrev pub root_of : Table → ℕ → List Edge
root_of t id = roots (filter (has_id id) t.leases)

-- whether some lease reaches the digest, or some owner holds it
abbrev pub is_wanted : Table → HashAndSize → Bool
is_wanted t d = is_reached t.blobs (roots t.leases) d || is_held t.holds d

-- whether the digest has a row and some lease reaches it, or some owner holds it
abbrev pub is_guarded : Table → HashAndSize → Bool
is_guarded t d = has_row t d && is_wanted t d

-- how many bytes the blobs have
abbrev pub sizes : List Linked → ℕ
sizes blobs = sum_by (λ blob. blob.digest.size) blobs

-- how many bytes the guarded rows have
abbrev pub guarded : Table → ℕ
guarded t = sizes (filter (λ blob. is_wanted t blob.digest) t.blobs)

-- the blobs without those of these digests
abbrev pub without : List HashAndSize → List Linked → List Linked
without ds blobs = filter (λ blob. not (is_among ds blob.digest)) blobs

-- the blobs without that of this digest
abbrev pub others : HashAndSize → List Linked → List Linked
others d blobs = filter (λ blob. not (is_blob d blob)) blobs

-- whether the digest has a row with edges
abbrev pub is_dir_row : Table → HashAndSize → Bool
is_dir_row t d = list_any (λ blob. is_blob d blob && is_some blob.edges) t.blobs

-- no digest has two rows
abbrev pub Distinct : List Linked → Type 0
Distinct [] = Unit {0}
Distinct (blob ∷ blobs) = AllByRecursion (λ other. other.digest ≢ blob.digest) blobs × Distinct blobs

-- ---- the order of use

-- the digests without this one
abbrev pub other_digests : HashAndSize → List HashAndSize → List HashAndSize
other_digests d ds = filter (λ other. not (same other d)) ds

-- the digests that aren't guarded, in the order of use
abbrev pub unguarded : Table → List HashAndSize → List HashAndSize
unguarded t order = filter (λ d. not (is_guarded t d)) order

-- the digests from this one on: none where it isn't among them
abbrev pub from_digest : HashAndSize → List HashAndSize → List HashAndSize
from_digest d [] = []
from_digest d (other ∷ ds) = if same d other then other ∷ ds else from_digest d ds

-- the same where one is named, and all of them where none is
abbrev pub from_on : Option HashAndSize → List HashAndSize → List HashAndSize
from_on None ds = ds
from_on (Some d) ds = from_digest d ds

-- the digest right behind this one
abbrev pub behind : HashAndSize → List HashAndSize → Option HashAndSize
behind d ds = slice_get (from_digest d ds) 1

-- a pass that goes on from here leaves out no digest that isn't guarded
abbrev pub IsPassed : Table → List HashAndSize → Option HashAndSize → Type 0
IsPassed t order from = unguarded t (from_on from order) ≡ unguarded t order
