-- The rows and what guards them, as the parts of an index keep them together.
use Rattle.std.specs.Prelude.{◌≡◌, ◌||◌, not, map, filter, ℕ, Bool, List, Option}
use Rattle.digest_types.specs.Name.{HashAndSize}
use Rattle.store_core.specs.declared.state.Row.{Row}
use Rattle.store_core.specs.declared.state.Lease.{Lease}
use Rattle.store_core.specs.State.{State, Holds, digests, sizes, is_held}
use Rattle.store_core.specs.Reach.{blobs, is_reached}
use Rattle.lease_table.specs.declared.table_lease.TableLease.{TableLease}
use Rattle.lease_table.specs.Table.{roots, from_on}

-- What guards rows: the leases without their owners, and what each owner holds.
pub record Guards : Type 0 where
  pub leases : List TableLease
  pub holds : List Holds

-- The rows in the order of their use, the least recent first, and what guards them.
pub record Parts : Type 0 where
  pub rows : List Row
  pub guards : Guards

-- whether some lease reaches the digest, or some owner holds it
abbrev pub is_wanted : Parts → HashAndSize → Bool
is_wanted p d = is_reached (blobs p.rows) (roots p.guards.leases) d || is_held p.guards.holds d

-- how many bytes the rows have that are guarded so
abbrev pub guarded_bytes : Parts → ℕ
guarded_bytes p = sizes (filter (λ row. is_wanted p row.digest) p.rows)

-- the digests of the other rows, in the order of use
abbrev pub free : Parts → List HashAndSize
free p = filter (λ d. not (is_wanted p d)) (digests p.rows)

-- a pass that goes on from this digest leaves out no digest that isn't guarded
abbrev pub HasPassed : Parts → Option HashAndSize → Type 0
HasPassed p from = filter (λ d. not (is_wanted p d)) (from_on from (digests p.rows)) ≡ free p

-- a lease without its owner
abbrev pub table_lease : Lease → TableLease
table_lease lease = record { id = lease.id; root = lease.root }

-- leases without their owners
abbrev pub table_leases : List Lease → List TableLease
table_leases leases = map table_lease leases

-- what guards the rows of a state
abbrev pub guards_of : State → Guards
guards_of s = record { leases = table_leases s.leases; holds = s.holds }
