-- The leases with what they reach, of which so many pairs are counted.
use Rattle.std.specs.Prelude.{◌≡◌, ◌+◌, ◌-◌, ◌≤◌, ◌^◌, ◌++◌, ℕ, true, List, [], ◌∷◌, take, length, map, sum_by, if◌then◌else◌}
use Rattle.std.specs.List.{AllByRecursion, list_any}
use Rattle.digest_types.specs.Name.{HashAndSize}
use Rattle.directory_canon.specs.declared.node.Edge.{Edge}
use Rattle.store_core.specs.State.{Holds, is_held}
use Rattle.store_core.specs.Reach.{Linked}
use Rattle.lease_table.specs.declared.table_lease.TableLease.{TableLease}
use Rattle.lease_table.specs.declared.lease_reach.LeaseReach.{LeaseReach}
use Rattle.lease_table.specs.Table.{is_blob, sizes, has_id, Distinct}
use Rattle.lease_table.specs.Pairs.{IsReach}
use Rattle.lease_table.specs.Tallies.{touch, IsTallied}
use Rattle.lease_table.specs.Holds.{holders}

-- the leases themselves
abbrev pub leases_of : List LeaseReach → List TableLease
leases_of kept = map (λ reach. reach.lease) kept

-- the pairs of the leases with this number, one lease after the other
abbrev pub pairs_of : ℕ → List LeaseReach → List Edge
pairs_of id [] = []
pairs_of id (reach ∷ kept) = (if has_id id reach.lease then reach.pairs else []) ++ pairs_of id kept

-- a lease, and the pairs of it that are counted
pub record Share : Type 0 where
  pub lease : TableLease
  pub pairs : List Edge

abbrev pub share : LeaseReach → Share
share reach = record { lease = reach.lease; pairs = take reach.len reach.pairs }

abbrev pub shares : List LeaseReach → List Share
shares kept = map share kept

-- the same with all pairs
abbrev pub whole : LeaseReach → Share
whole reach = record { lease = reach.lease; pairs = reach.pairs }

abbrev pub wholes : List LeaseReach → List Share
wholes kept = map whole kept

-- for how many leases the pairs have the digest
abbrev pub total_in : List Share → HashAndSize → ℕ
total_in shared d = sum_by (λ m. touch m.pairs d) shared

-- how many leases and owners guard the digest
abbrev pub guards_in : List Share → List Holds → HashAndSize → ℕ
guards_in shared holds d = total_in shared d + holders holds d

-- how many pairs aren't counted
abbrev pub uncounted : List LeaseReach → ℕ
uncounted kept = sum_by (λ reach. length reach.pairs - reach.len) kept

-- the pairs of each lease are just those that it reaches among these rows
abbrev pub AreReached : List Linked → List Share → Type 0
AreReached rows shared = AllByRecursion (λ m. IsReach rows m.lease.root m.pairs) shared

-- all pairs of each lease are counted
abbrev pub AreFull : List LeaseReach → Type 0
AreFull kept = AllByRecursion (λ reach. reach.len ≡ length reach.pairs) kept

-- what is kept of the leases, of the holds, and of what they guard
pub record IsKept (rows : List Linked) (kept : List LeaseReach) (holds : List Holds) (counts : List (HashAndSize × ℕ)) (bytes : ℕ) : Type 0 where
  pub distinct : Distinct rows
  pub small : sizes rows ≤ 2 ^ 62
  pub full : AreFull kept
  pub reached : AreReached rows (shares kept)
  -- what is held has a row
  pub held : (d : HashAndSize) → is_held holds d ≡ true → list_any (is_blob d) rows ≡ true
  pub tallied : IsTallied rows (guards_in (shares kept) holds) counts bytes
