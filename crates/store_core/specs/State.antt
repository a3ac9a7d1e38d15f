-- What the store keeps, as plain data.
use Rattle.std.specs.Prelude.{◌≡◌, ◌≢◌, ◌<◌, ◌≤◌, ◌&&◌, ◌++◌, not, nat_eq, max, ◌^◌, ℕ, Bool, true, false, List, [], ◌∷◌, filter, find, map, sum_by, Contains, Option, if◌then◌else◌}
use Rattle.std.specs.List.{AllByRecursion, list_any}
use Rattle.std.specs.Cmp.Lexicographic.{pointwise}
use Rattle.digest_types.specs.Name.{HashAndSize}
use Rattle.digest_types.specs.Digest.{digest_of}
use Rattle.directory_canon.specs.declared.node.Edge.{Edge}
use Rattle.store_core.specs.declared.state.Row.{Row}
use Rattle.store_core.specs.declared.state.Lease.{Lease}
use Rattle.store_core.specs.declared.state.Guard.{Guard}
use Rattle.store_core.specs.declared.state.Guard.TheVariants as guards

-- What an owner holds: the digests of the blobs that it put or read, in the order in which it first did so.
pub record Holds : Type 0 where
  pub owner : ℕ
  pub digests : List HashAndSize

-- The rows, in the order of their use with the least recent first; the leases, in the order in which they were taken;
-- what each owner holds; the marks, and what guards besides the leases; the numbers of the next owner and of the next
-- lease; and the owners that are open.
pub record State : Type 0 where
  pub rows : List Row
  pub leases : List Lease
  pub holds : List Holds
  pub low : ℕ
  pub high : ℕ
  pub guard : Guard
  pub next_owner : ℕ
  pub next_lease : ℕ
  pub owners : List ℕ

-- whether two digests have the same hash and size
abbrev pub same : HashAndSize → HashAndSize → Bool
same a b = pointwise nat_eq a.hash b.hash && nat_eq a.size b.size

-- whether this is the empty blob, which is there without a row
abbrev pub is_empty : HashAndSize → Bool
is_empty d = same d (digest_of [])

-- whether a digest is among these
abbrev pub is_among : List HashAndSize → HashAndSize → Bool
is_among ds d = list_any (same d) ds

-- whether this is the row of a digest
abbrev pub is_of : HashAndSize → Row → Bool
is_of d row = same row.digest d

-- the row of a digest
abbrev pub row_of : HashAndSize → List Row → Option Row
row_of d rows = find (is_of d) rows

-- the rows of other digests
abbrev pub others : HashAndSize → List Row → List Row
others d rows = filter (λ row. not (is_of d row)) rows

-- whether a digest has a sound row
abbrev pub is_sound : List Row → HashAndSize → Bool
is_sound rows d = list_any (λ row. is_of d row && row.sound) rows

-- whether a digest has a row
abbrev pub has_row : List Row → HashAndSize → Bool
has_row rows d = list_any (is_of d) rows

-- the digests of the rows
abbrev pub digests : List Row → List HashAndSize
digests rows = map (λ row. row.digest) rows

-- how many bytes blobs of these digests have
abbrev pub total : List HashAndSize → ℕ
total ds = sum_by (λ d. d.size) ds

-- how many bytes the rows have
abbrev pub sizes : List Row → ℕ
sizes rows = sum_by (λ row. row.digest.size) rows

-- how many bytes the store holds
abbrev pub used : State → ℕ
used s = sizes s.rows

-- the roots of the leases
abbrev pub roots : List Lease → List Edge
roots leases = map (λ lease. lease.root) leases

-- whether a lease has this number
abbrev pub has_id : ℕ → Lease → Bool
has_id id lease = nat_eq lease.id id

-- whether a lease is an owner's
abbrev pub is_of_owner : ℕ → Lease → Bool
is_of_owner owner lease = nat_eq lease.owner owner

-- ---- holds

-- whether what is put and read is held
abbrev pub is_session : Guard → Bool
is_session guards.Leases = false
is_session guards.Session = true

-- whether these are the holds of an owner
abbrev pub is_holder : ℕ → Holds → Bool
is_holder owner held = nat_eq held.owner owner

-- whether an owner holds a digest
abbrev pub has_hold : List Holds → ℕ → HashAndSize → Bool
has_hold holds owner d = list_any (λ held. is_holder owner held && is_among held.digests d) holds

-- whether some owner holds a digest
abbrev pub is_held : List Holds → HashAndSize → Bool
is_held holds d = list_any (λ held. is_among held.digests d) holds

-- digests with one more, unless it is there
abbrev pub with_digest : HashAndSize → List HashAndSize → List HashAndSize
with_digest d ds = if is_among ds d then ds else ds ++ d ∷ []

-- The holds with one more of an owner, unless it is there: behind those that the owner has, and where it has none, at
-- the end.
abbrev pub with_hold : ℕ → HashAndSize → List Holds → List Holds
with_hold owner d [] = record { owner = owner; digests = d ∷ [] } ∷ []
with_hold owner d (held ∷ holds) =
    if is_holder owner held then record held { digests = with_digest d held.digests } ∷ holds else held ∷ with_hold owner d holds

-- the holds of the other owners
abbrev pub other_holds : ℕ → List Holds → List Holds
other_holds owner holds = filter (λ held. not (is_holder owner held)) holds

-- ---- valid states

-- no digest has two rows
abbrev pub Distinct : List Row → Type 0
Distinct [] = Unit {0}
Distinct (row ∷ rows) = AllByRecursion (λ other. other.digest ≢ row.digest) rows × Distinct rows

-- no two leases have one number
abbrev pub DistinctIds : List Lease → Type 0
DistinctIds [] = Unit {0}
DistinctIds (lease ∷ leases) = AllByRecursion (λ other. other.id ≢ lease.id) leases × DistinctIds leases

-- no digest stands twice
abbrev pub DistinctDigests : List HashAndSize → Type 0
DistinctDigests [] = Unit {0}
DistinctDigests (d ∷ ds) = AllByRecursion (λ other. other ≢ d) ds × DistinctDigests ds

-- no hold is there twice: no owner has two lists of holds, and no digest stands twice in one
abbrev pub DistinctHolds : List Holds → Type 0
DistinctHolds [] = Unit {0}
DistinctHolds (held ∷ holds) = AllByRecursion (λ other. other.owner ≢ held.owner) holds × DistinctDigests held.digests × DistinctHolds holds

-- what holds of each state that can be reached
pub record Valid (s : State) : Type 0 where
  pub distinct : Distinct s.rows
  -- the empty blob has no row
  pub filled : AllByRecursion (λ row. row.digest ≢ digest_of []) s.rows
  pub lease_ids : DistinctIds s.leases
  pub lease_numbers : AllByRecursion (λ lease. lease.id < s.next_lease) s.leases
  -- the owner of each lease is open
  pub lease_owners : AllByRecursion (λ lease. Contains s.owners lease.owner) s.leases
  pub holds : DistinctHolds s.holds
  -- the owner of each hold is open
  pub hold_owners : AllByRecursion (λ held. Contains s.owners held.owner) s.holds
  -- the digest of each hold has a row
  pub hold_rows : (d : HashAndSize) → is_held s.holds d ≡ true → has_row s.rows d ≡ true
  -- without the session guard there are no holds
  pub unheld : is_session s.guard ≡ false → s.holds ≡ []
  pub owners : AllByRecursion (λ owner. owner < s.next_owner) s.owners

-- a valid state as the running store keeps it: its bytes are within the high mark, or so few that no sum of theirs is too large. A store that is restored may be above its high mark.
pub record IsKept (s : State) : Type 0 where
  pub valid : Valid s
  pub within : used s ≤ max s.high (2 ^ 60)

-- an empty store
abbrev pub new_state : ℕ → ℕ → Guard → State
new_state low high guard = record { rows = []; leases = []; holds = []; low = low; high = high; guard = guard; next_owner = 1; next_lease = 1; owners = [] }
