-- What a store is once it was loaded from a shelf: by the list of use that an earlier run left, and the bytes of the bodies
-- that were found.
use Rattle.std.specs.Prelude.{◌≡◌, ◌+◌, ◌≤◌, ◌^◌, ◌&&◌, ◌++◌, not, nat_le, nat_lt, ℕ, Bool, true, List, [], ◌∷◌, length, map, sum_by, Contains, if◌then◌else◌}
use Rattle.std.specs.List.{filter_map}
use Rattle.digest_types.specs.Name.{HashAndSize}
use Rattle.digest_types.specs.Digest.{digest_of}
use Rattle.directory_canon.specs.Links.{links}
use Rattle.store_core.specs.declared.state.Row.{Row}
use Rattle.store_core.specs.declared.state.Guard.{Guard}
use Rattle.store_core.specs.State.{State, DistinctDigests, new_state, is_among, row_of, has_row, digests, sizes}
use Rattle.store_core.specs.Pass.{without}

-- the sound row of a body of these bytes
abbrev pub row_with : List ℕ → Row
row_with bytes = record { digest = digest_of bytes; edges = links bytes; sound = true }

-- Whether a body of these bytes becomes a row beside the others: it isn't empty, its digest has no row, and the rows have at
-- most 2^60 bytes with it. Any other body is discarded.
abbrev pub is_taken : List Row → List ℕ → Bool
is_taken rows bytes = nat_lt 0 (length bytes) && (not (has_row rows (digest_of bytes)) && nat_le (sizes rows + length bytes) (2 ^ 60))

-- these rows, and then those of the bodies that were found, in the order found
abbrev pub taken : List Row → List (List ℕ) → List Row
taken rows [] = rows
taken rows (bytes ∷ found) = taken (if is_taken rows bytes then rows ++ row_with bytes ∷ [] else rows) found

-- the rows in the order of their use: those that aren't saved, as they are, and then the saved ones, in the saved order
abbrev pub in_use_order : List HashAndSize → List Row → List Row
in_use_order saved rows = without saved rows ++ filter_map (λ d. row_of d rows) saved

-- The store after it was loaded with these marks: there are no leases, holds and owners, and both next numbers are 1.
abbrev pub restored : List HashAndSize → List (List ℕ) → ℕ → ℕ → Guard → State
restored saved found low high guard = record (new_state low high guard) { rows = in_use_order saved (taken [] found) }

-- ---- a restart

-- just the rows have bodies, one each and found in any order, of at most 2^60 bytes in all
pub record AreBodiesFor (rows : List Row) (found : List (List ℕ)) : Type 0 where
  pub distinct : DistinctDigests (map digest_of found)
  pub same : (d : HashAndSize) → is_among (map digest_of found) d ≡ is_among (digests rows) d
  pub within : sum_by (λ bytes. length bytes) found ≤ 2 ^ 60

-- the sound row of one of the bodies
abbrev pub IsRowOf : List (List ℕ) → Row → Type 0
IsRowOf found row = (bytes : List ℕ) × Contains found bytes × (row ≡ row_with bytes)

-- the row's edges are the links of its body's bytes
abbrev pub HasLinksOf : List (List ℕ) → Row → Type 0
HasLinksOf found row = (bytes : List ℕ) → Contains found bytes → digest_of bytes ≡ row.digest → row.edges ≡ links bytes

-- the row, made sound
abbrev pub as_sound : Row → Row
as_sound row = record row { sound = true }

-- the texts `abc` and `ab`
abbrev pub text_abc : List ℕ
text_abc = 97 ∷ 98 ∷ 99 ∷ []

abbrev pub text_ab : List ℕ
text_ab = 97 ∷ 98 ∷ []
