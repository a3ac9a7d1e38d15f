-- How the order of use is kept: slots one after the other, of which some are empty, and the place of each digest.
use Rattle.std.specs.Prelude.{◌≡◌, ◌≤◌, ◌*◌, take, ℕ, suc, Bool, false, List, [], ◌∷◌, length, Option, Some, None, if◌then◌else◌}
use Rattle.std.specs.Option.{option_map}
use Rattle.std.specs.Map.{lookup}
use Rattle.digest_types.specs.Name.{HashAndSize}
use Rattle.store_core.specs.State.{same}
use Rattle.lease_table.specs.Table.{DistinctDigests}

-- whether a slot has this digest
abbrev pub has_digest : HashAndSize → Option HashAndSize → Bool
has_digest d None = false
has_digest d (Some other) = same d other

-- the digests of the slots
abbrev pub live : List (Option HashAndSize) → List HashAndSize
live [] = []
live (None ∷ slots) = live slots
live (Some d ∷ slots) = d ∷ live slots

-- the first slot that has this digest
abbrev pub place_in : HashAndSize → List (Option HashAndSize) → Option ℕ
place_in d [] = None
place_in d (slot ∷ slots) = if has_digest d slot then Some 0 else option_map suc (place_in d slots)

-- each digest has one slot, and the map has its place
pub record IsPlaced (slots : List (Option HashAndSize)) (places : List (HashAndSize × ℕ)) : Type 0 where
  pub distinct : DistinctDigests (live slots)
  pub placed : (d : HashAndSize) → lookup (same d) places ≡ place_in d slots
  pub count : length places ≡ length (live slots)

-- The map goes with the slots, there is room for twice as many slots as digests, and those before the first so many are
-- empty.
pub record IsSlotted (slots : List (Option HashAndSize)) (most start : ℕ) (places : List (HashAndSize × ℕ)) : Type 0 where
  pub placed : IsPlaced slots places
  pub room : 2 * length (live slots) ≤ most
  pub within : start ≤ length slots
  pub front : live (take start slots) ≡ []
