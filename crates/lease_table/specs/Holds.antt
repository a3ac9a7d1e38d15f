-- How many owners hold a digest.
use Rattle.std.specs.Prelude.{ℕ, List, Option, Some, None, sum_by, if◌then◌else◌}
use Rattle.digest_types.specs.Name.{HashAndSize}
use Rattle.store_core.specs.State.{Holds, is_among, with_hold}

-- whether an owner holds it, as a number
abbrev pub held_by : Holds → HashAndSize → ℕ
held_by held d = if is_among held.digests d then 1 else 0

-- how many owners hold it
abbrev pub holders : List Holds → HashAndSize → ℕ
holders holds d = sum_by (λ held. held_by held d) holds

-- the holds with one more of an owner, where one is named
abbrev pub with_holder : Option ℕ → HashAndSize → List Holds → List Holds
with_holder None d holds = holds
with_holder (Some owner) d holds = with_hold owner d holds
