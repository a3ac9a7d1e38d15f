-- Lists of use.
use Rattle.std.proofs.Common.{◌≢◌, List, [], ◌∷◌}
use Rattle.std.specs.List.{AllByRecursion}
use Rattle.digest_types.specs.Name.{HashAndSize}
use Rattle.store_core.specs.declared.state.Row.{Row}
use Rattle.store_core.specs.State.{Distinct, DistinctDigests, digests}

all_others : (d : HashAndSize) (rows : List Row) → AllByRecursion (λ (other : Row). other.digest ≢ d) rows → AllByRecursion (λ (other : HashAndSize). other ≢ d) (digests rows)
all_others d [] all = tt
all_others d (row ∷ rows) all = (all.0, all_others d rows all.1)

pub digests_distinct : (rows : List Row) → Distinct rows → DistinctDigests (digests rows)
digests_distinct [] distinct = tt
digests_distinct (row ∷ rows) distinct = (all_others row.digest rows distinct.0, digests_distinct rows distinct.1)
