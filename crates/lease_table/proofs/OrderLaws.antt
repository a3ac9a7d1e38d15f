-- Digests in an order.
use Rattle.std.proofs.Common.{◌≡◌, ◌≢◌, Bool, true, false, cond, not, List, [], ◌∷◌, ◌++◌, refl, sym, ap, ◌∙◌}
use Rattle.std.specs.Prelude.{filter}
use Rattle.std.specs.List.{AllByRecursion}
use Rattle.std.proofs.lemmas.Bool.{or_parts}
use Rattle.digest_types.specs.Name.{HashAndSize}
use Rattle.store_core.specs.State.{same, is_among}
use Rattle.store_core.proofs.Same.{not_same_from_other, other_from_not_same}
use Rattle.store_core.proofs.Elements.{every_filter, every_push}
use Rattle.lease_table.specs.Table.{other_digests, DistinctDigests}

-- ---- no digest stands twice

-- the other digest is another one
abbrev Differs : HashAndSize → HashAndSize → Type 0
Differs d other = other ≢ d

keep : (b : Bool) (d : HashAndSize) (ds : List HashAndSize) → AllByRecursion (Differs d) ds → DistinctDigests ds → DistinctDigests (cond b (d ∷ ds) ds)
keep true d ds h distinct = (h, distinct)
keep false d ds h distinct = distinct

-- among digests that are kept
pub distinct_kept : (p : HashAndSize → Bool) (ds : List HashAndSize) → DistinctDigests ds → DistinctDigests (filter p ds)
distinct_kept p [] distinct = tt
distinct_kept p (d ∷ ds) distinct = keep (p d) d (filter p ds) (every_filter (Differs d) p ds distinct.0) (distinct_kept p ds distinct.1)

-- with one digest more
pub distinct_more : (ds : List HashAndSize) (d : HashAndSize) → DistinctDigests ds → AllByRecursion (λ other. other ≢ d) ds → DistinctDigests (ds ++ d ∷ [])
distinct_more [] d distinct h = (tt, tt)
distinct_more (first ∷ ds) d distinct h = (every_push (Differs first) ds d distinct.0 (λ e. h.0 (sym e)), distinct_more ds d distinct.1 h.1)

-- a digest that isn't among others differs from them
pub apart : (d : HashAndSize) (ds : List HashAndSize) → is_among ds d ≡ false → AllByRecursion (λ other. other ≢ d) ds
apart d [] e = tt
apart d (first ∷ ds) e =
    let h = or_parts (same d first) (is_among ds d) e in
    (λ q. other_from_not_same d first h.0 (sym q), apart d ds h.1)

-- ---- the others

others_by : (d first : HashAndSize) (rest : List HashAndSize) (b : Bool) → same first d ≡ b → AllByRecursion (λ other. other ≢ d) rest → AllByRecursion (λ other. other ≢ d) (cond (not b) (first ∷ rest) rest)
others_by d first rest true e h = h
others_by d first rest false e h = (other_from_not_same first d e, h)

-- they differ from the one that goes
pub others_differ : (d : HashAndSize) (ds : List HashAndSize) → AllByRecursion (λ other. other ≢ d) (other_digests d ds)
others_differ d [] = tt
others_differ d (first ∷ ds) = others_by d first (other_digests d ds) (same first d) refl (others_differ d ds)

keep_other : (d : HashAndSize) (rest : List HashAndSize) (b : Bool) → b ≡ false → cond (not b) (d ∷ rest) rest ≡ d ∷ rest
keep_other d rest true e = absurd cc
keep_other d rest false e = refl

-- where all differ from it, all stay
pub all_others : (d : HashAndSize) (ds : List HashAndSize) → AllByRecursion (λ other. other ≢ d) ds → other_digests d ds ≡ ds
all_others d [] h = refl
all_others d (first ∷ ds) h = keep_other first (other_digests d ds) (same first d) (not_same_from_other first d h.0) ∙ ap (λ (rest : List HashAndSize). first ∷ rest) (all_others d ds h.1)
