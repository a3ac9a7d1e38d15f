-- The leases of a number, among those with their owners.
use Rattle.std.proofs.Common.{◌≡◌, ◌≢◌, ℕ, Bool, false, List, [], ◌∷◌, Some, refl, sym, ap, ◌∙◌, inl, inr, arith}
use Rattle.std.specs.Prelude.{filter, find, Contains, ◌&&◌}
use Rattle.std.specs.List.{AllByRecursion}
use Rattle.std.proofs.lemmas.Bool.{cond-true, cond-false, and_parts, eqb-true, eq-eqb, ne_eqb}
use Rattle.store_core.specs.declared.state.Lease.{Lease}
use Rattle.store_core.specs.State.{DistinctIds, is_of_owner, has_id as is_lease}
use Rattle.store_core.proofs.Elements.{every_contains, every_weaker, has_cases, filter_of_map, find_has}
use Rattle.lease_table.specs.declared.table_lease.TableLease.{TableLease}
use Rattle.lease_table.specs.Table.{has_id, roots}
use Rattle.indexed_core.specs.Parts.{table_lease, table_leases}

none_kept : {X : Type 0} (p : X → Bool) (xs : List X) → AllByRecursion (λ x. p x ≡ false) xs → filter p xs ≡ []
none_kept p [] h = refl
none_kept p (x ∷ xs) h = cond-false (p x) (x ∷ filter p xs) (filter p xs) h.0 ∙ none_kept p xs h.1

-- the lease of a number is the only one with it
pub only_lease : (id : ℕ) (leases : List Lease) (lease : Lease) → DistinctIds leases → Contains leases lease → lease.id ≡ id → filter (is_lease id) leases ≡ lease ∷ []
only_lease id [] lease distinct has is = absurd (omega (arith, has.1))
only_lease id (first ∷ rest) lease distinct has is =
    elim (has_cases first lease rest has) [
      | inl here ↦
          let id_here : first.id ≡ id = ap (λ (l : Lease). l.id) here ∙ is in
          cond-true (is_lease id first) (first ∷ filter (is_lease id) rest) (filter (is_lease id) rest) (eq-eqb first.id id id_here)
          ∙ ap (λ (ls : List Lease). first ∷ ls)
          (none_kept (is_lease id) rest
          (every_weaker (λ other. other.id ≢ first.id) (λ other. is_lease id other ≡ false) (λ other n. ne_eqb other.id id (λ e. n (e ∙ sym id_here))) rest distinct.0))
          ∙ ap (λ (l : Lease). l ∷ []) here
      | inr later ↦
          let differs : lease.id ≢ first.id = every_contains (λ other. other.id ≢ first.id) rest lease distinct.0 later in
          cond-false (is_lease id first) (first ∷ filter (is_lease id) rest) (filter (is_lease id) rest) (ne_eqb first.id id (λ e. differs (is ∙ sym e)))
          ∙ only_lease id rest lease distinct.1 later is
    ]

-- the lease that is found by its number and its owner has the one root of that number
pub root_of_own : (owner id : ℕ) (leases : List Lease) (held : List TableLease) (lease : Lease) → DistinctIds leases → held ≡ table_leases leases
    → find (λ l. is_lease id l && is_of_owner owner l) leases ≡ Some lease → roots (filter (has_id id) held) ≡ lease.root ∷ []
root_of_own owner id leases held lease distinct same is =
    let f = find_has (λ l. is_lease id l && is_of_owner owner l) leases lease is in
    let numbered : lease.id ≡ id = eqb-true lease.id id (and_parts (is_lease id lease) (is_of_owner owner lease) f.1).0 in
    ap (λ (ls : List TableLease). roots (filter (has_id id) ls)) same
    ∙ ap roots (filter_of_map table_lease (has_id id) leases)
    ∙ ap (λ (ls : List Lease). roots (table_leases ls)) (only_lease id leases lease distinct f.0 numbered)
