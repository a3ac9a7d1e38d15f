-- Leases of distinct numbers, and their owners.
use Rattle.std.proofs.Common.{◌≡◌, ◌≢◌, ℕ, Bool, true, false, cond, not, List, [], ◌∷◌, ◌++◌, inl, inr, sym, ap, ◌∙◌, arith}
use Rattle.std.specs.Prelude.{filter, nat_eq, Contains}
use Rattle.std.specs.List.{AllByRecursion, list_any}
use Rattle.std.proofs.lemmas.Bool.{eqb-true, not_from_false}
use Rattle.std.proofs.lemmas.Map.Views.{Contains-from_any}
use Rattle.store_core.specs.declared.state.Lease.{Lease}
use Rattle.store_core.specs.State.{State, DistinctIds, is_of_owner}
use Rattle.store_core.specs.Step.{is_open}
use Rattle.store_core.proofs.Elements.{every_filter, every_push, every_contains, every_has, has_cases, has_filter, none_pass}

-- another number than that of the lease
abbrev pub HasOtherId : Lease → Lease → Type 0
HasOtherId lease other = other.id ≢ lease.id

keep : (b : Bool) (x : Lease) (xs : List Lease) → AllByRecursion (HasOtherId x) xs → DistinctIds xs → DistinctIds (cond b (x ∷ xs) xs)
keep true x xs h d = (h, d)
keep false x xs h d = d

pub distinct_ids_filter : (p : Lease → Bool) (leases : List Lease) → DistinctIds leases → DistinctIds (filter p leases)
distinct_ids_filter p [] d = tt
distinct_ids_filter p (lease ∷ leases) d = keep (p lease) lease (filter p leases) (every_filter (HasOtherId lease) p leases d.0) (distinct_ids_filter p leases d.1)

pub distinct_ids_push : (leases : List Lease) (lease : Lease) → DistinctIds leases → AllByRecursion (HasOtherId lease) leases → DistinctIds (leases ++ lease ∷ [])
distinct_ids_push [] lease d h = (tt, tt)
distinct_ids_push (first ∷ leases) lease d h = (every_push (HasOtherId first) leases lease d.0 (λ e. h.0 (sym e)), distinct_ids_push leases lease d.1 h.1)

-- two leases of one number are the same lease
pub one_lease : (leases : List Lease) (a b : Lease) → DistinctIds leases → Contains leases a → Contains leases b → a.id ≡ b.id → a ≡ b
one_lease [] a b d has other e = absurd (omega (arith, has.1))
one_lease (lease ∷ leases) a b d has other e =
    elim (has_cases lease a leases has) [
      | inl first ↦ elim (has_cases lease b leases other) [
        | inl too ↦ sym first ∙ too
        | inr later ↦ absurd (every_contains (HasOtherId lease) leases b d.0 later (sym e ∙ ap (λ (l : Lease). l.id) (sym first)))
      ]
      | inr later ↦ elim (has_cases lease b leases other) [
        | inl first ↦ absurd (every_contains (HasOtherId lease) leases a d.0 later (e ∙ ap (λ (l : Lease). l.id) (sym first)))
        | inr too ↦ one_lease leases a b d.1 later too e
      ]
    ]

-- an open owner is among the owners
pub open_has : (s : State) (owner : ℕ) → is_open s owner ≡ true → Contains s.owners owner
open_has s owner e = Contains-from_any {eq = nat_eq} eqb-true owner s.owners e

-- where an owner without leases goes, those of the leases stay
pub owners_stay : (owner : ℕ) (owners : List ℕ) (leases : List Lease) → list_any (is_of_owner owner) leases ≡ false → AllByRecursion (λ lease. Contains owners lease.owner) leases
    → AllByRecursion (λ lease. Contains (filter (λ o. not (nat_eq o owner)) owners) lease.owner) leases
owners_stay owner owners leases none h =
    every_has (λ lease. Contains (filter (λ o. not (nat_eq o owner)) owners) lease.owner) leases
    (λ lease has. has_filter (λ o. not (nat_eq o owner)) owners lease.owner
    (every_contains (λ l. Contains owners l.owner) leases lease h has)
    (not_from_false (nat_eq lease.owner owner) (every_contains (λ l. is_of_owner owner l ≡ false) leases lease (none_pass (is_of_owner owner) leases none) has)))
