use Rattle.std.proofs.Common.{◌≡◌, ◌+◌, ◌≤◌, ◌∷◌, ◌∙◌, [], ℕ, Option, Some, None, List, is_some, sym, ap, subst, cond, length, set, take, arith}
use Rattle.std.specs.Map.{lookup}
use Rattle.std.specs.Vec.{vec_len}
use Rattle.digest_types.specs.Name.{HashAndSize}
use Rattle.store_core.specs.State.{same}
use Rattle.lease_table.specs.Slots.{live, IsPlaced}
use Rattle.lease_table.proofs.SlotLaws.{emptied, placed_last, last_is, place_is, front_set, front_push, length_set}
use Rattle.lease_table.proofs.slots.move_last.Goals as goal

-- where the digest was
abbrev At : List (Option HashAndSize) → List (HashAndSize × ℕ) → HashAndSize → ℕ → Type 0
At slots places d place = lookup (same d) places ≡ Some place

pub index_mut-requires : goal.index_mut-requires
index_mut-requires c =
    let d = c.args.digest.now in
    let h = (emptied d c.args.slots.now.items c.in-Ok-Some.place c.requires.placed.distinct (sym (c.requires.placed.placed d) ∙ sym c.in-Ok-Some.ensures.old ∙ c.in-Ok-Some.field-0-is)).within in
    omega (arith, h)

pub returns-in-Ok-Some-clause-placed : goal.returns-in-Ok-Some-clause-placed
returns-in-Ok-Some-clause-placed c =
    let d = c.args.digest.now in
    let slots = c.args.slots.now.items in
    let places = c.args.places.now.entries in
    let n : vec_len c.args.slots.now ≡ length slots = omega arith in
    let is : lookup (same d) places ≡ Some c.in-Ok-Some.place = sym c.in-Ok-Some.ensures.old ∙ c.in-Ok-Some.field-0-is in
    let len = c.in-Ok-Some.ensures.len ∙ ap (λ (o : Option ℕ). length places + cond (is_some o) 0 1) c.in-Ok-Some.field-0-is in
    subst (λ (xs : List (Option HashAndSize)). IsPlaced xs c.insert.new.self.entries) (sym c.push_reserved.ensures.items)
    (placed_last d slots places c.insert.new.self.entries c.requires.placed c.in-Ok-Some.place is
    (λ q. c.in-Ok-Some.ensures.updates.0 q ∙ ap (λ (n : ℕ). cond (same d q) (Some n) (lookup (same q) places)) (c.len-last.ensures ∙ n))
    (omega (arith, len)))

pub returns-in-Ok-Some-clause-live : goal.returns-in-Ok-Some-clause-live
returns-in-Ok-Some-clause-live c =
    let d = c.args.digest.now in
    ap live c.push_reserved.ensures.items
    ∙ last_is d c.args.slots.now.items c.in-Ok-Some.place c.requires.placed.distinct (sym (c.requires.placed.placed d) ∙ sym c.in-Ok-Some.ensures.old ∙ c.in-Ok-Some.field-0-is)

pub returns-in-Ok-None-clause-placed : goal.returns-in-Ok-None-clause-placed
returns-in-Ok-None-clause-placed c =
    absurd (place_is c.args.digest.now c.args.slots.now.items c.args.places.now.entries c.requires.placed c.requires.there (sym c.in-Ok-None.ensures.old ∙ c.in-Ok-None.field-0-is))

pub returns-in-Ok-None-clause-live : goal.returns-in-Ok-None-clause-live
returns-in-Ok-None-clause-live c =
    absurd (place_is c.args.digest.now c.args.slots.now.items c.args.places.now.entries c.requires.placed c.requires.there (sym c.in-Ok-None.ensures.old ∙ c.in-Ok-None.field-0-is))

pub returns-in-Err-clause-live : goal.returns-in-Err-clause-live
returns-in-Err-clause-live c =
    absurd (place_is c.args.digest.now c.args.slots.now.items c.args.places.now.entries c.requires.placed c.requires.there c.in-Err.ensures.absent)

pub returns-in-Ok-Some-clause-front : goal.returns-in-Ok-Some-clause-front
returns-in-Ok-Some-clause-front c = λ n le e.
    let slots = c.args.slots.now.items in
    let place = c.in-Ok-Some.place in
    subst (λ (xs : List (Option HashAndSize)). live (take n xs) ≡ []) (sym c.push_reserved.ensures.items)
    (front_push (set slots place None) (Some c.args.digest.now ∷ []) n (subst (λ (k : ℕ). n ≤ k) (sym (length_set slots place None)) le) (front_set slots place n e))
