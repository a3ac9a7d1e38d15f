use Rattle.std.proofs.Common.{◌≡◌, ◌+◌, ◌∷◌, ◌∙◌, [], ℕ, Option, None, Some, List, is_some, sym, ap, subst, cond, length, arith}
use Rattle.std.specs.Map.{lookup}
use Rattle.std.specs.Vec.{vec_len}
use Rattle.digest_types.specs.Name.{HashAndSize}
use Rattle.store_core.specs.State.{same}
use Rattle.lease_table.specs.Slots.{live, IsPlaced}
use Rattle.lease_table.proofs.SlotLaws.{placed_more, no_place, live_both}
use Rattle.lease_table.proofs.slots.push.Goals as goal

pub returns-in-Ok-clause-placed : goal.returns-in-Ok-clause-placed
returns-in-Ok-clause-placed c =
    let d = c.args.digest in
    let slots = c.args.slots.now.items in
    let places = c.args.places.now.entries in
    let n : vec_len c.args.slots.now ≡ length slots = omega arith in
    let none : c.in-Ok.field-0 ≡ None = c.in-Ok.ensures.old ∙ c.requires.placed.placed d ∙ no_place d slots c.requires.new in
    let len = c.in-Ok.ensures.len ∙ ap (λ (o : Option ℕ). length places + cond (is_some o) 0 1) none in
    subst (λ (xs : List (Option HashAndSize)). IsPlaced xs c.insert.new.self.entries) (sym c.push_reserved.ensures.items)
    (placed_more d slots places c.insert.new.self.entries c.requires.placed c.requires.new
    (λ q. c.in-Ok.ensures.updates.0 q ∙ ap (λ (n : ℕ). cond (same d q) (Some n) (lookup (same q) places)) (c.len-last.ensures ∙ n))
    (omega (arith, len)))

pub returns-in-Ok-clause-live : goal.returns-in-Ok-clause-live
returns-in-Ok-clause-live c = ap live c.push_reserved.ensures.items ∙ live_both c.args.slots.now.items (Some c.args.digest ∷ [])
