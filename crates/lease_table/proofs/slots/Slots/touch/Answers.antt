use Rattle.std.proofs.Common.{◌≡◌, ◌≤◌, ◌∙◌, [], ap, subst, length, take, arith}
use Rattle.lease_table.specs.Slots.{live}
use Rattle.store_core.specs.State.{is_among}
use Rattle.lease_table.proofs.SlotLaws.{moved_length}
use Rattle.lease_table.proofs.slots.Slots.touch.Goals as goal

pub invariant_of-self : goal.invariant_of-self
invariant_of-self c =
    let d = c.args.digest.now in
    let slots = c.make_room.new.slots.items in
    let there = ap (λ ds. is_among ds d) (c.make_room.ensures.live ∙ c.self.view_is) ∙ c.requires in
    let n = ap length c.move_last.ensures.live ∙ moved_length d slots c.make_room.ensures.placed.distinct there ∙ ap length c.make_room.ensures.live in
    let room = c.self.invariant.room in
    let a = c.move_last.ensures.capacity in
    let b = c.make_room.ensures.capacity in
    let after = c.deref.ensures.value in
    record {
      placed = c.move_last.ensures.placed;
      room = omega (arith, n, room, a, b);
      within = subst (λ xs. c.first_full-self-inside.result ≤ length xs) after c.first_full-self-inside.ensures.within;
      front = subst (λ xs. live (take c.first_full-self-inside.result xs) ≡ []) after c.first_full-self-inside.ensures.front;
    }
