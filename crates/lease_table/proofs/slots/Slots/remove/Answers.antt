use Rattle.std.proofs.Common.{◌≡◌, ◌≤◌, [], ap, subst, length, take, arith}
use Rattle.lease_table.specs.Slots.{live}
use Rattle.lease_table.proofs.SlotLaws.{fewer_digests}
use Rattle.lease_table.proofs.slots.Slots.remove.Goals as goal

pub invariant_of-self : goal.invariant_of-self
invariant_of-self c =
    let n = ap length c.remove_at.ensures.live in
    let m = fewer_digests c.args.digest.now (live c.self.inside.slots.items) in
    let room = c.self.invariant.room in
    let a = c.remove_at.ensures.capacity in
    let slots = c.deref.ensures.value in
    record {
      placed = c.remove_at.ensures.placed;
      room = omega (arith, n, m, room, a);
      within = subst (λ xs. c.first_full-self-inside.result ≤ length xs) slots c.first_full-self-inside.ensures.within;
      front = subst (λ xs. live (take c.first_full-self-inside.result xs) ≡ []) slots c.first_full-self-inside.ensures.front;
    }
