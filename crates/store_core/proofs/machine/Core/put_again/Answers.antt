use Rattle.std.proofs.Common.{◌≡◌, ◌∙◌, Some, cond, refl, sym, ap}
use Rattle.std.specs.Prelude.{position}
use Rattle.store_core.specs.declared.event.Reply.TheVariants as replies
use Rattle.store_core.specs.declared.state.Row.{Row}
use Rattle.store_core.specs.State.{State, is_of, row_of}
use Rattle.store_core.specs.contracts.machine.Core.{the_view}
use Rattle.store_core.proofs.Changes.{again_is, again_keeps, again_used}
use Rattle.store_core.proofs.HeldRows.{has_found}
use Rattle.store_core.proofs.UseOrder.{place_row, row_at}
use Rattle.store_core.proofs.machine.Core.put_again.Goals as goal
use Rattle.store_core.proofs.machine.Core.put_again.Goals.{then-sound, else-sound}

pub hold_used-requires-clause-there : goal.hold_used-requires-clause-there
hold_used-requires-clause-there c = λ filled. place_row c.args.digest.now c.args.self.now.rows c.args.place c.requires.there

pub invariant_of-self : goal.invariant_of-self
invariant_of-self c =
    let d = c.args.digest.now in
    let there = ap (λ (t : State). position (is_of d) t.rows) (c.self.view_is ∙ c.in_ok-hold_used.ensures.ok) ∙ c.requires.there in
    let found = row_at d c.self.inside.rows.items c.args.place c.index.result.now there in
    again_keeps (the_view c.self.inside) d _ c.renew.new.rows.items found (c.renew.ensures _ found) c.self.invariant

pub returns-clause-ok : goal.returns-clause-ok
returns-clause-ok c = λ edges.
    let d = c.args.digest.now in
    let now = c.args.self.now in
    let is = c.self.view_is ∙ c.in_ok-hold_used.ensures.ok in
    let there = ap (λ (t : State). position (is_of d) t.rows) is ∙ c.requires.there in
    let row = c.index.result.now in
    let found = row_at d c.self.inside.rows.items c.args.place row there ∙ ap (λ (r : Row). Some r) (sym c.index.ensures) in
    let said : c.if-sound.result ≡ cond row.sound replies.Present replies.Repaired =
    elim c.if-sound.branch [
      | then-sound w ↦ rw (w.result-is, w.if-sound.true) refl
      | else-sound w ↦ rw (w.result-is, w.if-sound.false) refl
    ] in
    again_is (the_view c.self.inside) _ d edges row c.if-sound.result c.renew.new.rows.items is found said (c.renew.ensures row found)
    ∙ again_used now c.args.owner d edges (row_of d now.rows) (sym (has_found d now.rows) ∙ place_row d now.rows c.args.place c.requires.there)
