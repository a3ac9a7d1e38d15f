use Rattle.std.proofs.Common.{◌≡◌, ◌∷◌, ◌++◌, [], true, List, refl, sym, ap, subst, ◌∙◌, arith}
use Rattle.digest_types.specs.Name.{HashAndSize}
use Rattle.store_core.specs.declared.event.Reply.TheVariants as replies
use Rattle.store_core.specs.declared.state.Row.{Row}
use Rattle.store_core.specs.State.{State, sizes}
use Rattle.store_core.specs.Step.{is_open, holding}
use Rattle.store_core.specs.Marks.{guard_marks}
use Rattle.store_core.specs.contracts.machine.Core.{the_view}
use Rattle.store_core.proofs.Changes.{guarded_within, adds_from, added_keeps, added_is, added_row, used_is, used_keeps}
use Rattle.store_core.proofs.machine.Core.put_new.Goals as goal

pub overflow_add-guarded : goal.overflow_add-guarded
overflow_add-guarded c =
    let s = the_view c.self.inside in
    let counted = c.guarded_by-guarded.ensures s c.deref.ensures.value (c.deref-2.ensures.value ∙ c.in_ok-guards.ensures ∙ ap guard_marks (sym c.self.view_is)) in
    omega (arith, counted, guarded_within s, c.self.invariant.within, c.self.inside.marks.small, c.digest.invariant)

pub used_by-requires : goal.used_by-requires
used_by-requires c =
    let s = the_view c.self.inside in
    let d = c.args.digest.now in
    let edges = c.args.edges.now in
    let counted = c.guarded_by-guarded.ensures s c.deref.ensures.value (c.deref-2.ensures.value ∙ c.in_ok-guards.ensures ∙ ap guard_marks (sym c.self.view_is)) in
    let adds =
    adds_from s c.args.self.now d edges c.guarded_by-guarded.result c.digest.inside.size c.in_ok-room.room.items c.deref-4.result.now c.in_ok-row.row c.push_reserved.new.self.items c.remove-removed.new.rows.items
    c.self.view_is c.self.invariant c.requires.new c.requires.filled counted (ap (λ (x : HashAndSize). x.size) c.digest.view_is) c.if-guarded-size.false c.in_ok-room.ensures c.deref-4.ensures.value
    c.in_ok-row.ensures (c.push_reserved.ensures.items ∙ ap (λ (rows : List Row). rows ++ c.in_ok-row.row ∷ []) c.in_ok-reserve.ensures.items) c.remove-removed.ensures.rows in
    let kept = added_keeps s d edges c.deref-4.result.now c.push_reserved.new.self.items c.remove-removed.new.rows.items adds c.self.invariant in
    omega (arith, kept.within, c.self.inside.marks.small, ap sizes c.deref-5.ensures.value)

pub invariant_of-self-2 : goal.invariant_of-self-2
invariant_of-self-2 c =
    let s = the_view c.self.inside in
    let d = c.args.digest.now in
    let edges = c.args.edges.now in
    let counted = c.guarded_by-guarded.ensures s c.deref.ensures.value (c.deref-2.ensures.value ∙ c.in_ok-guards.ensures ∙ ap guard_marks (sym c.self.view_is)) in
    let adds =
    adds_from s c.args.self.now d edges c.guarded_by-guarded.result c.digest.inside.size c.in_ok-room.room.items c.deref-4.result.now c.in_ok-row.row c.push_reserved.new.self.items c.remove-removed.new.rows.items
    c.self.view_is c.self.invariant c.requires.new c.requires.filled counted (ap (λ (x : HashAndSize). x.size) c.digest.view_is) c.if-guarded-size.false c.in_ok-room.ensures c.deref-4.ensures.value
    c.in_ok-row.ensures (c.push_reserved.ensures.items ∙ ap (λ (rows : List Row). rows ++ c.in_ok-row.row ∷ []) c.in_ok-reserve.ensures.items) c.remove-removed.ensures.rows in
    used_keeps (record s { rows = c.remove-removed.new.rows.items }) c.args.owner d c.hold_used.new.holds.items
    (subst (λ (t : State). is_open t c.args.owner ≡ true) (sym c.self.view_is) c.requires.open)
    (λ filled. added_row s d edges c.deref-4.result.now c.push_reserved.new.self.items c.remove-removed.new.rows.items adds)
    c.in_ok-hold_used.ensures.ok
    (added_keeps s d edges c.deref-4.result.now c.push_reserved.new.self.items c.remove-removed.new.rows.items adds c.self.invariant)

pub returns-clause-ok : goal.returns-clause-ok
returns-clause-ok c =
    let s = the_view c.self.inside in
    let d = c.args.digest.now in
    let edges = c.args.edges.now in
    let counted = c.guarded_by-guarded.ensures s c.deref.ensures.value (c.deref-2.ensures.value ∙ c.in_ok-guards.ensures ∙ ap guard_marks (sym c.self.view_is)) in
    let adds =
    adds_from s c.args.self.now d edges c.guarded_by-guarded.result c.digest.inside.size c.in_ok-room.room.items c.deref-4.result.now c.in_ok-row.row c.push_reserved.new.self.items c.remove-removed.new.rows.items
    c.self.view_is c.self.invariant c.requires.new c.requires.filled counted (ap (λ (x : HashAndSize). x.size) c.digest.view_is) c.if-guarded-size.false c.in_ok-room.ensures c.deref-4.ensures.value
    c.in_ok-row.ensures (c.push_reserved.ensures.items ∙ ap (λ (rows : List Row). rows ++ c.in_ok-row.row ∷ []) c.in_ok-reserve.ensures.items) c.remove-removed.ensures.rows in
    used_is (record s { rows = c.remove-removed.new.rows.items }) c.args.owner d (replies.Stored c.remove-removed.result c.used_by.result) c.hold_used.new.holds.items refl c.in_ok-hold_used.ensures.ok
    ∙ ap (holding c.args.owner d)
    (added_is s d edges c.deref-4.result.now c.push_reserved.new.self.items c.remove-removed.new.rows.items adds c.args.self.now c.remove-removed.result c.used_by.result
    c.self.view_is c.remove-removed.ensures.count (c.used_by.ensures ∙ ap sizes c.deref-5.ensures.value))
