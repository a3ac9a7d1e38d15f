use Rattle.std.proofs.Common.{◌≡◌, ◌∙◌, true, cond, refl, sym, ap}
use Rattle.store_core.specs.declared.event.Reply.TheVariants as replies
use Rattle.store_core.specs.State.{State, has_row, row_of}
use Rattle.store_core.proofs.Changes.{again_used}
use Rattle.store_core.proofs.HeldRows.{has_found}
use Rattle.indexed_core.specs.contracts.machine.IndexedCore.{the_view}
use Rattle.indexed_core.proofs.MachineChanges.{again_change, again_reply}
use Rattle.indexed_core.proofs.MachineLaws.{guards_are}
use Rattle.indexed_core.proofs.machine.IndexedCore.put_again.Goals as goal
use Rattle.indexed_core.proofs.machine.IndexedCore.put_again.Goals.{then-renew, else-renew}

pub invariant_of-self : goal.invariant_of-self
invariant_of-self c =
    let s = the_view c.self.inside in
    let d = c.args.digest.now in
    let there : has_row s.rows d ≡ true = ap (λ (t : State). has_row t.rows d) (c.self.view_is ∙ c.in_ok-hold_used.ensures.ok) ∙ c.requires.there in
    again_change s c.renew.new.self c.self.inside.index.guards d (guards_are s c.self.inside.index.guards c.self.invariant.0 refl) there c.renew.ensures.renewed c.self.invariant.1

pub returns-clause-ok : goal.returns-clause-ok
returns-clause-ok c = λ edges.
    let s = the_view c.self.inside in
    let d = c.args.digest.now in
    let now = c.args.self.now in
    let is = c.self.view_is ∙ c.in_ok-hold_used.ensures.ok in
    let there : has_row s.rows d ≡ true = ap (λ (t : State). has_row t.rows d) is ∙ c.requires.there in
    let said : c.if-renew.result ≡ cond c.renew.result replies.Present replies.Repaired =
    elim c.if-renew.branch [
      | then-renew w ↦ rw (w.result-is, w.if-renew.true) refl
      | else-renew w ↦ rw (w.result-is, w.if-renew.false) refl
    ] in
    again_reply s _ c.renew.new.self c.self.inside.index.guards d edges c.if-renew.result c.renew.result
    is there said c.renew.ensures.sound c.renew.ensures.renewed (guards_are s c.self.inside.index.guards c.self.invariant.0 refl)
    ∙ again_used now c.args.owner d edges (row_of d now.rows) (sym (has_found d now.rows) ∙ c.requires.there)
