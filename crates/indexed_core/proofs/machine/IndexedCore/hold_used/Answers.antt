use Rattle.std.proofs.Common.{◌≡◌, ◌∙◌, true, false, refl, sym, subst, rules}
use Rattle.store_core.specs.State.{State, is_empty, is_session, has_row, with_hold}
use Rattle.store_core.specs.Step.{is_open}
use Rattle.store_core.proofs.Changes.{used_keeps}
use Rattle.indexed_core.specs.contracts.machine.IndexedCore.{the_view}
use Rattle.indexed_core.proofs.MachineChanges.{holds_change, session_after}
use Rattle.indexed_core.proofs.MachineLaws.{guards_are}
use Rattle.indexed_core.proofs.machine.IndexedCore.hold_used.Goals as goal

pub invariant_of-self-then-not-is_empty_blob : goal.invariant_of-self-then-not-is_empty_blob
invariant_of-self-then-not-is_empty_blob c =
    let s = the_view c.self.inside in
    let d = c.args.digest.now in
    let session : is_session s.guard ≡ true = search rules in
    let filled = sym c.is_empty_blob.ensures ∙ c.if-not-is_empty_blob.true in
    let opened = subst (λ (t : State). is_open t c.args.owner ≡ true) (sym c.self.view_is) c.requires.open in
    let row = subst (λ (t : State). is_empty d ≡ false → has_row t.rows d ≡ true) (sym c.self.view_is) c.requires.there in
    let held = with_hold c.args.owner d s.holds in
    holds_change s c.hold.new.self c.self.inside.index.guards held (guards_are s c.self.inside.index.guards c.self.invariant.0 refl) c.in_ok-hold.ensures.ok
    (used_keeps s c.args.owner d held opened row (session_after s.guard c.args.owner d s.holds session filled) c.self.invariant.1)
