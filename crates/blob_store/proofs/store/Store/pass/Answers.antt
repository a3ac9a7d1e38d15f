use Rattle.std.proofs.Common.{◌≡◌, ◌≤◌, ℕ, length, refl, sym, ap, subst, ◌∙◌, arith}
use Rattle.store_core.specs.declared.event.Reply.TheVariants as replies
use Rattle.store_core.specs.Pass.{unguarded}
use Rattle.store_core.specs.State.{State, Distinct, used}
use Rattle.store_core.specs.Step.{is_open, passed}
use Rattle.indexed_core.specs.Removal.{removed}
use Rattle.blob_store.specs.Applied.{passed_gives_up}
use Rattle.blob_store.specs.Kept.{Stocked, KeepsBodies}
use Rattle.blob_store.specs.Shelves.{discarding}
use Rattle.blob_store.proofs.KeptBodies.{one_more}
use Rattle.blob_store.proofs.KeptRows.{removed_none, pass_step, all_keep, keep_on}
use Rattle.blob_store.proofs.store.Store.pass.Goals as goal

pub rows-init : goal.rows-init
rows-init g c =
    let s : Stocked = record { state = c.self.inside.core.value; bodies = c.self.inside.bodies.value.bodies } in
    record {
      core = removed_none _;
      bodies = subst (λ (x : Stocked). KeepsBodies x x) c.self.view_is (all_keep s s c.self.invariant refl);
      passed = refl;
      shelf = refl;
    }

pub remove_next-requires-clause-there : goal.remove_next-requires-clause-there
remove_next-requires-clause-there g c =
    let distinct = subst (λ (s : State). Distinct s.rows) (c.deref-2.ensures ∙ ap (λ (x : Stocked). x.state) c.self.view_is) c.to_go-removed.ensures.distinct in
    let within = subst (λ (s : State). c.to_go-removed.result ≤ length (unguarded s)) (c.deref-2.ensures ∙ ap (λ (x : Stocked). x.state) c.self.view_is) c.to_go-removed.ensures.within in
    (c.args.self.now.state, c.rows.counter, distinct, c.rows.invariant.core, omega (arith, within, c.rows-test.true))

pub rows-preserved : goal.rows-preserved
rows-preserved g c =
    let distinct = subst (λ (s : State). Distinct s.rows) (c.deref-2.ensures ∙ ap (λ (x : Stocked). x.state) c.self.view_is) c.to_go-removed.ensures.distinct in
    let within = subst (λ (s : State). c.to_go-removed.result ≤ length (unguarded s)) (c.deref-2.ensures ∙ ap (λ (x : Stocked). x.state) c.self.view_is) c.to_go-removed.ensures.within in
    record {
      core = c.remove_next.ensures.next c.args.self.now.state c.rows.counter distinct c.rows.invariant.core (omega (arith, within, c.rows-test.true));
      bodies = keep_on c.args.self.now c.rows.self c.remove_next.new.self c.remove_next.ensures.fewer c.rows.invariant.bodies c.remove_next.ensures.bodies;
      passed = c.remove_next.ensures.passed;
      shelf = one_more c.rows.counter (g.K.Shelf.shelved c.rows.shelf) (g.K.Shelf.shelved c.remove_next.new.shelf) (g.K.Shelf.shelved c.args.shelf.now) c.remove_next.ensures.shelf c.rows.invariant.shelf;
    }

pub returns-clause-step : goal.returns-clause-step
returns-clause-step g c =
    let n = c.to_go-removed.result in
    let all : c.rows.counter ≡ n = omega (arith, c.rows-test.false, c.rows.auto.counter-end) in
    let opened = ap (λ (s : State). is_open s c.args.owner) (sym (c.deref.ensures ∙ ap (λ (x : Stocked). x.state) c.self.view_is)) ∙ sym c.is_open.ensures ∙ c.if-not-is_open.false in
    let is = subst (λ (s : State). passed s ≡ (replies.Passed n (used (removed s n)), removed s n)) (c.deref-2.ensures ∙ ap (λ (x : Stocked). x.state) c.self.view_is) c.to_go-removed.ensures.pass in
    pass_step c.args.self.now.state c.rows.self.state c.args.owner n c.used.result opened is (c.rows.invariant.core ∙ ap (removed c.args.self.now.state) all) (c.used.ensures ∙ ap used (c.deref-3.ensures ∙ ap (λ (x : Stocked). x.state) c.self-2.view_is))

pub returns-clause-shelf : goal.returns-clause-shelf
unfolding passed_gives_up
returns-clause-shelf g c =
    let all : c.rows.counter ≡ c.to_go-removed.result = omega (arith, c.rows-test.false, c.rows.auto.counter-end) in
    c.rows.invariant.shelf ∙ ap (λ (n : ℕ). discarding n (g.K.Shelf.shelved c.args.shelf.now)) all
