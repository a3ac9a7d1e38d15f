use Rattle.std.proofs.Common.{length, sym, ap, subst, ◌∙◌}
use Rattle.store_core.specs.State.{State, has_row}
use Rattle.store_core.specs.Step.{touched_all}
use Rattle.blob_store.specs.Kept.{Stocked, told_in}
use Rattle.blob_store.specs.Loading.{Gathered, Sifted, Loads, IsLoaded}
use Rattle.blob_store.proofs.LoadOrder.{with_rows, same_bodies, loaded_is}
use Rattle.blob_store.proofs.LoadSifts.{sifted_after, loads_all, loads_restored}
use Rattle.blob_store.proofs.store.Store.load.Goals as goal

pub of_parts-requires : goal.of_parts-requires
of_parts-requires g c = λ d.
    let core_is = c.in_ok-core.ensures ∙ (λ i. with_rows c.args.marks.low c.args.marks.high c.args.marks.guard (touched_all (c.as_slice.ensures i) (c.deref.ensures.value i))) in
    same_bodies c.in_ok-saved.saved c.rows.inside.rows.items c.rows.inside.bodies.bodies c.rows.invariant.bodies_are d ∙ sym (ap (λ (s : State). has_row s.rows d) core_is)

pub returns-clause-restored : goal.returns-clause-restored
returns-clause-restored g c = λ saved found saved_is found_is.
    let core_is = c.in_ok-core.ensures ∙ (λ i. with_rows c.args.marks.low c.args.marks.high c.args.marks.guard (touched_all (c.as_slice.ensures i) (c.deref.ensures.value i))) in
    let old = g.K.Shelf.shelved c.args.shelf.now in
    let mid = g.K.Shelf.shelved c.saved.new.self in
    let new = g.K.Shelf.shelved c.find_all.new.shelf in
    let rows = c.rows.inside.rows.items in
    let sifted = sifted_after old mid new rows c.in_ok-saved.ensures.stays (subst (λ (x : Gathered). Sifted mid new x.rows) (sym c.rows.view_is) c.in_ok-rows.ensures.sifted) in
    ap (λ (x : Stocked). x.state) c.in_ok-of_parts.ensures
    ∙ core_is
    ∙ loads_restored old new rows c.rows.inside.used c.rows.inside.bodies.bodies c.in_ok-saved.saved saved found c.args.marks.low c.args.marks.high c.args.marks.guard c.rows.invariant sifted c.in_ok-rows.ensures.none c.in_ok-saved.ensures.distinct c.in_ok-saved.ensures.list
    saved_is found_is

pub returns-clause-loaded : goal.returns-clause-loaded
returns-clause-loaded g c =
    let core_is = c.in_ok-core.ensures ∙ (λ i. with_rows c.args.marks.low c.args.marks.high c.args.marks.guard (touched_all (c.as_slice.ensures i) (c.deref.ensures.value i))) in
    subst (λ (s : State). IsLoaded c.args.marks.low c.args.marks.high c.args.marks.guard s) (sym (ap (λ (x : Stocked). x.state) c.in_ok-of_parts.ensures ∙ core_is))
    (loaded_is c.in_ok-saved.saved c.args.marks.low c.args.marks.high c.args.marks.guard c.rows.inside.rows.items c.rows.inside.used c.rows.inside.bodies.bodies c.rows.invariant)

pub returns-clause-bodies : goal.returns-clause-bodies
returns-clause-bodies g c = λ d bytes is. c.rows.invariant.own d bytes (ap (λ (x : Stocked). told_in x.bodies d) (sym c.in_ok-of_parts.ensures) ∙ is)

pub returns-clause-shelf : goal.returns-clause-shelf
returns-clause-shelf g c =
    let core_is = c.in_ok-core.ensures ∙ (λ i. with_rows c.args.marks.low c.args.marks.high c.args.marks.guard (touched_all (c.as_slice.ensures i) (c.deref.ensures.value i))) in
    let old = g.K.Shelf.shelved c.args.shelf.now in
    let mid = g.K.Shelf.shelved c.saved.new.self in
    let new = g.K.Shelf.shelved c.find_all.new.shelf in
    let rows = c.rows.inside.rows.items in
    let sifted = sifted_after old mid new rows c.in_ok-saved.ensures.stays (subst (λ (x : Gathered). Sifted mid new x.rows) (sym c.rows.view_is) c.in_ok-rows.ensures.sifted) in
    subst (λ (s : State). Loads old new (length s.rows)) (sym (ap (λ (x : Stocked). x.state) c.in_ok-of_parts.ensures ∙ core_is)) (loads_all old new rows c.in_ok-saved.saved sifted c.in_ok-rows.ensures.none)
