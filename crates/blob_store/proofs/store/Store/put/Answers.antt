use Rattle.std.proofs.Common.{◌≡◌, length, None, sym, ap, subst, ◌∙◌}
use Rattle.std.specs.Prelude.{if◌then◌else◌}
use Rattle.store_core.specs.State.{State, is_among}
use Rattle.blob_store.specs.Bodies.{Sealed}
use Rattle.blob_store.specs.Kept.{Kept, Stocked, told_in, AreBodiesOf, PutsBody}
use Rattle.digest_types.specs.Name.{HashAndSize}
use Rattle.blob_store.proofs.KeptRows.{put_told, left_new, left_there, put_bodies, put_keeps, put_counted}
use Rattle.blob_store.proofs.store.Store.put.Goals as goal

pub keep-requires-clause-new : goal.keep-requires-clause-new
keep-requires-clause-new g c = λ adds.
    let are = subst (λ (s : State). AreBodiesOf s.rows c.self.inside.bodies.value.bodies) (sym c.deref_mut-2.ensures.value) c.self.invariant in
    let left : (d : HashAndSize) → told_in c.deref_mut-in-Ok-2.result.now.bodies d ≡ (if is_among c.in-Ok.gone d then None else told_in c.self.inside.bodies.value.bodies d) = λ d.
    ap (λ (k : Kept). told_in k.bodies d) c.deref_mut-in-Ok-2.ensures.value
    ∙ c.give_up_all.ensures.bodies d
    ∙ ap (λ (k : Kept). if is_among c.as_slice.result.now d then None else told_in k.bodies d) c.deref_mut-in-Ok.ensures.value
    ∙ (λ i. if is_among (c.as_slice.ensures i) d then None else told_in ((c.reserve.ensures.same ∙ ap (λ (k : Kept). k.bodies) c.deref_mut.ensures.value) i) d)
    in
    let told = put_told c.deref_mut-2.result.now c.put.new.self c.args.owner c.into_parts-body.result.1 c.into_parts-body.result.2 c.in-Ok.reply c.in-Ok.ensures.ok in
    left_new c.deref_mut-2.result.now.rows c.self.inside.bodies.value.bodies c.deref_mut-in-Ok-2.result.now.bodies c.in-Ok.gone are left c.into_parts-body.result.1 (told.0 adds)

pub keep-requires-clause-there : goal.keep-requires-clause-there
keep-requires-clause-there g c =
    let are = subst (λ (s : State). AreBodiesOf s.rows c.self.inside.bodies.value.bodies) (sym c.deref_mut-2.ensures.value) c.self.invariant in
    let left : (d : HashAndSize) → told_in c.deref_mut-in-Ok-2.result.now.bodies d ≡ (if is_among c.in-Ok.gone d then None else told_in c.self.inside.bodies.value.bodies d) = λ d.
    ap (λ (k : Kept). told_in k.bodies d) c.deref_mut-in-Ok-2.ensures.value
    ∙ c.give_up_all.ensures.bodies d
    ∙ ap (λ (k : Kept). if is_among c.as_slice.result.now d then None else told_in k.bodies d) c.deref_mut-in-Ok.ensures.value
    ∙ (λ i. if is_among (c.as_slice.ensures i) d then None else told_in ((c.reserve.ensures.same ∙ ap (λ (k : Kept). k.bodies) c.deref_mut.ensures.value) i) d)
    in
    let told = put_told c.deref_mut-2.result.now c.put.new.self c.args.owner c.into_parts-body.result.1 c.into_parts-body.result.2 c.in-Ok.reply c.in-Ok.ensures.ok in
    left_there c.deref_mut-2.result.now.rows c.self.inside.bodies.value.bodies c.deref_mut-in-Ok-2.result.now.bodies c.in-Ok.gone are left c.in-Ok.reply c.into_parts-body.result.1 c.in-Ok.ensures.rows.count told.1

pub invariant_of-self-in-Ok : goal.invariant_of-self-in-Ok
invariant_of-self-in-Ok g c =
    let are = subst (λ (s : State). AreBodiesOf s.rows c.self.inside.bodies.value.bodies) (sym c.deref_mut-2.ensures.value) c.self.invariant in
    let left : (d : HashAndSize) → told_in c.deref_mut-in-Ok-2.result.now.bodies d ≡ (if is_among c.in-Ok.gone d then None else told_in c.self.inside.bodies.value.bodies d) = λ d.
    ap (λ (k : Kept). told_in k.bodies d) c.deref_mut-in-Ok-2.ensures.value
    ∙ c.give_up_all.ensures.bodies d
    ∙ ap (λ (k : Kept). if is_among c.as_slice.result.now d then None else told_in k.bodies d) c.deref_mut-in-Ok.ensures.value
    ∙ (λ i. if is_among (c.as_slice.ensures i) d then None else told_in ((c.reserve.ensures.same ∙ ap (λ (k : Kept). k.bodies) c.deref_mut.ensures.value) i) d)
    in
    let told = put_told c.deref_mut-2.result.now c.put.new.self c.args.owner c.into_parts-body.result.1 c.into_parts-body.result.2 c.in-Ok.reply c.in-Ok.ensures.ok in
    put_bodies c.deref_mut-2.result.now.rows c.self.inside.bodies.value.bodies c.deref_mut-in-Ok-2.result.now.bodies c.in-Ok.gone are left
    (record { digest = c.into_parts-body.result.1; edges = c.into_parts-body.result.2; told = g.K.Shelf.kept c.into_parts-body.result.0 })
    c.in-Ok.reply c.put.new.self.rows c.keep.new.bodies.bodies c.in-Ok.ensures.rows told.1 c.keep.ensures.bodies

pub returns-in-Ok-clause-bodies : goal.returns-in-Ok-clause-bodies
returns-in-Ok-clause-bodies g c =
    let are = subst (λ (s : State). AreBodiesOf s.rows c.self.inside.bodies.value.bodies) (sym c.deref_mut-2.ensures.value) c.self.invariant in
    let left : (d : HashAndSize) → told_in c.deref_mut-in-Ok-2.result.now.bodies d ≡ (if is_among c.in-Ok.gone d then None else told_in c.self.inside.bodies.value.bodies d) = λ d.
    ap (λ (k : Kept). told_in k.bodies d) c.deref_mut-in-Ok-2.ensures.value
    ∙ c.give_up_all.ensures.bodies d
    ∙ ap (λ (k : Kept). if is_among c.as_slice.result.now d then None else told_in k.bodies d) c.deref_mut-in-Ok.ensures.value
    ∙ (λ i. if is_among (c.as_slice.ensures i) d then None else told_in ((c.reserve.ensures.same ∙ ap (λ (k : Kept). k.bodies) c.deref_mut.ensures.value) i) d)
    in
    let told = put_told c.deref_mut-2.result.now c.put.new.self c.args.owner c.into_parts-body.result.1 c.into_parts-body.result.2 c.in-Ok.reply c.in-Ok.ensures.ok in
    let old : Stocked = record { state = c.self.inside.core.value; bodies = c.self.inside.bodies.value.bodies } in
    let new : Stocked = record { state = c.put.new.self; bodies = c.keep.new.bodies.bodies } in
    let keeps : PutsBody (record { digest = c.into_parts-body.result.1; edges = c.into_parts-body.result.2; told = g.K.Shelf.kept c.into_parts-body.result.0 }) c.in-Ok.reply old new =
    put_keeps c.deref_mut-2.result.now.rows c.self.inside.bodies.value.bodies c.deref_mut-in-Ok-2.result.now.bodies c.in-Ok.gone are left
    (record { digest = c.into_parts-body.result.1; edges = c.into_parts-body.result.2; told = g.K.Shelf.kept c.into_parts-body.result.0 })
    c.in-Ok.reply c.put.new.self.rows c.keep.new.bodies.bodies c.in-Ok.ensures.rows told.1 c.keep.ensures.bodies
    in
    subst (λ (blob : Sealed). PutsBody blob c.in-Ok.reply c.args.self.now new) (sym c.into_parts-body.ensures.parts) (subst (λ (s : Stocked). PutsBody (record { digest = c.into_parts-body.result.1; edges = c.into_parts-body.result.2; told = g.K.Shelf.kept c.into_parts-body.result.0 }) c.in-Ok.reply s new) c.self.view_is keeps)

pub returns-in-Ok-clause-shelf : goal.returns-in-Ok-clause-shelf
returns-in-Ok-clause-shelf g c =
    put_counted c.in-Ok.reply (length c.as_slice.result.now) (g.K.Shelf.shelved c.args.shelf.now) (g.K.Shelf.shelved c.give_up_all.new.shelf) (g.K.Shelf.shelved c.keep.new.shelf)
    (ap (length {A = HashAndSize}) c.as_slice.ensures ∙ c.in-Ok.ensures.rows.count) c.give_up_all.ensures.shelf c.keep.ensures.shelf
