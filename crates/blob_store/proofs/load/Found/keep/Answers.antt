use Rattle.std.proofs.Common.{◌+◌, List, Some, sym, ap, subst, ◌∙◌}
use Rattle.std.specs.Prelude.{if◌then◌else◌}
use Rattle.digest_types.specs.Name.{HashAndSize}
use Rattle.store_core.specs.declared.state.Row.{Row}
use Rattle.store_core.specs.State.{same}
use Rattle.blob_store.specs.Kept.{Told, told_in}
use Rattle.blob_store.specs.Loading.{Gathered, IsGathered, is_new_row}
use Rattle.blob_store.proofs.LoadRows.{gathered_more, told_digest}
use Rattle.blob_store.proofs.load.Found.keep.Goals as goal

pub invariant_of-self-2 : goal.invariant_of-self-2
invariant_of-self-2 g c =
    let i = c.self.inside in
    let blob = c.into_parts-body.result in
    let kept = g.K.Shelf.kept blob.0 in
    let new = ap (λ (x : Gathered). is_new_row x.rows blob.1) c.self.view_is ∙ sym c.takes.ensures ∙ c.if-not-takes.false in
    subst (λ (rows : List Row). IsGathered rows (i.used + c.digest.inside.size) c.add.new.self.bodies) (sym c.in_ok-push.ensures.items)
    (gathered_more i.rows.items i.used (i.used + c.digest.inside.size) i.bodies.bodies c.add.new.self.bodies blob.1 blob.2 kept c.self.invariant new (told_digest kept blob.1 blob.2 c.into_parts-body.ensures.told)
    (ap (λ (x : HashAndSize). i.used + x.size) c.digest.view_is)
    (λ e. c.add.ensures e ∙ ap (λ (b : Told). if same blob.1 e then Some kept else told_in b e) c.reserve.ensures.same))
