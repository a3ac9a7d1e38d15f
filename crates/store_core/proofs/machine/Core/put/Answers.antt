use Rattle.std.proofs.Common.{◌≡◌, None, sym, subst}
use Rattle.std.specs.Prelude.{IfOk}
use Rattle.store_core.specs.declared.event.Reply.{Reply}
use Rattle.store_core.specs.State.{State, row_of}
use Rattle.store_core.specs.Step.{holding}
use Rattle.store_core.proofs.Changes.{put_new_is}
use Rattle.store_core.proofs.UseOrder.{no_row_at}
use Rattle.store_core.proofs.machine.Core.put.Goals as goal

pub put_new-requires-clause-new : goal.put_new-requires-clause-new
put_new-requires-clause-new c =
    let nowhere = rw c.deref.ensures.value at c.in-None.ensures in
    subst (λ (s : State). row_of c.args.digest.now s.rows ≡ None) c.self.view_is (no_row_at c.args.digest.now c.self.inside.rows.items (sym nowhere))

pub returns-in-None-clause-ok : goal.returns-in-None-clause-ok
returns-in-None-clause-ok c =
    let nowhere = rw c.deref.ensures.value at c.in-None.ensures in
    let absent = subst (λ (s : State). row_of c.args.digest.now s.rows ≡ None) c.self.view_is (no_row_at c.args.digest.now c.self.inside.rows.items (sym nowhere)) in
    let same_put = put_new_is c.args.self.now c.args.digest.now c.args.edges.now (sym c.if-is_empty_blob.ensures) absent in
    subst (λ (x : Reply × State). IfOk c.put_new.result (λ reply. (reply, c.put_new.new.self) ≡ holding c.args.owner c.args.digest.now x)) same_put c.put_new.ensures.ok
