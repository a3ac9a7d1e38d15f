use Rattle.std.proofs.Common.{◌≡◌, false, is_some, Option, IfSome, List, ℕ, sym, ap, subst, ◌∙◌}
use Rattle.digest_types.specs.Digest.{digest_of}
use Rattle.store_core.specs.State.{State}
use Rattle.store_core.specs.Step.{is_here}
use Rattle.blob_store.specs.Kept.{Kept, told_in}
use Rattle.store_core.specs.State.{has_row}
use Rattle.blob_store.proofs.KeptRows.{empty_from_here}
use Rattle.blob_store.proofs.store.Store.reading.Goals as goal

pub returns-in-None-clause-begun : goal.returns-in-None-clause-begun
returns-in-None-clause-begun g c =
    let rows = c.self.inside.core.value.rows in
    let d = c.args.digest.now in
    let none : has_row rows d ≡ false = sym (c.self.invariant d) ∙ ap (λ (k : Kept). is_some (told_in k.bodies d)) (sym c.deref-2.ensures) ∙ ap is_some (sym c.in-None.ensures.body) in
    let empty = empty_from_here rows d (ap (λ (s : State). is_here s.rows d) (sym c.deref.ensures) ∙ sym c.is_here.ensures ∙ c.if-not-is_here.false) none in
    record {
      want = c.empty.ensures.want ∙ sym empty;
      going = c.empty.ensures.begun.0;
      begun = c.empty.ensures.begun.1;
      told = subst (λ (o : Option (List ℕ)). IfSome o (λ bytes. digest_of bytes ≡ d)) (sym c.empty.ensures.told) (sym empty);
    }
