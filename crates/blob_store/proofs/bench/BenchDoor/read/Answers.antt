use Rattle.std.proofs.Common.{subst, ap, ◌∙◌}
use Rattle.store_core.specs.State.{State}
use Rattle.store_core.specs.declared.event.Event.TheVariants as events
use Rattle.store_core.specs.declared.event.Reply.{Reply}
use Rattle.store_core.specs.Step.{is_here}
use Rattle.blob_store.specs.Benched.{Benched, view_of, store_of}
use Rattle.blob_store.specs.View.{Makes}
use Rattle.blob_store.proofs.BenchCalls.{read_is}
use Rattle.blob_store.proofs.bench.BenchDoor.read.Goals as goal

pub returns-clause-ok : goal.returns-clause-ok
returns-clause-ok g c =
    subst (λ (r : Reply). Makes (view_of c.args.self.now) (view_of c.ask.new.self) (events.Read c.args.digest.now) r)
    (read_is c.in_ok-reading.reading (is_here (store_of c.args.self.now).rows c.args.digest.now) c.in_ok-ask.field-0
    (c.in_ok-reading.ensures.there ∙ ap (λ (t : State). is_here t.rows c.args.digest.now) c.self.invariant.at ∙ ap (λ (b : Benched). is_here (store_of b).rows c.args.digest.now) c.self.view_is)
    c.in_ok-ask.ensures.answer)
    c.in_ok-ask.ensures.made
