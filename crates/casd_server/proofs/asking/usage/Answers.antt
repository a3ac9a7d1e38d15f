use Rattle.store_core.specs.declared.event.Event.TheVariants as events
use Rattle.store_core.specs.declared.event.Reply.TheVariants as replies
use Rattle.blob_store.specs.Benched.{store_of}
use Rattle.casd_server.proofs.SittingLaws.{uses, stays, usage_leases}
use Rattle.casd_server.proofs.asking.usage.Goals as goal

pub returns-clause-ok : goal.returns-clause-ok
returns-clause-ok g c = λ owner is_owner. uses c.args.bench.now c.usage-used.new.self owner c.usage-used.result c.look.ensures c.usage-used.ensures is_owner

pub returns-clause-seats : goal.returns-clause-seats
returns-clause-seats g c = stays c.args.bench.now c.usage-used.new.self events.Usage (replies.Used c.usage-used.result) (usage_leases (store_of c.args.bench.now)) c.look.ensures c.usage-used.ensures
