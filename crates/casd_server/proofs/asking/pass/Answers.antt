use Rattle.store_core.specs.declared.event.Event.TheVariants as events
use Rattle.store_core.specs.declared.event.Reply.TheVariants as replies
use Rattle.blob_store.specs.Benched.{store_of}
use Rattle.casd_server.proofs.SittingLaws.{passes, stays, pass_leases}
use Rattle.casd_server.proofs.asking.pass.Goals as goal

pub returns-clause-ok : goal.returns-clause-ok
returns-clause-ok g c = λ owner is_owner. passes c.args.bench.now c.pass-removed.new.self owner c.pass-removed.result.removed c.pass-removed.result.used c.look.ensures c.pass-removed.ensures.made is_owner

pub returns-clause-seats : goal.returns-clause-seats
returns-clause-seats g c = stays c.args.bench.now c.pass-removed.new.self events.Pass (replies.Passed c.pass-removed.result.removed c.pass-removed.result.used) (pass_leases (store_of c.args.bench.now)) c.look.ensures c.pass-removed.ensures.made
