use Rattle.std.proofs.Common.{ℕ}
use Rattle.store_core.specs.declared.event.Event.TheVariants as events
use Rattle.casd_server.specs.Record.{record_view}
use Rattle.casd_server.specs.Answer.{by_event, by_close}
use Rattle.casd_server.specs.Sitting.{seated_at}
use Rattle.casd_server.proofs.SeatedLemmas.{run_by-pass, run_by-usage, run_by-close, run-asked, run-batch, run-other}
use Rattle.casd_server.proofs.seats.Seats.run.Goals as goal

pub returns-in_ok-call-in-BatchUpdateBlobs : goal.returns-in_ok-call-in-BatchUpdateBlobs
returns-in_ok-call-in-BatchUpdateBlobs c =
    run-batch c.args.self.now (record_view c.args.asked.now) c.self.inside.bench c.sit.new.bench c.call.new.bench c.in_ok-call-in-BatchUpdateBlobs.field-0 c.deref.result.now
    c.self.view_is c.in_ok-sit.ensures.sits c.in-BatchUpdateBlobs.is c.call.ensures.seats c.deref.ensures.value c.in_ok-call-in-BatchUpdateBlobs.ensures.ok

pub returns-in-Pass : goal.returns-in-Pass
returns-in-Pass c =
    let now = seated_at c.sit.new.bench in
    let asked = record_view c.args.asked.now in
    run-asked c.args.self.now asked c.self.inside.bench c.sit.new.bench c.pass.new.bench (λ (owner : ℕ). by_event now owner events.Pass) c.pass.result
    c.self.view_is c.in_ok-sit.ensures.sits (λ (owner : ℕ). run_by-pass asked.word now asked.seat owner asked.messages c.in-Pass.is) c.pass.ensures.ok

pub returns-in-Usage : goal.returns-in-Usage
returns-in-Usage c =
    let now = seated_at c.sit.new.bench in
    let asked = record_view c.args.asked.now in
    run-asked c.args.self.now asked c.self.inside.bench c.sit.new.bench c.usage.new.bench (λ (owner : ℕ). by_event now owner events.Usage) c.usage.result
    c.self.view_is c.in_ok-sit.ensures.sits (λ (owner : ℕ). run_by-usage asked.word now asked.seat owner asked.messages c.in-Usage.is) c.usage.ensures.ok

pub returns-in-Close : goal.returns-in-Close
returns-in-Close c =
    let now = seated_at c.sit.new.bench in
    let asked = record_view c.args.asked.now in
    run-asked c.args.self.now asked c.self.inside.bench c.sit.new.bench c.close.new.bench (λ (owner : ℕ). by_close now asked.seat owner) c.close.result
    c.self.view_is c.in_ok-sit.ensures.sits (λ (owner : ℕ). run_by-close asked.word now asked.seat owner asked.messages c.in-Close.is) c.close.ensures.ok

pub returns-in_default : goal.returns-in_default
returns-in_default c =
    run-other c.args.self.now (record_view c.args.asked.now) c.self.inside.bench c.sit.new.bench c.not_built.result
    c.self.view_is c.in_ok-sit.ensures.sits c.not_built.ensures c.in_default.not-BatchUpdateBlobs c.in_default.not-Pass c.in_default.not-Usage c.in_default.not-Close
