use Rattle.std.proofs.Common.{◌∙◌, sym}
use Rattle.blob_store.specs.Benched.{store_of}
use Rattle.casd_server.proofs.SittingLaws.{no_leases, closes, closed_none, same_reply, no_reply, bare_still}
use Rattle.casd_server.proofs.sitting.rise.Goals as goal

pub leave-requires-clause-none : goal.leave-requires-clause-none
leave-requires-clause-none g c =
    let owner = c.is_entered.ensures.owner (sym c.is_entered.ensures.value ∙ c.if-is_entered.true) in
    sym (c.is_entered.ensures.leases owner.0 (sym c.is_entered.ensures.value ∙ c.if-is_entered.true) owner.1)
    ∙ no_leases owner.0 (store_of c.choose.new.self) (bare_still c.args.bench.now c.choose.new.self c.args.seat c.choose.ensures c.requires.bare)

pub returns-then-is_entered-clause-closed : goal.returns-then-is_entered-clause-closed
returns-then-is_entered-clause-closed g c =
    let owner = c.is_entered.ensures.owner (sym c.is_entered.ensures.value ∙ c.if-is_entered.true) in
    (closes c.args.bench.now c.choose.new.self c.leave.new.self c.args.seat owner.0 c.choose.ensures c.requires.seat (sym c.is_entered.ensures.value ∙ c.if-is_entered.true) owner.1 c.look.ensures c.leave.ensures).closed

pub returns-then-is_entered-clause-reply : goal.returns-then-is_entered-clause-reply
returns-then-is_entered-clause-reply g c = λ number is_number.
    let owner = c.is_entered.ensures.owner (sym c.is_entered.ensures.value ∙ c.if-is_entered.true) in
    same_reply c.args.bench.now c.leave.new.self c.args.seat owner.0 number
    (closes c.args.bench.now c.choose.new.self c.leave.new.self c.args.seat owner.0 c.choose.ensures c.requires.seat (sym c.is_entered.ensures.value ∙ c.if-is_entered.true) owner.1 c.look.ensures c.leave.ensures)
    is_number

pub returns-then-is_entered-clause-bare : goal.returns-then-is_entered-clause-bare
returns-then-is_entered-clause-bare g c =
    let owner = c.is_entered.ensures.owner (sym c.is_entered.ensures.value ∙ c.if-is_entered.true) in
    (closes c.args.bench.now c.choose.new.self c.leave.new.self c.args.seat owner.0 c.choose.ensures c.requires.seat (sym c.is_entered.ensures.value ∙ c.if-is_entered.true) owner.1 c.look.ensures c.leave.ensures).bare
    ∙ c.requires.bare

pub returns-else-is_entered-clause-closed : goal.returns-else-is_entered-clause-closed
returns-else-is_entered-clause-closed g c = closed_none c.args.bench.now c.choose.new.self c.args.seat c.choose.ensures c.requires.seat (sym c.is_entered.ensures.value ∙ c.if-is_entered.false)

pub returns-else-is_entered-clause-reply : goal.returns-else-is_entered-clause-reply
returns-else-is_entered-clause-reply g c = λ number is_number. no_reply c.args.bench.now c.choose.new.self c.args.seat number c.choose.ensures c.requires.seat (sym c.is_entered.ensures.value ∙ c.if-is_entered.false) is_number
