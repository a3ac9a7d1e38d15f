use Rattle.std.proofs.Common.{◌∙◌, sym}
use Rattle.proto_wire.specs.declared.memory.OutOfMemory.{OutOfMemory}
use Rattle.casd_server.proofs.SittingLaws.{sits_in, sits_ok, sits_bare}
use Rattle.casd_server.proofs.sitting.sit.Goals as goal

pub returns-then-is_entered-clause-sits : goal.returns-then-is_entered-clause-sits
returns-then-is_entered-clause-sits g c =
    let owner = c.is_entered.ensures.owner (sym c.is_entered.ensures.value ∙ c.if-is_entered.true) in
    sits_in c.args.bench.now c.choose.new.self c.args.seat owner.0 c.choose.ensures c.requires.seat (sym c.is_entered.ensures.value ∙ c.if-is_entered.true) owner.1

pub returns-clause-sits : goal.returns-clause-sits
returns-clause-sits g c = sits_ok OutOfMemory c.args.bench.now c.choose.new.self c.enter-came.new.self c.args.seat c.enter-came.result c.choose.ensures c.requires.seat (sym c.is_entered.ensures.value ∙ c.if-is_entered.false) c.look.ensures c.enter-came.ensures.ok

pub returns-clause-bare : goal.returns-clause-bare
returns-clause-bare g c = sits_bare OutOfMemory c.args.bench.now c.choose.new.self c.enter-came.new.self c.args.seat c.enter-came.result c.choose.ensures c.requires.seat (sym c.is_entered.ensures.value ∙ c.if-is_entered.false) c.look.ensures c.enter-came.ensures.ok c.enter-came.ensures.err
