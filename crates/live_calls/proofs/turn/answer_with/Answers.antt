use Rattle.std.proofs.Common.{◌^◌}
use Rattle.live_calls.specs.Turns.{capable_turn}
use Rattle.live_calls.proofs.TurnLaws.{plays_ends}
use Rattle.live_calls.proofs.turn.answer_with.Goals as goal

pub returns-in-GetCapabilities : goal.returns-in-GetCapabilities
returns-in-GetCapabilities g c =
    rw c.in-GetCapabilities.is (plays_ends (capable_turn c.args.message.now) c.answer-in-GetCapabilities.result (g.D.Door.view c.args.door.now) (g.K.Shelf.shelved c.args.shelf.now) (2 ^ 22) (record { is_in = c.requires.is_in; seated = c.left-turns.ensures.seated c.requires.is_in }) c.answer-in-GetCapabilities.ensures)

pub returns-in-FindMissingBlobs : goal.returns-in-FindMissingBlobs
returns-in-FindMissingBlobs g c = rw c.in-FindMissingBlobs.is (c.answer.ensures (g.K.Shelf.shelved c.args.shelf.now))

pub returns-in-QueryWriteStatus : goal.returns-in-QueryWriteStatus
returns-in-QueryWriteStatus g c = rw c.in-QueryWriteStatus.is (c.answer-in-QueryWriteStatus.ensures (g.K.Shelf.shelved c.args.shelf.now))
