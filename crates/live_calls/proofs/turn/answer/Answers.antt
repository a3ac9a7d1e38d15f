use Rattle.std.proofs.Common.{◌^◌}
use Rattle.cas_calls.specs.Statuses.{no_message, many_messages}
use Rattle.live_calls.proofs.TurnLaws.{plays_refused}
use Rattle.live_calls.proofs.turn.answer.Goals as goal

pub returns-in-Nothing : goal.returns-in-Nothing
returns-in-Nothing g c =
    rw c.in-Nothing.is (plays_refused no_message c.refuse.result c.no_message.result (g.D.Door.view c.args.door.now) (g.K.Shelf.shelved c.args.shelf.now) (2 ^ 22) (record { is_in = c.requires.is_in; seated = c.left-turns.ensures.seated c.requires.is_in }) c.refuse.ensures c.no_message.ensures)

pub returns-in-Many : goal.returns-in-Many
returns-in-Many g c =
    rw c.in-Many.is (plays_refused many_messages c.refuse-in-Many.result c.many_messages.result (g.D.Door.view c.args.door.now) (g.K.Shelf.shelved c.args.shelf.now) (2 ^ 22) (record { is_in = c.requires.is_in; seated = c.left-turns.ensures.seated c.requires.is_in }) c.refuse-in-Many.ensures c.many_messages.ensures)
