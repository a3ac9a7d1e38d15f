use Rattle.std.proofs.Common.{◌^◌, ap, refl, None}
use Rattle.live_calls.specs.declared.outcome.Outcome.TheVariants as outcomes
use Rattle.live_calls.specs.Places.{Waiting, Reading}
use Rattle.live_calls.proofs.TurnLaws.{plays_end}
use Rattle.live_calls.proofs.turn.resume_reading.Goals as goal

pub returns-in-Message-clause-plays : goal.returns-in-Message-clause-plays
returns-in-Message-clause-plays g c =
    rw c.in-Message.is
    (plays_end (outcomes.Rests (Reading c.args.call)) (outcomes.Rests c.reading.result) (g.D.Door.view c.args.door.now) (g.K.Shelf.shelved c.args.shelf.now) (2 ^ 22) (record { is_in = c.requires.is_in; seated = c.left-turns.ensures.seated c.requires.is_in }) (ap (λ (p : Waiting). outcomes.Rests p) c.reading.ensures))

pub returns-in-HalfClosed-clause-plays : goal.returns-in-HalfClosed-clause-plays
returns-in-HalfClosed-clause-plays g c =
    rw c.in-HalfClosed.is
    (plays_end (outcomes.Rests (Reading c.args.call)) (outcomes.Rests c.reading-in-HalfClosed.result) (g.D.Door.view c.args.door.now) (g.K.Shelf.shelved c.args.shelf.now) (2 ^ 22) (record { is_in = c.requires.is_in; seated = c.left-turns.ensures.seated c.requires.is_in }) (ap (λ (p : Waiting). outcomes.Rests p) c.reading-in-HalfClosed.ensures))

pub returns-in-Cancelled-clause-plays : goal.returns-in-Cancelled-clause-plays
returns-in-Cancelled-clause-plays g c = rw c.in-Cancelled.is (plays_end outcomes.Vanishes outcomes.Vanishes (g.D.Door.view c.args.door.now) (g.K.Shelf.shelved c.args.shelf.now) (2 ^ 22) (record { is_in = c.requires.is_in; seated = c.left-turns.ensures.seated c.requires.is_in }) refl)

pub returns-in-Broken-clause-plays : goal.returns-in-Broken-clause-plays
returns-in-Broken-clause-plays g c = rw c.in-Broken.is (plays_end (outcomes.Finishes None c.in-Broken.status) c.refuse.result (g.D.Door.view c.args.door.now) (g.K.Shelf.shelved c.args.shelf.now) (2 ^ 22) (record { is_in = c.requires.is_in; seated = c.left-turns.ensures.seated c.requires.is_in }) c.refuse.ensures)
