use Rattle.std.proofs.Common.{◌^◌, ◌∙◌, ap, sym}
use Rattle.live_calls.specs.Places.{waiting_at}
use Rattle.live_calls.proofs.TurnLaws.{plays_away}
use Rattle.live_calls.proofs.turn.resume.Goals as goal

pub returns-in-Away-clause-plays : goal.returns-in-Away-clause-plays
returns-in-Away-clause-plays g c =
    plays_away c.args.place c.args.happening (g.D.Door.view c.args.door.now) (g.K.Shelf.shelved c.args.shelf.now) (2 ^ 22) (record { is_in = c.requires.is_in; seated = c.left-turns.ensures.seated c.requires.is_in })
    (sym c.place.view_is ∙ ap (λ kept. waiting_at kept) c.in-Away.is)
