use Rattle.std.proofs.Common.{◌^◌, ◌∙◌, ap, refl, None}
use Rattle.live_calls.specs.Turns.{one_more}
use Rattle.live_calls.specs.declared.place.Messages.{Messages}
use Rattle.live_calls.specs.Places.{Waiting, Unary}
use Rattle.live_calls.specs.declared.outcome.Outcome.TheVariants as outcomes
use Rattle.live_calls.proofs.TurnLaws.{plays_end, plays_refused}
use Rattle.live_calls.proofs.turn.resume_unary.Goals as goal

pub returns-in-Message : goal.returns-in-Message
returns-in-Message g c =
    rw c.in-Message.is
    (plays_end (outcomes.Rests (Unary c.args.method (one_more c.in-Message.message c.args.messages))) (outcomes.Rests c.unary.result) (g.D.Door.view c.args.door.now) (g.K.Shelf.shelved c.args.shelf.now) (2 ^ 22) (record { is_in = c.requires.is_in; seated = c.left-turns.ensures.seated c.requires.is_in })
    (ap (λ (w : Waiting). outcomes.Rests w) (c.unary.ensures ∙ ap (λ (ms : Messages). Unary c.args.method ms) c.one_more.ensures)))

pub returns-in-Cancelled : goal.returns-in-Cancelled
returns-in-Cancelled g c = rw c.in-Cancelled.is (plays_end outcomes.Vanishes outcomes.Vanishes (g.D.Door.view c.args.door.now) (g.K.Shelf.shelved c.args.shelf.now) (2 ^ 22) (record { is_in = c.requires.is_in; seated = c.left-turns.ensures.seated c.requires.is_in }) refl)

pub returns-in-Broken : goal.returns-in-Broken
returns-in-Broken g c =
    rw c.in-Broken.is (plays_end (outcomes.Finishes None c.in-Broken.status) c.refuse.result (g.D.Door.view c.args.door.now) (g.K.Shelf.shelved c.args.shelf.now) (2 ^ 22) (record { is_in = c.requires.is_in; seated = c.left-turns.ensures.seated c.requires.is_in }) c.refuse.ensures)

pub returns-in-Woken : goal.returns-in-Woken
returns-in-Woken g c =
    rw c.in-Woken.is
    (plays_end (outcomes.Rests (Unary c.args.method c.args.messages)) (outcomes.Rests c.unary-in-Woken.result) (g.D.Door.view c.args.door.now) (g.K.Shelf.shelved c.args.shelf.now) (2 ^ 22) (record { is_in = c.requires.is_in; seated = c.left-turns.ensures.seated c.requires.is_in })
    (ap (λ (w : Waiting). outcomes.Rests w) c.unary-in-Woken.ensures))
