use Rattle.std.proofs.Common.{◌≡◌, refl, false, true, sym, ap, ◌∙◌, subst}
use Rattle.grpc_calls.specs.Calls.{Calls}
use Rattle.grpc_calls.specs.Streams.{is_fresh}
use Rattle.grpc_calls.proofs.ReplyLaws.{live_sound, opened_before, opened_now, says_sound, if_ok}
use Rattle.grpc_calls.proofs.calls.Calls.open.Goals as goal

pub send-requires-clause-sound : goal.send-requires-clause-sound
send-requires-clause-sound c = live_sound c.args.stream c.args.self.now c.requires.live

pub give_up-requires : goal.give_up-requires
give_up-requires c = record { sound = live_sound c.args.stream c.args.self.now c.requires.live }

pub returns-then-not-is_fresh-clause-sound : goal.returns-then-not-is_fresh-clause-sound
returns-then-not-is_fresh-clause-sound c = live_sound c.args.stream c.args.self.now c.requires.live

pub returns-then-not-is_fresh-clause-ok : goal.returns-then-not-is_fresh-clause-ok
returns-then-not-is_fresh-clause-ok c =
    opened_before c.args.stream c.args.self.now c.requires.live (ap (λ (x : Calls). is_fresh c.args.stream x.session.part) (sym c.self.view_is) ∙ (sym c.is_fresh.ensures ∙ c.if-not-is_fresh.true))

pub returns-in-Ok-clause-ok : goal.returns-in-Ok-clause-ok
returns-in-Ok-clause-ok c =
    if_ok c.send.result _ _ (λ s. opened_now c.args.stream c.in-Ok.headers c.args.self.now c.send.new.self (ap (λ (x : Calls). is_fresh c.args.stream x.session.part) (sym c.self.view_is) ∙ (sym c.is_fresh.ensures ∙ c.if-not-is_fresh.false)) c.in-Ok.ensures.value s) c.send.ensures.ok

pub returns-in-Ok-clause-sound : goal.returns-in-Ok-clause-sound
returns-in-Ok-clause-sound c =
    if_ok c.send.result _ _ (λ s. says_sound c.args.stream _ c.args.self.now c.send.new.self (live_sound c.args.stream c.args.self.now c.requires.live) s) c.send.ensures.ok
