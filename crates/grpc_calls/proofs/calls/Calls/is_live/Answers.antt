use Rattle.std.proofs.Common.{◌≡◌, [], sym, ap, subst, ◌∙◌}
use Rattle.std.specs.Prelude.{is_some}
use Rattle.grpc_calls.specs.Calls.{Calls, may_reply}
use Rattle.grpc_calls.proofs.ReplyLaws.{not_live, live_server, live_client}
use Rattle.grpc_calls.proofs.calls.Calls.is_live.Goals as goal

pub returns-then-is_some : goal.returns-then-is_some
returns-then-is_some c =
    let same = ap (λ (x : Calls). x.session.fault) c.self.view_is in
    not_live c.args.stream c.args.self.now (ap is_some (sym same ∙ sym c.fault.ensures) ∙ (sym c.is_some.ensures ∙ c.if-is_some.true))

pub returns-then-is_client : goal.returns-then-is_client
returns-then-is_client c =
    let P : Calls → Type 0 = λ (x : Calls). c.may_send.result ≡ may_reply c.args.stream x in
    subst P c.self.view_is (live_client c.args.stream _ c.new.result c.may_send.result (ap is_some (sym c.fault.ensures) ∙ (sym c.is_some.ensures ∙ c.if-is_some.false))
    (c.is_client.ensures.client c.if-is_client.true) (λ h. (c.may_send.ensures.yes h).1) c.may_send.ensures.no)

pub returns : goal.returns
returns c =
    let P : Calls → Type 0 = λ (x : Calls). c.is_live.result ≡ may_reply c.args.stream x in
    subst P c.self.view_is (c.is_live.ensures ∙ live_server c.args.stream _ (ap is_some (sym c.fault.ensures) ∙ (sym c.is_some.ensures ∙ c.if-is_some.false)) (c.is_client.ensures.server c.if-is_client.false))
