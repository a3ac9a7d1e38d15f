use Rattle.std.proofs.Common.{◌≡◌, refl, ap, ◌∙◌}
use Rattle.std.specs.Prelude.{Result, Ok, Err, OnErr}
use Rattle.std.proofs.lemmas.Option.{MatchOption-at_some}
use Rattle.h2_session.specs.Session.{Session}
use Rattle.grpc_calls.specs.Calls.{Calls, over_with}
use Rattle.grpc_calls.proofs.StayLaws.{goes_role, exhausted_is}
use Rattle.grpc_calls.proofs.calls.Calls.begin_with.Goals as goal

always_err : {T E : Type 0} (r : Result T E) (P : Type 0) → P → OnErr r P
always_err (Ok x) P h = tt
always_err (Err e) P h = h

pub returns-in_err-add_call-in-Ok-Some-clause-err :
    goal.returns-in_err-add_call-in-Ok-Some-clause-err
returns-in_err-add_call-in-Ok-Some-clause-err c =
    let s = MatchOption-at_some _ _ c.in-Ok-Some.stream c.in-Ok-Some.field-0-is c.in-Ok-Some.ensures.some in
    let role = goes_role _ c.self.inside.session c.begin.new.self s.1 refl ∙ ap (λ (x : Calls). x.session.part.role) c.self.view_is in
    always_err c.from_residual.result _ (c.in_err-add_call-in-Ok-Some.ensures.err ∙ ap (λ (s : Session). over_with s c.add_call.new.self.reader) (exhausted_is c.args.self.now.session c.begin.new.self role))

pub returns-in_err-add_call-in-Ok-Some-clause-role :
    goal.returns-in_err-add_call-in-Ok-Some-clause-role
returns-in_err-add_call-in-Ok-Some-clause-role c =
    let s = MatchOption-at_some _ _ c.in-Ok-Some.stream c.in-Ok-Some.field-0-is c.in-Ok-Some.ensures.some in
    c.add_call.ensures.role ∙ (goes_role _ c.self.inside.session c.begin.new.self s.1 refl ∙ ap (λ (x : Calls). x.session.part.role) c.self.view_is)

pub returns-in_ok-add_call-in-Ok-Some-clause-role :
    goal.returns-in_ok-add_call-in-Ok-Some-clause-role
returns-in_ok-add_call-in-Ok-Some-clause-role c =
    let s = MatchOption-at_some _ _ c.in-Ok-Some.stream c.in-Ok-Some.field-0-is c.in-Ok-Some.ensures.some in
    c.add_call.ensures.role ∙ (goes_role _ c.self.inside.session c.begin.new.self s.1 refl ∙ ap (λ (x : Calls). x.session.part.role) c.self.view_is)
