use Rattle.std.proofs.Common.{◌≡◌, ℕ, ap, sym, subst, ◌∙◌}
use Rattle.std.specs.Prelude.{Err, OnOk, IfErr}
use Rattle.h2_session.specs.declared.fault.ConnFault.{ConnFault}
use Rattle.grpc_calls.specs.Calls.{Calls, Hears, OffendsOr}
use Rattle.grpc_calls.proofs.StepLaws.{heard_goes_role, hears_by, if_ok, if_err, memory_or, offends_by, offends_role}
use Rattle.grpc_calls.proofs.calls.Calls.on_frame.Goals as goal

pub returns-in-Ok-clause-ok : goal.returns-in-Ok-clause-ok
returns-in-Ok-clause-ok c =
    let sound = ap (λ (x : Calls). x.session.fault) c.self.view_is ∙ c.requires.sound in
    let P : Calls → Type 0 = λ (x : Calls). OnOk c.heed.result (Hears x.session x.calls c.args.frame c.heed.new.self) in
    subst P c.self.view_is (if_ok c.heed.result _ _ (λ h. hears_by c.self.inside.session c.args.frame c.in-Ok.event _ c.heed.new.self (c.in-Ok.ensures.taken sound) (c.in-Ok.ensures.goes sound) h) c.heed.ensures.ok)

pub returns-in-Ok-clause-err : goal.returns-in-Ok-clause-err
returns-in-Ok-clause-err c =
    let sound = ap (λ (x : Calls). x.session.fault) c.self.view_is ∙ c.requires.sound in
    let role = heard_goes_role c.self.inside.session c.on_frame.new.self c.args.frame (c.in-Ok.ensures.goes sound) ∙ ap (λ (x : Calls). x.session.part.role) c.self.view_is in
    if_err c.heed.result _ _ (λ e h. memory_or c.args.at c.args.frame c.args.self.now c.heed.new.self c.on_frame.new.self e role h) c.heed.ensures.err

pub returns-in-Ok-clause-role : goal.returns-in-Ok-clause-role
returns-in-Ok-clause-role c =
    let sound = ap (λ (x : Calls). x.session.fault) c.self.view_is ∙ c.requires.sound in
    c.heed.ensures.role ∙ (heard_goes_role c.self.inside.session c.on_frame.new.self c.args.frame (c.in-Ok.ensures.goes sound) ∙ ap (λ (x : Calls). x.session.part.role) c.self.view_is)

pub returns-in-Err-clause-err : goal.returns-in-Err-clause-err
returns-in-Err-clause-err c =
    let sound = ap (λ (x : Calls). x.session.fault) c.self.view_is ∙ c.requires.sound in
    let before : Calls = record { reader = c.self.inside.reader; session = c.self.inside.session; calls = c.self.inside.calls.items; pending = c.self.inside.pending.items } in
    let P : Calls → Type 0 = λ (x : Calls). OffendsOr c.args.at c.args.frame x c.drop_calls.new.self c.in-Err.fault in
    subst P c.self.view_is (offends_by c.args.at c.args.frame before c.drop_calls.new.self c.in-Err.fault c.on_frame.new.self
    (λ code place e. c.in-Err.ensures.offence code place sound (ap (λ (x : ConnFault). Err x) e)) (λ e. c.in-Err.ensures.memory sound (ap (λ (x : ConnFault). Err x) e)) c.drop_calls.ensures)

pub returns-in-Err-clause-role : goal.returns-in-Err-clause-role
returns-in-Err-clause-role c =
    let sound = ap (λ (x : Calls). x.session.fault) c.self.view_is ∙ c.requires.sound in
    let before : Calls = record { reader = c.self.inside.reader; session = c.self.inside.session; calls = c.self.inside.calls.items; pending = c.self.inside.pending.items } in
    let P : Calls → Type 0 = λ (x : Calls). OffendsOr c.args.at c.args.frame x c.drop_calls.new.self c.in-Err.fault in
    offends_role c.args.at c.args.frame c.args.self.now c.drop_calls.new.self c.in-Err.fault
    (subst P c.self.view_is (offends_by c.args.at c.args.frame before c.drop_calls.new.self c.in-Err.fault c.on_frame.new.self
    (λ code place e. c.in-Err.ensures.offence code place sound (ap (λ (x : ConnFault). Err x) e)) (λ e. c.in-Err.ensures.memory sound (ap (λ (x : ConnFault). Err x) e)) c.drop_calls.ensures))
