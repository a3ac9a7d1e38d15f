use Rattle.std.proofs.Common.{◌≡◌, ap, sym, subst, ◌∙◌}
use Rattle.std.specs.Prelude.{Err, None, Some}
use Rattle.h2_session.specs.declared.fault.ConnFault.{ConnFault}
use Rattle.grpc_calls.specs.Calls.{Calls, GivesFrame}
use Rattle.grpc_calls.proofs.StepLaws.{gives_frame, refused_frame, refused_role}
use Rattle.grpc_calls.proofs.calls.Calls.read_frame.Goals as goal

pub invariant_of-self-in-Err : goal.invariant_of-self-in-Err
invariant_of-self-in-Err c = (
  c.next_frame.ensures.bytes,
  λ none. absurd (let both : Some c.refuse-fault.result ≡ None = sym c.refuse-fault.ensures.fault ∙ none in cc),
)

pub returns-in-Ok-clause-gives : goal.returns-in-Ok-clause-gives
returns-in-Ok-clause-gives c =
    let before : Calls = record { reader = c.self.inside.reader; session = c.self.inside.session; calls = c.self.inside.calls.items; pending = c.self.inside.pending.items } in
    let P : Calls → Type 0 = λ (x : Calls). GivesFrame x c.on_next.new.self c.on_next.result in
    subst P c.self.view_is (gives_frame before c.on_next.new.self c.next_frame.new.reader c.in-Ok.next c.on_next.result c.in-Ok.ensures.exact c.on_next.ensures.reader c.on_next.ensures.gives)

pub returns-in-Err-clause-gives : goal.returns-in-Err-clause-gives
returns-in-Err-clause-gives c =
    let before : Calls = record { reader = c.self.inside.reader; session = c.self.inside.session; calls = c.self.inside.calls.items; pending = c.self.inside.pending.items } in
    let P : Calls → Type 0 = λ (x : Calls). GivesFrame x c.drop_calls.new.self (Err c.refuse-fault.result) in
    subst P c.self.view_is (refused_frame before c.drop_calls.new.self c.next_frame.new.reader c.in-Err.fault c.refuse-fault.result c.refuse-fault.new.session c.in-Err.ensures.exact.0 c.in-Err.ensures.exact.1
    c.refuse-fault.ensures.offence c.refuse-fault.ensures.memory c.drop_calls.ensures)

pub returns-in-Err-clause-role : goal.returns-in-Err-clause-role
returns-in-Err-clause-role c =
    ap (λ (x : Calls). x.session.part.role) c.drop_calls.ensures
    ∙ (refused_role c.self.inside.session c.refuse-fault.new.session c.in-Err.fault c.refuse-fault.result c.refuse-fault.ensures.offence c.refuse-fault.ensures.memory ∙ ap (λ (x : Calls). x.session.part.role) c.self.view_is)
