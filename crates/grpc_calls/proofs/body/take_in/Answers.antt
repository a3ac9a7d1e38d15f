use Rattle.std.proofs.Common.{◌≡◌, ◌++◌, ◌∷◌, [], ℕ, ◌+◌, ◌-◌, ◌≤◌, List, length, drop, take, subst, sym, ap, ◌∙◌, append_assoc, length-drop, arith}
use Rattle.std.proofs.lemmas.List.{take_all}
use Rattle.grpc_calls.specs.declared.unfinished.Step.{Step}
use Rattle.grpc_calls.specs.declared.unfinished.Step.TheVariants as steps
use Rattle.grpc_calls.specs.declared.event.CallEvent.{CallEvent}
use Rattle.grpc_calls.specs.declared.event.CallEvent.TheVariants as events
use Rattle.grpc_calls.specs.Unfinished.{Takes}
use Rattle.grpc_calls.proofs.MessageLaws.{rests_part, rests_whole, rests_fault, rests_end}
use Rattle.grpc_calls.proofs.body.take_in.Goals as goal

all_left : (at : ℕ) (bytes : List ℕ) → take (length bytes - at) (drop at bytes) ≡ drop at bytes
all_left at bytes = take_all (length bytes - at) (drop at bytes) (omega (arith, length-drop at bytes))

pub steps-preserved-in-Part : goal.steps-preserved-in-Part
steps-preserved-in-Part c =
    let i = c.steps.invariant in
    let k : Takes c.steps.text (drop c.steps.at c.args.bytes.now) c.take.new.self (steps.Part c.in-Part.count) =
    subst (λ (xs : List ℕ). Takes c.steps.text xs c.take.new.self (steps.Part c.in-Part.count)) (all_left c.steps.at c.args.bytes.now)
    (subst (λ (x : Step). Takes c.steps.text (take (length c.args.bytes.now - c.steps.at) (drop c.steps.at c.args.bytes.now)) c.take.new.self x) c.in-Part.is c.in_ok-count.ensures) in
    (i.0, i.1, omega (arith, k.1, i.2, length-drop c.steps.at c.args.bytes.now), rests_part c.args.stream c.steps.text c.args.bytes.now c.steps.at c.in-Part.count c.take.new.self i.0 _ i.3 k)

pub steps-preserved : goal.steps-preserved
steps-preserved c =
    let i = c.steps.invariant in
    let k : Takes c.steps.text (drop c.steps.at c.args.bytes.now) c.take.new.self (steps.Whole c.in-Whole.count c.in-Whole.bytes) =
    subst (λ (xs : List ℕ). Takes c.steps.text xs c.take.new.self (steps.Whole c.in-Whole.count c.in-Whole.bytes)) (all_left c.steps.at c.args.bytes.now)
    (subst (λ (x : Step). Takes c.steps.text (take (length c.args.bytes.now - c.steps.at) (drop c.steps.at c.args.bytes.now)) c.take.new.self x) c.in-Whole.is c.in_ok-count.ensures) in
    let e : CallEvent = events.Message c.args.stream c.in-Whole.bytes in (
      i.0 ++ e ∷ [],
      c.in_ok-push_back-in-Whole.ensures.items ∙ (ap (λ (es : List CallEvent). es ++ e ∷ []) i.1 ∙ append_assoc c.args.events.now.items i.0 (e ∷ [])),
      omega (arith, k.1, i.2, length-drop c.steps.at c.args.bytes.now),
      rests_whole c.args.stream c.steps.text c.args.bytes.now c.steps.at c.in-Whole.count c.in-Whole.bytes c.take.new.self i.0 _ i.3 k,
    )

pub returns : goal.returns
returns c =
    let i = c.steps.invariant in
    let e = rests_end c.args.stream c.steps.text (drop c.steps.at c.args.bytes.now) i.0 _ i.3 (omega (arith, length-drop c.steps.at c.args.bytes.now)) in
    (e.0, i.1 ∙ ap (λ (es : List CallEvent). c.args.events.now.items ++ es) e.1)
