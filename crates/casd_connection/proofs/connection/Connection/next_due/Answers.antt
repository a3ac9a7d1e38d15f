use Rattle.std.proofs.Common.{◌≡◌, ◌≤◌, ◌<◌, ◌+◌, ◌∙◌, List, length, drop, Option, Some, None, sym, ap, subst, arith}
use Rattle.std.specs.Prelude.{position, IfSome}
use Rattle.casd_connection.specs.Waiters.{Waiter}
use Rattle.casd_connection.specs.Steps.{is_due_in}
use Rattle.casd_connection.proofs.TurnLaws.{sliced, due_later, due_some, due_none}
use Rattle.casd_connection.proofs.connection.Connection.next_due.Goals as goal

pub overflow_add-result : goal.overflow_add-result
overflow_add-result g c =
    let found =
    ap (λ (xs : List Waiter). position (λ (l : Waiter). is_due_in c.args.self.now.calls l) xs) (sliced c.args.self.now.live.items c.deref.result.now c.min-from.result c.deref.ensures.value) ∙ sym c.due_in.ensures ∙ c.in-Some.is in
    let late = due_later c.args.self.now.calls c.args.self.now.live.items c.args.self.now.over c.min-from.result c.in-Some.i (omega (arith, c.min-from.ensures, c.len.ensures)) c.requires.serving found in
    omega (arith, late.1, c.len.ensures, c.len.type_inv)

pub returns-in-Some-clause-due : goal.returns-in-Some-clause-due
returns-in-Some-clause-due g c =
    let found =
    ap (λ (xs : List Waiter). position (λ (l : Waiter). is_due_in c.args.self.now.calls l) xs) (sliced c.args.self.now.live.items c.deref.result.now c.min-from.result c.deref.ensures.value) ∙ sym c.due_in.ensures ∙ c.in-Some.is in
    (due_later c.args.self.now.calls c.args.self.now.live.items c.args.self.now.over c.min-from.result c.in-Some.i (omega (arith, c.min-from.ensures, c.len.ensures)) c.requires.serving found).0

pub returns-in-Some-clause-within : goal.returns-in-Some-clause-within
returns-in-Some-clause-within g c =
    let found =
    ap (λ (xs : List Waiter). position (λ (l : Waiter). is_due_in c.args.self.now.calls l) xs) (sliced c.args.self.now.live.items c.deref.result.now c.min-from.result c.deref.ensures.value) ∙ sym c.due_in.ensures ∙ c.in-Some.is in
    (due_later c.args.self.now.calls c.args.self.now.live.items c.args.self.now.over c.min-from.result c.in-Some.i (omega (arith, c.min-from.ensures, c.len.ensures)) c.requires.serving found).1

pub returns-in-None-clause-due : goal.returns-in-None-clause-due
returns-in-None-clause-due g c =
    (due_some c.due_in-in-None.result c.args.self.now.calls c.args.self.now.live.items c.args.self.now.over c.requires.serving (c.due_in-in-None.ensures ∙ ap (λ (xs : List Waiter). position (λ (l : Waiter). is_due_in c.args.self.now.calls l) xs) c.deref-in-None.ensures.value)).0

pub returns-in-None-clause-within : goal.returns-in-None-clause-within
returns-in-None-clause-within g c =
    (due_some c.due_in-in-None.result c.args.self.now.calls c.args.self.now.live.items c.args.self.now.over c.requires.serving (c.due_in-in-None.ensures ∙ ap (λ (xs : List Waiter). position (λ (l : Waiter). is_due_in c.args.self.now.calls l) xs) c.deref-in-None.ensures.value)).1

pub returns-in-None-clause-none : goal.returns-in-None-clause-none
returns-in-None-clause-none g c = λ none.
    due_none c.args.self.now.calls c.args.self.now.live.items c.requires.serving
    (ap (λ (xs : List Waiter). position (λ (l : Waiter). is_due_in c.args.self.now.calls l) xs) (sym c.deref-in-None.ensures.value) ∙ sym c.due_in-in-None.ensures ∙ none)
