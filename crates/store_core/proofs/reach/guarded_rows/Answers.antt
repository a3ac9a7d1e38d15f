-- The marks within as many steps as there are rows lead to all that is reached.
use Rattle.std.proofs.Common.{◌≡◌, ◌∙◌, ap, subst, Bool, List, IfOk}
use Rattle.store_core.specs.Walk.{found_marks}
use Rattle.store_core.proofs.WalkLaws.{found_is, none_marked}
use Rattle.store_core.proofs.reach.guarded_rows.Goals as goal

pub returns-then-is_empty : goal.returns-then-is_empty
returns-then-is_empty c =
    subst (λ (all : List Bool). IfOk c.held_marks.result (λ marks. marks.items ≡ all)) (none_marked c.args.rows.now c.args.starts.now c.args.holds.now c.if-is_empty.ensures) c.held_marks.ensures

pub returns : goal.returns
returns c =
    let marks = c.deref.ensures.value ∙ c.in_ok-marks.ensures in
    subst (λ (all : List Bool). IfOk c.found_marks.result (λ found. found.items ≡ all)) (ap (λ (ms : List Bool). found_marks c.args.rows.now c.args.starts.now ms c.args.holds.now) marks ∙ found_is _ _ c.args.holds.now) c.found_marks.ensures
