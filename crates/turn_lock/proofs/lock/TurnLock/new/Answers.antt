use Rattle.std.proofs.Common.{rules, ◌≡◌, ◌∷◌, [], List, Option, Some, subst, sym}
use Rattle.atomic_table.specs.Table.{opening}
use Rattle.turn_lock.specs.Views.{first_view}
use Rattle.turn_lock.specs.LockRule.{Kept}
use Rattle.turn_lock.proofs.LockSteps.{opens}
use Rattle.turn_lock.proofs.lock.TurnLock.new.Goals as goal

pub new-requires : goal.new-requires
new-requires g c =
    let items : c.push_reserved.new.self.items ≡ Some c.args.value ∷ [] = search rules in
    let start : c.of-start.result.value ≡ c.args.value = search rules in
    subst (λ (x : List (Option g.row.S.Denot) × g.row.S.Denot). Kept g.S.Stands.state (opening (0 ∷ 0 ∷ []) x.0 (first_view (g.S.Stands.state x.1)))) (λ i. (sym items i, sym start i)) (opens g.S.Stands.state c.args.value)
