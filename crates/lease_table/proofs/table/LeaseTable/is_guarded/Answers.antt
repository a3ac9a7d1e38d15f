use Rattle.std.proofs.Common.{◌≡◌, ◌∙◌, ◌&&◌, ℕ, Bool, true, false, refl, sym, ap, arith}
use Rattle.std.specs.Prelude.{nat_lt}
use Rattle.std.specs.List.{list_any}
use Rattle.std.proofs.lemmas.Bool.{lt-ltb}
use Rattle.lease_table.specs.Table.{Table, is_blob, is_wanted, is_guarded}
use Rattle.lease_table.proofs.KeptLaws.{table_of, wanted_told}
use Rattle.lease_table.proofs.table.LeaseTable.is_guarded.Goals as goal

and_true : (b : Bool) → b ≡ (b && true)
and_true true = refl
and_true false = refl

and_false : (b : Bool) → false ≡ (b && false)
and_false true = refl
and_false false = refl

pub returns-then-count-gt0 : goal.returns-then-count-gt0
returns-then-count-gt0 c =
    let inside = c.self.inside in
    let d = c.args.digest.now in
    let t = table_of inside.rows inside.kept.items inside.holds.items in
    let wanted : true ≡ is_wanted t d =
    sym (lt-ltb 0 c.count.result c.if-count-gt0.true) ∙ ap (λ (n : ℕ). nat_lt 0 n) (c.count.ensures ∙ c.self.invariant.tallied.counted d)
    ∙ wanted_told inside.rows inside.kept.items inside.holds.items d c.self.invariant.reached in
    c.has.ensures.has
    ∙ and_true (list_any (is_blob d) inside.rows)
    ∙ ap (λ (b : Bool). list_any (is_blob d) inside.rows && b) wanted
    ∙ ap (λ (u : Table). is_guarded u d) c.self.view_is

pub returns-else-count-gt0 : goal.returns-else-count-gt0
returns-else-count-gt0 c =
    let inside = c.self.inside in
    let d = c.args.digest.now in
    let t = table_of inside.rows inside.kept.items inside.holds.items in
    let none : 0 ≡ c.count.result = omega (arith, c.if-count-gt0.false) in
    let wanted : false ≡ is_wanted t d =
    ap (λ (n : ℕ). nat_lt 0 n) (none ∙ c.count.ensures ∙ c.self.invariant.tallied.counted d)
    ∙ wanted_told inside.rows inside.kept.items inside.holds.items d c.self.invariant.reached in
    ap (λ (n : ℕ). nat_lt 0 n) (sym none)
    ∙ and_false (list_any (is_blob d) inside.rows)
    ∙ ap (λ (b : Bool). list_any (is_blob d) inside.rows && b) wanted
    ∙ ap (λ (u : Table). is_guarded u d) c.self.view_is
