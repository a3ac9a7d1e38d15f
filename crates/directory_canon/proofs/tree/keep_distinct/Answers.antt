-- The rows are sorted, and then one of each is kept.
use Rattle.std.proofs.Common.{rules, ◌≡◌, sym, subst, ◌↔◌, Contains, List}
use Rattle.std.specs.Ordering.{eq_by_cmp, is_lt}
use Rattle.std.specs.List.Sorted.{IsStrictlySortedBy, IsSorted}
use Rattle.std.proofs.lemmas.Fn.{dedup_same}
use Rattle.std.proofs.lemmas.List.Sorted.{answers_always, ranks_by}
use Rattle.directory_canon.specs.declared.node.Node.{Node}
use Rattle.directory_canon.specs.Tree.{tree_cmp}
use Rattle.directory_canon.proofs.TreeOrder.{tree_total, ascends, same_dirs, distinct_of}
use Rattle.directory_canon.proofs.tree.keep_distinct.Goals as goal
use Rattle.directory_canon.proofs.tree.keep_distinct.Goals.{After-dedup_by}

kept : (c : After-dedup_by) → c.dedup_by.new.self.items ≡ distinct_of c.sort_unstable_by.new.self.items
kept c = dedup_same _ (eq_by_cmp tree_cmp) _ (λ x y b f' x' y' k. search rules) _ _ c.dedup_by.ensures.filtered

pub returns-clause-ascending : goal.returns-clause-ascending
returns-clause-ascending c =
    let sorted : IsSorted tree_cmp c.sort_unstable_by.new.self.items =
    c.sort_unstable_by.ensures.sorted (λ x y. is_lt (tree_cmp x y)) (ranks_by tree_total (λ x. x)) (answers_always _ _ _ (λ f a r g h. search rules)) in
    subst (IsStrictlySortedBy tree_cmp) (sym (kept c)) (ascends c.sort_unstable_by.new.self.items sorted)

pub returns-clause-same : goal.returns-clause-same
returns-clause-same c = λ are dir.
    subst (λ (dirs : List (List Node)). Contains dirs dir ↔ Contains c.args.rows.now.items dir) (sym (kept c))
    (same_dirs c.args.rows.now.items c.sort_unstable_by.new.self.items c.sort_unstable_by.ensures.permutation are dir)
