-- The comparison is that of the order.
use Rattle.std.specs.Ordering.{is_lt}
use Rattle.std.proofs.Common.{rules}
use Rattle.std.proofs.lemmas.List.Sorted.{answers_always, ranks_by}
use Rattle.directory_canon.proofs.MakeOrder.{node_cmp, nodes_total}
use Rattle.directory_canon.proofs.order.sort.Goals as goal

pub returns-clause-sorted : goal.returns-clause-sorted
returns-clause-sorted c =
    c.sort_unstable_by.ensures.sorted (λ x y. is_lt (node_cmp x y)) (ranks_by nodes_total (λ x. x)) (answers_always _ _ _ (λ f a r g h. search rules))
