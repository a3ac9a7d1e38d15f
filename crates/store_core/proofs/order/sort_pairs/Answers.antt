-- Sorted, and then one of each kept.
use Rattle.std.proofs.Common.{rules, refl, ◌∙◌}
use Rattle.std.specs.List.Sorted.{IsSorted}
use Rattle.std.specs.Ordering.{is_lt}
use Rattle.std.proofs.lemmas.List.Filters.{dedup_is}
use Rattle.std.proofs.lemmas.List.Sorted.{answers_always, ranks_by}
use Rattle.store_core.specs.Reach.{is_pair, pair_cmp}
use Rattle.store_core.proofs.AscendingLaws.{sorted_distinct, pair_exact, pair_equality, pair_test, equality_from}
use Rattle.store_core.proofs.order.sort_pairs.Goals as goal

pub returns : goal.returns
returns c =
    let sorted : IsSorted pair_cmp c.sort_unstable_by.new.self.items =
    c.sort_unstable_by.ensures.sorted (λ x y. is_lt (pair_cmp x y)) (ranks_by pair_exact.total (λ x. x)) (answers_always _ _ _ (λ f a r g h. search rules)) in
    dedup_is _ _ _ c.dedup.ensures.filtered
    ∙ sorted_distinct pair_cmp pair_exact _ (equality_from _ is_pair (pair_test _ (λ d e. (refl, refl, refl, refl))) pair_equality) _ _ c.sort_unstable_by.ensures.permutation sorted
