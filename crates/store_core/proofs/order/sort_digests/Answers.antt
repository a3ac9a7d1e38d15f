-- Sorted, and then one of each kept.
use Rattle.std.proofs.Common.{◌∙◌}
use Rattle.std.proofs.lemmas.List.Filters.{dedup_is}
use Rattle.directory_canon.specs.Tree.{digest_cmp}
use Rattle.store_core.proofs.AscendingLaws.{sorted_distinct, digest_exact, digest_equality}
use Rattle.store_core.proofs.order.sort_digests.Goals as goal

pub returns : goal.returns
returns c =
    dedup_is _ _ _ c.dedup.ensures.filtered
    ∙ sorted_distinct digest_cmp digest_exact _ digest_equality _ _ c.sort_unstable.ensures.permutation c.sort_unstable.ensures.sorted
