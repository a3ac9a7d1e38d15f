-- All digests in order, without the empty one.
use Rattle.std.proofs.Common.{rules, not, List, filter, ap, ◌∙◌}
use Rattle.std.proofs.lemmas.Fn.{filter_same}
use Rattle.digest_types.specs.Name.{HashAndSize}
use Rattle.directory_canon.specs.Tree.{digest_cmp}
use Rattle.store_core.specs.Ascending.{ascending}
use Rattle.store_core.specs.State.{is_empty}
use Rattle.store_core.proofs.order.digests_of.Goals as goal

pub returns : goal.returns
returns c =
    filter_same _ (λ d. not (is_empty d)) _ (λ x b f' k. search rules) _ _ c.retain.ensures.filtered
    ∙ ap (λ (ds : List HashAndSize). filter (λ d. not (is_empty d)) ds) c.sort_digests.ensures
    ∙ ap (λ (ds : List HashAndSize). filter (λ d. not (is_empty d)) (ascending digest_cmp ds)) c.in_ok-digests.ensures
