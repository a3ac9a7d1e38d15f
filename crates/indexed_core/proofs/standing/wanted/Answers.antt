-- The digests with no sound row are kept.
use Rattle.std.proofs.Common.{rules, not, ap, ◌∙◌}
use Rattle.std.proofs.lemmas.Fn.{filter_same}
use Rattle.store_core.specs.State.{is_sound}
use Rattle.store_core.specs.Standing.{digests_of, wanted}
use Rattle.indexed_core.proofs.standing.wanted.Goals as goal

pub returns : goal.returns
returns c =
    filter_same _ (λ d. not (is_sound c.args.index.now.rows d)) _ (λ x b f' k. search rules) _ _ c.retain.ensures.filtered
    ∙ ap (wanted c.args.index.now.rows) (c.in_ok-wants.ensures ∙ ap digests_of (c.deref.ensures.value ∙ c.in_ok-counted.ensures))
