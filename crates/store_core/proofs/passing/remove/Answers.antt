use Rattle.std.proofs.Common.{rules, not}
use Rattle.std.proofs.lemmas.Fn.{filter_same}
use Rattle.store_core.specs.declared.state.Row.{Row}
use Rattle.store_core.specs.State.{is_among}
use Rattle.store_core.proofs.passing.remove.Goals as goal

pub returns-clause-rows : goal.returns-clause-rows
returns-clause-rows c =
    filter_same _ (λ (row : Row). not (is_among c.args.gone.now row.digest)) _ (λ x b f' k. search rules) _ _ c.retain.ensures.filtered
