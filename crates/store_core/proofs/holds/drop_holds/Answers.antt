use Rattle.std.proofs.Common.{rules, not}
use Rattle.std.proofs.lemmas.Fn.{filter_same}
use Rattle.store_core.specs.State.{Holds, is_holder}
use Rattle.store_core.proofs.holds.drop_holds.Goals as goal

pub returns : goal.returns
returns c =
    filter_same _ (λ (held : Holds). not (is_holder c.args.owner held)) _ (λ x b f' k. search rules) _ _ c.retain.ensures.filtered
