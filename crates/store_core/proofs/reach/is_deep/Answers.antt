-- The marks within two steps less lead to what is nearer.
use Rattle.std.proofs.Common.{◌∙◌}
use Rattle.store_core.proofs.WalkLaws.{deep_from}
use Rattle.store_core.proofs.reach.is_deep.Goals as goal

pub returns : goal.returns
returns c = c.some_further.ensures ∙ deep_from _ _ _ c.deref.result.now _ c.requires.steps (c.deref.ensures.value ∙ c.in_ok-marks.ensures) c.requires.pairs
