use Rattle.std.proofs.Common.{◌∙◌, ap}
use Rattle.store_core.specs.State.{sizes}
use Rattle.blob_store.proofs.RestoredLaws.{abc_ab_abc, five_bytes}
use Rattle.blob_store.proofs.laws.saved_rows_come_last.Goals as goal

pub returns-clause-rows : goal.returns-clause-rows
returns-clause-rows c = λ other low high guard abc_other ab_other. abc_ab_abc other abc_other ab_other

pub returns-clause-used : goal.returns-clause-used
returns-clause-used c = λ other low high guard abc_other ab_other. ap sizes (abc_ab_abc other abc_other ab_other) ∙ five_bytes
