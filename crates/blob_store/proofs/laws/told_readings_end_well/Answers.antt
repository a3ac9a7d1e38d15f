use Rattle.blob_store.proofs.TakingLemmas.{told_end_well}
use Rattle.blob_store.proofs.laws.told_readings_end_well.Goals as goal

pub returns : goal.returns
returns c = told_end_well
