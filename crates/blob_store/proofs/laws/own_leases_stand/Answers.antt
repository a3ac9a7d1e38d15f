use Rattle.blob_store.proofs.ViewLaws.{own_stand}
use Rattle.blob_store.proofs.laws.own_leases_stand.Goals as goal

pub returns : goal.returns
returns c = own_stand
