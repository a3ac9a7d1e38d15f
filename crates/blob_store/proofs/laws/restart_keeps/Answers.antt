use Rattle.blob_store.proofs.RestoredLaws.{keeps_order, keeps_rows, keeps_all}
use Rattle.blob_store.proofs.laws.restart_keeps.Goals as goal

pub returns-clause-order : goal.returns-clause-order
returns-clause-order c = λ s found low high guard valid bodies. keeps_order s found valid bodies

pub returns-clause-rows : goal.returns-clause-rows
returns-clause-rows c = λ s found low high guard valid bodies. keeps_rows s found valid bodies

pub returns-clause-all : goal.returns-clause-all
returns-clause-all c = λ s found low high guard valid bodies links_are. keeps_all s found valid bodies low high guard links_are
