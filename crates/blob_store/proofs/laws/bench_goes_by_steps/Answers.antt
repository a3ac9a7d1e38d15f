use Rattle.blob_store.proofs.BenchLaws.{makes_at, waits_at, enters_at, stays_out_at, leaves_at}
use Rattle.blob_store.proofs.laws.bench_goes_by_steps.Goals as goal

pub returns-clause-makes : goal.returns-clause-makes
returns-clause-makes c = λ old new owner event reply _ sound makes is_owner. makes_at old new owner event reply sound makes is_owner

pub returns-clause-waits : goal.returns-clause-waits
returns-clause-waits c = λ old new _ waits. waits_at old new waits

pub returns-clause-enters : goal.returns-clause-enters
returns-clause-enters c = λ old new _ sound enters. enters_at old new sound enters

pub returns-clause-stays_out : goal.returns-clause-stays_out
returns-clause-stays_out c = λ old new _ out stays. stays_out_at old new out stays

pub returns-clause-leaves : goal.returns-clause-leaves
returns-clause-leaves c = λ old new owner _ sound leaves is_owner. leaves_at old new owner sound leaves is_owner
