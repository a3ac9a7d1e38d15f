use Rattle.blob_store.proofs.ViewLaws.{made_by_step, seen_before}
use Rattle.blob_store.proofs.laws.replies_are_the_steps.Goals as goal

pub returns-clause-reply : goal.returns-clause-reply
returns-clause-reply c = made_by_step

pub returns-clause-before : goal.returns-clause-before
returns-clause-before c = seen_before
