use Rattle.store_core.proofs.Histories.{kept_from, released_by_owner}
use Rattle.store_core.proofs.laws.guard_stands.Goals as goal

pub returns-clause-kept : goal.returns-clause-kept
returns-clause-kept c = kept_from

pub returns-clause-owner : goal.returns-clause-owner
returns-clause-owner c = released_by_owner
