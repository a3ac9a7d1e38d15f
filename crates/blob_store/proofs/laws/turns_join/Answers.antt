use Rattle.blob_store.proofs.ViewLaws.{turns_joined, turns_more, turns_none}
use Rattle.blob_store.proofs.laws.turns_join.Goals as goal

pub returns-clause-join : goal.returns-clause-join
returns-clause-join c = turns_joined

pub returns-clause-more : goal.returns-clause-more
returns-clause-more c = turns_more

pub returns-clause-none : goal.returns-clause-none
returns-clause-none c = turns_none
