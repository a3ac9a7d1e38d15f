use Rattle.lease_table.proofs.LeaseReachesLaws.{full_shares}
use Rattle.lease_table.proofs.lease_reaches.count_grown.Goals as goal

pub returns-else-grown-clause-wholes : goal.returns-else-grown-clause-wholes
returns-else-grown-clause-wholes c = full_shares c.args.kept.now.items (c.requires.still c.if-grown.false)
