use Rattle.std.proofs.Common.{arith}
use Rattle.lease_table.proofs.LeaseReachesLaws.{full_uncounted}
use Rattle.lease_table.proofs.lease_reaches.more_counts.Goals as goal

pub returns-else-grown : goal.returns-else-grown
returns-else-grown c = let none = full_uncounted c.args.kept.now (c.requires.still c.if-grown.false) in omega (arith, none)
