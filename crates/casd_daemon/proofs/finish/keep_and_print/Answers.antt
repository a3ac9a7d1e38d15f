use Rattle.std.proofs.Common.{sym, subst}
use Rattle.store_core.specs.State.{DistinctDigests}
use Rattle.casd_daemon.proofs.UseLists.{digests_distinct}
use Rattle.casd_daemon.proofs.finish.keep_and_print.Goals as goal

pub keep-requires : goal.keep-requires
keep-requires g c = subst DistinctDigests (sym c.in-Ok.ensures) (digests_distinct c.args.store.now.state.rows c.requires.distinct)
