use Rattle.std.proofs.Common.{sym, ◌∙◌}
use Rattle.casd_server.specs.Batch.{update_view}
use Rattle.casd_server.proofs.BatchLemmas.{built_small}
use Rattle.casd_server.proofs.batch.update_with.Goals as goal

pub put_all-requires-clause-small : goal.put_all-requires-clause-small
put_all-requires-clause-small g c = rw c.as_slice.ensures (built_small (update_view c.args.request.now) (sym c.is_built_request.ensures ∙ c.if-not-is_built_request.false))
