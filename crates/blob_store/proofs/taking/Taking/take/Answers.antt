-- The piece that was read follows what was taken before.
use Rattle.blob_store.proofs.TakingLemmas.{takes_piece}
use Rattle.blob_store.proofs.taking.Taking.take.Goals as goal

pub returns-clause-bytes : goal.returns-clause-bytes
returns-clause-bytes g c = takes_piece _ _ _ _ c.args.self.now.at c.in_ok-count.count c.read_at.new.buf c.requires.place c.in_ok-count.ensures.bound c.in_ok-count.ensures.bytes c.update.ensures
