-- Bytes whose digest is the one that is wanted are as many as it says.
use Rattle.std.proofs.Common.{rules}
use Rattle.blob_store.proofs.TakingLemmas.{fits_by_digest}
use Rattle.blob_store.proofs.taking.Taking.judge.Goals as goal

pub returns-then-eq-clause-fits : goal.returns-then-eq-clause-fits
returns-then-eq-clause-fits g c = fits_by_digest _ _ _ _ c.requires (λ read holds. search rules)
