use Rattle.std.proofs.Common.{length, le_refl}
use Rattle.store_core.proofs.ReachLaws.{within_from_reaches, reaches_from_within, path_from_within, within_from_path}
use Rattle.store_core.proofs.laws.reach_is_by_paths.Goals as goal

pub returns-clause-reached : goal.returns-clause-reached
returns-clause-reached c = λ there starts pair. (
  λ e. let p = path_from_within there starts (length there) pair (within_from_reaches there starts pair e) in (p.0, p.2),
  λ p. reaches_from_within there starts (length p.0) pair (within_from_path there starts (length p.0) pair p.0 (le_refl (length p.0)) p.1),
)

pub returns-clause-within : goal.returns-clause-within
returns-clause-within c = λ there starts steps pair. (
  λ e. path_from_within there starts steps pair e,
  λ p. within_from_path there starts steps pair p.0 p.1 p.2,
)
