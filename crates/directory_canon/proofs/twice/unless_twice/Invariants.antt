use Rattle.std.proofs.Common.{◌≡◌, map}
use Rattle.std.specs.Prelude.{find}
use Rattle.directory_canon.specs.Reading.{is_twice}
use Rattle.directory_canon.specs.Views.{entry_view}
use Rattle.directory_canon.proofs.TwiceLemmas.{found_from}
use Rattle.directory_canon.proofs.twice.unless_twice.Given as goal

abbrev pub invariant-all : goal.invariant-all
invariant-all l = found_from l.all l.all l.placed-index ≡ find (is_twice (map entry_view l.all)) (map entry_view l.all)
