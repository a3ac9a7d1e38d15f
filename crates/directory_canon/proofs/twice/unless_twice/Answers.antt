use Rattle.std.proofs.Common.{map}
use Rattle.std.specs.Prelude.{find}
use Rattle.directory_canon.specs.Reading.{is_twice}
use Rattle.directory_canon.specs.Views.{entry_view}
use Rattle.directory_canon.proofs.TwiceLemmas.{passes, finds, ends}
use Rattle.std.proofs.Common.{sym, ◌∙◌}
use Rattle.directory_canon.proofs.twice.unless_twice.Goals as goal

pub returns-then-is_twice : goal.returns-then-is_twice
returns-then-is_twice c =
    finds c.args.all.now c.args.all.now c.all.placed-index c.placed-item.result (find (is_twice (map entry_view c.args.all.now)) (map entry_view c.args.all.now)) c.all-test.true c.placed-item.is (sym c.is_twice.ensures ∙ c.if-is_twice.true) c.all.invariant

pub all-preserved : goal.all-preserved
all-preserved c =
    passes c.args.all.now c.args.all.now c.all.placed-index c.placed-item.result (find (is_twice (map entry_view c.args.all.now)) (map entry_view c.args.all.now)) c.all-test.true c.placed-item.is (sym c.is_twice.ensures ∙ c.if-is_twice.false) c.all.invariant

pub returns : goal.returns
returns c = ends c.args.all.now c.args.all.now c.all.placed-index (find (is_twice (map entry_view c.args.all.now)) (map entry_view c.args.all.now)) c.all-test.false c.all.invariant
