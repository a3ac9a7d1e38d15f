use Rattle.std.proofs.Common.{rules, of_calls, ◌∙◌}
use Rattle.std.proofs.lemmas.Fn.{always_returns_same}
use Rattle.directory_canon.specs.Views.{place_of, place_cmp}
use Rattle.directory_canon.specs.declared.borrowed.Placed.{Placed}
use Rattle.directory_canon.proofs.TwiceLemmas.{searched}
use Rattle.directory_canon.proofs.twice.has_name.Goals as goal

pub returns : goal.returns
returns c =
    c.is_ok.ensures.value
    ∙ searched c.args.all.now c.args.number c.args.name.now c.binary_search_by.result c.requires c.binary_search_by.ensures.bound
    (c.binary_search_by.ensures.position (λ (p : Placed). place_cmp (place_of p) (c.args.number, c.args.name.now)) (always_returns_same _ _ _ (λ a r f k. search (rules, of_calls))))
