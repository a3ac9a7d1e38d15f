-- By the first that isn't a Directory, and by what is wanted.
use Rattle.std.proofs.Common.{◌∙◌, ap}
use Rattle.store_core.specs.declared.event.Standing.TheVariants as standings
use Rattle.store_core.proofs.StandingLaws.{not_directory_stands, wants_stand, complete_stands}
use Rattle.indexed_core.proofs.standing.standing_by.Goals as goal

pub returns-in-Some : goal.returns-in-Some
returns-in-Some c = not_directory_stands c.args.index.now.rows c.args.pairs.now _ _ _ c.in-Some.ensures

pub returns-then-not-is_empty : goal.returns-then-not-is_empty
returns-then-not-is_empty c =
    ap standings.Wants c.from_vec.ensures
    ∙ wants_stand c.args.index.now.rows c.args.pairs.now _ _ _ c.in_ok-wants.wants.len c.in_default.ensures c.in_ok-wants.ensures c.in_ok-wants.wants.ok.0 c.if-not-is_empty.ensures

pub returns : goal.returns
returns c =
    ap standings.Complete (c.from_vec-2.ensures ∙ c.in_ok-digests_of.ensures)
    ∙ complete_stands c.args.index.now.rows c.args.pairs.now _ _ _ c.in_ok-wants.wants.len c.in_default.ensures c.in_ok-wants.ensures c.in_ok-wants.wants.ok.0 c.if-not-is_empty.ensures
