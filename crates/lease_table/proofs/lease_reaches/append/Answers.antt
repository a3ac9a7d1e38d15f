use Rattle.std.proofs.Common.{◌∙◌, ◌++◌, ◌∷◌, [], List, sym, ap, arith}
use Rattle.directory_canon.specs.declared.node.Edge.{Edge}
use Rattle.lease_table.proofs.PairSetLaws.{pair_at, no_pair_at, take_all}
use Rattle.lease_table.proofs.LeaseReachesLaws.{append_none, append_next}
use Rattle.lease_table.proofs.lease_reaches.append.Goals as goal

pub pairs-init : goal.pairs-init
pairs-init c = append_none c.args.all.now.items c.args.pairs.now

pub pairs-preserved : goal.pairs-preserved
pairs-preserved c =
    let h = pair_at c.args.pairs.now c.pairs.at c.in-Some.pair (sym c.get.ensures ∙ c.in-Some.is) in
    c.in_ok-push-in-Some.ensures.items
    ∙ ap (λ (xs : List Edge). xs ++ c.in-Some.pair ∷ []) c.pairs.invariant
    ∙ append_next c.args.all.now.items c.args.pairs.now c.pairs.at c.in-Some.pair h.0 h.1

pub returns-in-None : goal.returns-in-None
returns-in-None c = absurd (let le = no_pair_at c.args.pairs.now c.pairs.at (sym c.get.ensures ∙ c.in-None.is) in omega (arith, le))

pub returns : goal.returns
returns c = c.pairs.invariant ∙ ap (λ (xs : List Edge). c.args.all.now.items ++ xs) (take_all c.args.pairs.now c.pairs.at (omega arith))
