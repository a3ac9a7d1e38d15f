use Rattle.std.proofs.Common.{◌∙◌, ◌++◌, ◌+◌, List, drop, sym, ap, arith}
use Rattle.directory_canon.specs.declared.node.Edge.{Edge}
use Rattle.lease_table.specs.LeaseReaches.{pairs_of}
use Rattle.lease_table.proofs.LeaseReachesLaws.{pairs_next, pairs_done}
use Rattle.lease_table.proofs.lease_reaches.pairs_of.Goals as goal

pub kept-init : goal.kept-init
kept-init c = ap (λ (xs : List Edge). xs ++ pairs_of c.args.id c.args.kept.now) c.new-all.ensures.items

pub kept-preserved : goal.kept-preserved
kept-preserved c =
    ap (λ (xs : List Edge). xs ++ pairs_of c.args.id (drop (c.kept.reach-index + 1) c.args.kept.now)) c.in_ok-append_if.ensures
    ∙ pairs_next c.args.id c.args.kept.now c.kept.reach-index c.reach-item.result c.kept.all.items c.kept-test.true c.reach-item.is
    ∙ c.kept.invariant

pub returns : goal.returns
returns c = sym (pairs_done c.args.id c.args.kept.now c.kept.reach-index c.kept.all.items (omega arith)) ∙ c.kept.invariant
