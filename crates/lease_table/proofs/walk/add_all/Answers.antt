use Rattle.std.proofs.Common.{◌∙◌, ap, arith, take, length, List}
use Rattle.directory_canon.specs.declared.node.Edge.{Edge}
use Rattle.lease_table.specs.Pairs.{has}
use Rattle.lease_table.proofs.PairSetLaws.{inserted_begins, added_more, added_all, added_none, take_itself}
use Rattle.lease_table.proofs.walk.add_all.Goals as goal

pub edges-init : goal.edges-init
edges-init c = record { begins = take_itself c.args.pairs.now; adds = added_none c.args.pairs.now }

pub edges-preserved : goal.edges-preserved
edges-preserved c =
    let old = c.args.pairs.now in
    record {
      begins = ap (take (length old)) c.in_ok-insert.ensures.ok ∙ inserted_begins old c.edges.pairs c.edge-item.result c.edges.invariant.begins;
      adds = λ pair.
          ap (λ (xs : List Edge). has xs pair) c.in_ok-insert.ensures.ok
          ∙ added_more old c.edges.pairs c.args.edges.now c.edges.edge-index c.edge-item.result pair c.edges-test.true c.edge-item.is (c.edges.invariant.adds pair);
    }

pub returns-in_err-insert-clause-begins : goal.returns-in_err-insert-clause-begins
returns-in_err-insert-clause-begins c = ap (take (length c.args.pairs.now)) c.in_err-insert.ensures.err ∙ c.edges.invariant.begins

pub returns-clause-adds : goal.returns-clause-adds
returns-clause-adds c = λ pair. added_all c.args.pairs.now c.edges.pairs c.args.edges.now c.edges.edge-index pair (omega arith) (c.edges.invariant.adds pair)
