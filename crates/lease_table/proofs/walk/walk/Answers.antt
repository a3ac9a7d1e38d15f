use Rattle.std.proofs.Common.{◌∙◌, sym, ap, arith}
use Rattle.lease_table.specs.Table.{without}
use Rattle.lease_table.specs.Pairs.{leads}
use Rattle.lease_table.proofs.PairSetLaws.{begins_through, take_itself, pair_at, no_pair_at, walked_more, walked_all}
use Rattle.lease_table.proofs.walk.walk.Goals as goal

pub at-init : goal.at-init
at-init c = record { begins = take_itself c.args.pairs.now; walked = c.requires }

pub returns-in_err-add_all-in-Some-clause-begins : goal.returns-in_err-add_all-in-Some-clause-begins
returns-in_err-add_all-in-Some-clause-begins c = begins_through c.args.pairs.now c.at.pairs c.add_all.new.pairs c.at.invariant.begins c.add_all.ensures.begins

pub returns-in-None-clause-exact : goal.returns-in-None-clause-exact
returns-in-None-clause-exact c =
    walked_all (without c.args.gone.now c.args.rows.now) c.args.root.now c.at.pairs c.at.at (no_pair_at c.at.pairs c.at.at (sym c.get.ensures ∙ c.in-None.is)) c.at.invariant.walked

pub at-preserved : goal.at-preserved
at-preserved c =
    let h = pair_at c.at.pairs c.at.at c.in-Some.pair (sym c.get.ensures ∙ c.in-Some.is) in
    record {
      begins = begins_through c.args.pairs.now c.at.pairs c.add_all.new.pairs c.at.invariant.begins c.add_all.ensures.begins;
      walked = walked_more (without c.args.gone.now c.args.rows.now) c.args.root.now c.at.pairs c.add_all.new.pairs c.links.result.now c.at.at c.in-Some.pair h.0
          (record { begins = c.add_all.ensures.begins; adds = c.in_ok-add_all-in-Some.ensures.adds })
          (λ pair. c.links.ensures pair ∙ ap (λ from. leads (without c.args.gone.now c.args.rows.now) from pair) (sym h.1))
          c.at.invariant.walked;
    }

pub returns-clause-exact : goal.returns-clause-exact
returns-clause-exact c =
    let n = c.len.ensures.len in
    let small = c.len.ensures.small in
    walked_all (without c.args.gone.now c.args.rows.now) c.args.root.now c.at.pairs c.at.at (omega (arith, n, small)) c.at.invariant.walked
