use Rattle.std.proofs.Common.{◌≡◌, ◌∙◌, ◌-◌, ◌||◌, List, ℕ, take, drop, sym, ap, refl, arith}
use Rattle.store_core.specs.Reach.{Linked}
use Rattle.lease_table.specs.Pairs.{has, lead, leads}
use Rattle.lease_table.proofs.RowLaws.{without_none}
use Rattle.lease_table.proofs.PairSetLaws.{begins_through, take_itself, pair_at, no_pair_at}
use Rattle.lease_table.proofs.DepthLaws.{follow_more, follow_none, longer}
use Rattle.lease_table.proofs.depth.follow.Goals as goal

pub at-init : goal.at-init
at-init c = record { begins = take_itself c.args.pairs.now; adds = λ pair. follow_none c.args.rows.now c.args.pairs.now c.args.from c.args.from pair refl }

pub returns-in_err-add_all-in-Some-clause-begins : goal.returns-in_err-add_all-in-Some-clause-begins
returns-in_err-add_all-in-Some-clause-begins c = begins_through c.args.pairs.now c.at.pairs c.add_all.new.pairs c.at.invariant.begins c.add_all.ensures.begins

pub at-preserved : goal.at-preserved
at-preserved c =
    let h = pair_at c.at.pairs c.at.at c.in-Some.pair (sym c.get.ensures ∙ c.in-Some.is) in
    let end = c.requires.end in
    let from = c.at.auto.at in
    record {
      begins = begins_through c.args.pairs.now c.at.pairs c.add_all.new.pairs c.at.invariant.begins c.add_all.ensures.begins;
      adds = λ pair. follow_more c.args.rows.now c.args.pairs.now c.at.pairs c.add_all.new.pairs c.links.result.now c.args.from c.at.at c.in-Some.pair pair
          (omega (arith, from)) (omega (arith, end, c.at-test.true)) c.at.invariant.begins h.1
          (λ q. c.links.ensures q ∙ ap (λ (rows : List Linked). leads rows c.in-Some.pair q) (without_none c.args.rows.now))
          c.in_ok-add_all-in-Some.ensures.adds c.at.invariant.adds;
    }

pub returns-in-None-clause-adds : goal.returns-in-None-clause-adds
returns-in-None-clause-adds c = absurd (
    let le = no_pair_at c.at.pairs c.at.at (sym c.get.ensures ∙ c.in-None.is) in
    let long = longer c.args.pairs.now c.at.pairs c.at.invariant.begins in
    let end = c.requires.end in
    omega (arith, le, long, end, c.at-test.true))

pub returns-clause-adds : goal.returns-clause-adds
returns-clause-adds c = λ pair.
    let order = c.requires.order in
    let le = c.at.auto.at-end in
    c.at.invariant.adds pair ∙ ap (λ (n : ℕ). has c.args.pairs.now pair || lead c.args.rows.now (take (n - c.args.from) (drop c.args.from c.args.pairs.now)) pair) (let at : c.at.at ≡ c.args.to = omega (arith, order, le, c.at-test.false) in at)
