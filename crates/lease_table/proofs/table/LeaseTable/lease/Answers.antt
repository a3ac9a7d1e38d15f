use Rattle.lease_table.specs.declared.lease_reach.LeaseReach.{LeaseReach}
use Rattle.lease_table.specs.LeaseReaches.{shares, total_in, guards_in}
use Rattle.std.proofs.Common.{◌+◌, List, ◌∙◌, ◌∷◌, ◌++◌, [], length, sym, ap, refl, subst, arith}
use Rattle.lease_table.specs.Holds.{holders}
use Rattle.lease_table.proofs.HoldLaws.{holders_fit}
use Rattle.lease_table.specs.declared.table_lease.TableLease.{TableLease}
use Rattle.lease_table.specs.Pairs.{IsReach}
use Rattle.lease_table.proofs.KeptLaws.{kept_leased, moved}
use Rattle.lease_table.proofs.table.LeaseTable.lease.Goals as goal

pub invariant_of-self-2 : goal.invariant_of-self-2
invariant_of-self-2 c =
    let inside = c.self.inside in
    let reach = c.in_ok-reach.reach in
    kept_leased inside.rows inside.kept.items c.take_up.new.kept.items inside.holds.items c.take_up.new.tally.counts.entries c.take_up.new.tally.bytes (record reach { len = length reach.pairs }) c.self.invariant.distinct c.self.invariant.small c.self.invariant.full c.self.invariant.reached
    (subst (λ (h : TableLease). IsReach inside.rows h.root reach.pairs) (sym c.in_ok-reach.ensures.lease) c.in_ok-reach.ensures.reach)
    refl (c.take_up.ensures.kept ∙ ap (λ hs. hs ++ record reach { len = length reach.pairs } ∷ []) c.in_ok-reserve-2.ensures.items)
    c.self.invariant.held
    (c.take_up.ensures.tallied (holders inside.holds.items) (λ d. let few = holders_fit inside.holds.items d in omega (arith, few))
    (moved inside.rows (guards_in (shares inside.kept.items) inside.holds.items) (λ d. total_in (shares c.reserve-2.new.self.items) d + holders inside.holds.items d) inside.tally.counts.entries c.reserve.new.self.counts.entries inside.tally.bytes c.reserve.new.self.bytes
    (ap (λ (hs : List LeaseReach). guards_in (shares hs) inside.holds.items) (sym c.in_ok-reserve-2.ensures.items)) (sym c.reserve.ensures.counts) (sym c.reserve.ensures.bytes) c.self.invariant.tallied))
