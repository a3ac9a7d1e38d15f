use Rattle.std.proofs.Common.{rules, ℕ, ◌≡◌, ◌+◌, ◌<◌, ◌∙◌, true, not, length, take, set, get_or, filter, sym, ap, subst, arith}
use Rattle.lease_table.specs.declared.lease_reach.LeaseReach.{LeaseReach}
use Rattle.lease_table.specs.Table.{has_id}
use Rattle.lease_table.specs.Tallies.{IsTallied}
use Rattle.lease_table.specs.LeaseReaches.{share, shares, total_in}
use Rattle.std.proofs.lemmas.Fn.{filter_same}
use Rattle.lease_table.proofs.LeaseReachesLaws.{every_set, every_further, every_all, filter_set, length_set, total_left, of_others, tallied_apart, tallied_nothing}
use Rattle.std.specs.List.{AllByRecursion}
use Rattle.lease_table.proofs.LeaseReachesLaws.{out, has_told, id_told, read_again}
use Rattle.lease_table.proofs.LeaseReachLaws.{tallied_same}
use Rattle.lease_table.proofs.lease_reaches.release.Goals as goal
use Rattle.lease_table.proofs.lease_reaches.release.Goals.{then-index-id, else-index-id}

kept : (c : goal.After-retain) → c.retain.new.self.items ≡ filter (λ reach. not (has_id c.args.id reach.lease)) c.kept.kept.items
kept c = filter_same _ (λ reach. not (has_id c.args.id reach.lease)) _ (λ x b f call. search rules) _ _ c.retain.ensures.filtered

pub returns-clause-left : goal.returns-clause-left
returns-clause-left c = kept c ∙ c.kept.invariant.left

pub returns-clause-tallied : goal.returns-clause-tallied
returns-clause-tallied c =
    let n = c.kept.invariant.many in
    let gone = every_all (λ reach. has_id c.args.id reach.lease ≡ true → reach.len ≡ 0) c.kept.kept.items c.kept.i (omega (arith, n, c.kept-test.false)) c.kept.invariant.gone in
    λ others tallied.
    tallied_same c.args.rows.now (λ q. total_in (shares c.kept.kept.items) q + others q) (λ q. total_in (shares c.retain.new.self.items) q + others q) c.kept.tally.counts.entries c.kept.tally.bytes
    (λ q. ap (λ (n : ℕ). n + others q) (sym (total_left c.args.id c.kept.kept.items q gone) ∙ ap (λ hs. total_in (shares hs) q) (sym (kept c))))
    (c.kept.invariant.tallied others tallied)

pub kept-preserved : goal.kept-preserved
kept-preserved c =
    let items = c.kept.kept.items in
    let i = c.kept.i in
    let rows = c.args.rows.now in
    let id = c.args.id in
    let n = c.kept.invariant.many in
    let lt : i < length items = omega (arith, n, c.kept-test.true) in
    elim c.if-index-id.branch [
      | then-index-id w ↦
          let x = w.index_mut.result.now in
          let y = w.uncount_pairs.new.reach in
          let is = w.index_mut.ensures.value in
          let reach = w.uncount_pairs.ensures.reach in
          let had : has_id id x.lease ≡ true = ap (λ (h : LeaseReach). has_id id h.lease) (read_again items i x c.index.result.now lt is c.index.ensures) ∙ has_told c.index.result.now.lease.id id w.if-index-id.true in
          record {
            left = ap (λ v. filter (λ h. not (has_id id h.lease)) v.items) w.kept-is ∙ filter_set (λ h. not (has_id id h.lease)) items i y x lt (out (has_id id (get_or items i x).lease) (ap (λ (h : LeaseReach). has_id id h.lease) (sym is) ∙ had)) (out (has_id id y.lease) (ap (λ (h : LeaseReach). has_id id h.lease) reach ∙ had)) ∙ c.kept.invariant.left;
            gone = subst (λ v. AllByRecursion (λ h. has_id id h.lease ≡ true → h.len ≡ 0) (take (i + 1) v.items)) (sym w.kept-is) (every_set (λ h. has_id id h.lease ≡ true → h.len ≡ 0) items i y lt c.kept.invariant.gone (λ e. ap (λ (h : LeaseReach). h.len) reach));
            many = ap (λ v. length v.items) w.kept-is ∙ length_set items i y ∙ n;
            tallied = λ others tallied.
                subst (λ v. IsTallied rows (λ q. total_in (shares v.items) q + others q) c.if-index-id.tally.counts.entries c.if-index-id.tally.bytes) (sym w.kept-is)
                (subst (λ t. IsTallied rows (λ q. total_in (shares (set items i y)) q + others q) t.counts.entries t.bytes) (sym w.tally-is)
                (tallied_nothing rows items i x w.uncount_pairs.new.tally.counts.entries w.uncount_pairs.new.tally.bytes lt is others y (ap share reach)
                (w.uncount_pairs.ensures.tallied (λ q. of_others rows items i x c.kept.tally.counts.entries c.kept.tally.bytes lt is q + others q) c.requires.small
                (tallied_apart rows items i x c.kept.tally.counts.entries c.kept.tally.bytes lt is others (c.kept.invariant.tallied others tallied)))));
          }
      | else-index-id w ↦
          let x = c.index.result.now in
          record {
            left = ap (λ v. filter (λ h. not (has_id id h.lease)) v.items) w.kept-is ∙ c.kept.invariant.left;
            gone = subst (λ v. AllByRecursion (λ h. has_id id h.lease ≡ true → h.len ≡ 0) (take (i + 1) v.items)) (sym w.kept-is)
                (every_further (λ h. has_id id h.lease ≡ true → h.len ≡ 0) items i x lt c.kept.invariant.gone (λ e. absurd (w.if-index-id.false (id_told x.lease.id id (ap (λ (h : LeaseReach). has_id id h.lease) c.index.ensures ∙ e)))));
            many = ap (λ v. length v.items) w.kept-is ∙ n;
            tallied = λ others tallied.
                subst (λ v. IsTallied rows (λ q. total_in (shares v.items) q + others q) c.if-index-id.tally.counts.entries c.if-index-id.tally.bytes) (sym w.kept-is)
                (subst (λ t. IsTallied rows (λ q. total_in (shares items) q + others q) t.counts.entries t.bytes) (sym w.tally-is) (c.kept.invariant.tallied others tallied));
          }
    ]
