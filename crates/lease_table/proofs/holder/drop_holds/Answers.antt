use Rattle.std.proofs.Common.{rules, ℕ, ◌≡◌, ◌+◌, ◌<◌, ◌∙◌, [], true, not, length, take, set, get_or, sym, ap, subst, arith}
use Rattle.std.specs.List.{AllByRecursion}
use Rattle.std.proofs.lemmas.Fn.{filter_same}
use Rattle.store_core.specs.State.{Holds, is_holder, other_holds}
use Rattle.lease_table.specs.Tallies.{IsTallied}
use Rattle.lease_table.specs.Holds.{holders}
use Rattle.lease_table.proofs.HoldLaws.{holders_left, tallied_taken}
use Rattle.lease_table.proofs.LeaseReachesLaws.{every_set, every_further, every_all, filter_set, length_set, out, read_again}
use Rattle.lease_table.proofs.LeaseReachLaws.{tallied_same}
use Rattle.lease_table.proofs.holder.drop_holds.Goals as goal
use Rattle.lease_table.proofs.holder.drop_holds.Goals.{then-is_owner, else-is_owner}

kept : (c : goal.After-retain) → c.retain.new.self.items ≡ other_holds c.args.owner c.holds.holds.items
kept c = filter_same _ (λ held. not (is_holder c.args.owner held)) _ (λ x b f call. search rules) _ _ c.retain.ensures.filtered

pub returns-clause-left : goal.returns-clause-left
returns-clause-left c = kept c ∙ c.holds.invariant.left

pub returns-clause-tallied : goal.returns-clause-tallied
returns-clause-tallied c =
    let n = c.holds.invariant.many in
    let gone = every_all (λ held. is_holder c.args.owner held ≡ true → held.digests ≡ []) c.holds.holds.items c.holds.i (omega (arith, n, c.holds-test.false)) c.holds.invariant.gone in
    λ f tallied.
    tallied_same c.args.rows.now (λ q. f q + holders c.holds.holds.items q) (λ q. f q + holders c.retain.new.self.items q) c.holds.tally.counts.entries c.holds.tally.bytes
    (λ q. ap (λ (n : ℕ). f q + n) (sym (holders_left c.args.owner c.holds.holds.items q gone) ∙ ap (λ hs. holders hs q) (sym (kept c))))
    (c.holds.invariant.tallied f tallied)

pub holds-preserved : goal.holds-preserved
holds-preserved c =
    let items = c.holds.holds.items in
    let i = c.holds.i in
    let rows = c.args.rows.now in
    let owner = c.args.owner in
    let n = c.holds.invariant.many in
    let lt : i < length items = omega (arith, n, c.holds-test.true) in
    elim c.if-is_owner.branch [
      | then-is_owner w ↦
          let x = w.index_mut.result.now in
          let y = w.uncount.new.holder in
          let is = w.index_mut.ensures.value in
          let after = w.uncount.ensures.holder in
          let had : is_holder owner x ≡ true = ap (is_holder owner) (read_again items i x c.index.result.now lt is c.index.ensures) ∙ sym c.is_owner.ensures ∙ w.if-is_owner.true in
          record {
            left = ap (λ v. other_holds owner v.items) w.holds-is ∙ filter_set (λ held. not (is_holder owner held)) items i y x lt (out (is_holder owner (get_or items i x)) (ap (is_holder owner) (sym is) ∙ had)) (out (is_holder owner y) (ap (is_holder owner) after ∙ had)) ∙ c.holds.invariant.left;
            gone = subst (λ v. AllByRecursion (λ held. is_holder owner held ≡ true → held.digests ≡ []) (take (i + 1) v.items)) (sym w.holds-is)
                (every_set (λ held. is_holder owner held ≡ true → held.digests ≡ []) items i y lt c.holds.invariant.gone (λ e. ap (λ (h : Holds). h.digests) after));
            many = ap (λ v. length v.items) w.holds-is ∙ length_set items i y ∙ n;
            tallied = λ f tallied.
                subst (λ v. IsTallied rows (λ q. f q + holders v.items q) c.if-is_owner.tally.counts.entries c.if-is_owner.tally.bytes) (sym w.holds-is)
                (subst (λ t. IsTallied rows (λ q. f q + holders (set items i y) q) t.counts.entries t.bytes) (sym w.tally-is)
                (w.uncount.ensures.tallied (λ q. f q + holders (set items i y) q) c.requires.small
                (tallied_taken rows items i x y f c.holds.tally.counts.entries c.holds.tally.bytes lt is (ap (λ (h : Holds). h.digests) after)
                (c.holds.invariant.tallied f tallied))));
          }
      | else-is_owner w ↦
          let x = c.index.result.now in
          record {
            left = ap (λ v. other_holds owner v.items) w.holds-is ∙ c.holds.invariant.left;
            gone = subst (λ v. AllByRecursion (λ held. is_holder owner held ≡ true → held.digests ≡ []) (take (i + 1) v.items)) (sym w.holds-is)
                (every_further (λ held. is_holder owner held ≡ true → held.digests ≡ []) items i x lt c.holds.invariant.gone
                (λ e. absurd (let no = sym c.is_owner.ensures ∙ w.if-is_owner.false in let yes = ap (is_holder owner) c.index.ensures ∙ e in cc)));
            many = ap (λ v. length v.items) w.holds-is ∙ n;
            tallied = λ f tallied.
                subst (λ v. IsTallied rows (λ q. f q + holders v.items q) c.if-is_owner.tally.counts.entries c.if-is_owner.tally.bytes) (sym w.holds-is)
                (subst (λ t. IsTallied rows (λ q. f q + holders items q) t.counts.entries t.bytes) (sym w.tally-is) (c.holds.invariant.tallied f tallied));
          }
    ]
