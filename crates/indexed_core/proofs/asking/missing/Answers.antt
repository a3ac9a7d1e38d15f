use Rattle.std.proofs.Common.{◌≡◌, Bool, not, List, ◌+◌, drop, sym, ap, ◌∙◌}
use Rattle.std.specs.Vec.{vec_items}
use Rattle.std.proofs.lemmas.Iterator.{items_from_collect}
use Rattle.std.proofs.lemmas.Iterator.Consumers.{YieldsList-from_copied, YieldsList-from_rest}
use Rattle.std.proofs.lemmas.Result.{IfOk-at_ok}
use Rattle.std.proofs.lemmas.Bool.{not_from_true, not_from_false}
use Rattle.digest_types.specs.Name.{HashAndSize}
use Rattle.store_core.specs.Step.{is_here, missing}
use Rattle.store_core.proofs.FirstMentions.{so_far, so_far_none, so_far_all, counts_not}
use Rattle.indexed_core.proofs.MissingLaws.{inserts}
use Rattle.indexed_core.proofs.asking.missing.Goals as goal
use Rattle.indexed_core.proofs.asking.missing.Goals.{then-not-is_here+in_ok-insert, else-not-is_here}

pub loop-digest-init : goal.loop-digest-init
unfolding missing
loop-digest-init c = so_far_none (λ d. not (is_here c.args.index.now.rows d)) c.new-missing.result.keys c.args.digests.now c.new-missing.ensures.empty

pub loop-digest-preserved : goal.loop-digest-preserved
loop-digest-preserved c =
    let p : HashAndSize → Bool = λ x. not (is_here c.args.index.now.rows x) in
    let d : HashAndSize = c.digest-item.result in
    let all = c.args.digests.now in
    let i = c.loop-digest.digest-index in
    let ds = c.loop-digest.missing.keys in
    elim c.if-not-is_here.branch [
      | then-not-is_here+in_ok-insert w ↦
          inserts p ds c.if-not-is_here.missing.keys all i d c.loop-digest-test.true c.digest-item.is (not_from_false (is_here c.args.index.now.rows d) (sym c.is_here.ensures ∙ w.if-not-is_here.true)) (let inserted = w.in_ok-insert.ensures.keys in cc)
          ∙ c.loop-digest.invariant
      | else-not-is_here w ↦
          let next : c.if-not-is_here.missing.keys ≡ ds = cc in
          ap (λ (xs : List HashAndSize). so_far p xs (drop (i + 1) all)) next
          ∙ counts_not p ds all i d c.loop-digest-test.true c.digest-item.is (not_from_true (is_here c.args.index.now.rows d) (sym c.is_here.ensures ∙ w.if-not-is_here.false))
          ∙ c.loop-digest.invariant
    ]

pub returns : goal.returns
returns c =
    let all = sym (so_far_all (λ d. not (is_here c.args.index.now.rows d)) c.loop-digest.missing.keys c.args.digests.now c.loop-digest.digest-index c.loop-digest-test.false) ∙ c.loop-digest.invariant in
    let told = items_from_collect _ c.collect.ensures.ran (YieldsList-from_copied (YieldsList-from_rest c.loop-digest.missing.keys (c.copied.ensures.source ∙ c.iter.ensures.rest))) in
    let held : c.in_ok-collect.field-0.items ≡ c.loop-digest.missing.keys = IfOk-at_ok (λ w. vec_items w ≡ c.loop-digest.missing.keys) (c.in_ok-collect.was) told in
    held ∙ all
