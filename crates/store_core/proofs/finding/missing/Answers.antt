use Rattle.std.proofs.Common.{◌≡◌, Bool, not, List, [], ◌∷◌, ◌++◌, ◌+◌, drop, sym, ap, ◌∙◌}
use Rattle.std.proofs.lemmas.Bool.{not_from_true, not_from_false}
use Rattle.digest_types.specs.Name.{HashAndSize}
use Rattle.store_core.specs.State.{is_among}
use Rattle.store_core.specs.Step.{is_here, missing}
use Rattle.store_core.proofs.FirstMentions.{so_far, so_far_none, so_far_all, counts_not, is_known, is_new}
use Rattle.store_core.proofs.finding.missing.Goals as goal
use Rattle.store_core.proofs.finding.missing.Goals.{then-not-is_here+then-not-is_among+in_ok-push, else-not-is_here, else-not-is_here-via-then-not-is_here+else-not-is_among, else-not-is_here-via-else-not-is_here}

pub loop-digest-init : goal.loop-digest-init
unfolding missing
loop-digest-init c = so_far_none (λ d. not (is_here c.args.rows.now d)) c.new-missing.result.items c.args.digests.now c.new-missing.ensures.items

pub loop-digest-preserved : goal.loop-digest-preserved
loop-digest-preserved c =
    let p : HashAndSize → Bool = λ x. not (is_here c.args.rows.now x) in
    let d : HashAndSize = c.digest-item.result in
    let all = c.args.digests.now in
    let i = c.loop-digest.digest-index in
    let ds = c.loop-digest.missing.items in
    elim c.if-not-is_here.branch [
      | then-not-is_here+then-not-is_among+in_ok-push w ↦
          let next : c.if-not-is_here.missing.items ≡ ds ++ d ∷ [] = cc w.in_ok-push.ensures.items in
          let new = ap (λ (xs : List HashAndSize). is_among xs d) (sym w.deref.ensures.value) ∙ sym w.is_among.ensures ∙ w.if-not-is_among.true in
          ap (λ (xs : List HashAndSize). so_far p xs (drop (i + 1) all)) next
          ∙ is_new p ds all i d c.loop-digest-test.true c.digest-item.is (not_from_false (is_here c.args.rows.now d) (sym c.is_here.ensures ∙ w.if-not-is_here.true)) new
          ∙ c.loop-digest.invariant
      | else-not-is_here w ↦
          let next : c.if-not-is_here.missing.items ≡ ds = cc in
          ap (λ (xs : List HashAndSize). so_far p xs (drop (i + 1) all)) next
          ∙ elim w.else-not-is_here.branch [
            | else-not-is_here-via-then-not-is_here+else-not-is_among v ↦
                let known = ap (λ (xs : List HashAndSize). is_among xs d) (sym v.deref.ensures.value) ∙ sym v.is_among.ensures ∙ v.if-not-is_among.false in
                is_known p ds all i d c.loop-digest-test.true c.digest-item.is (not_from_false (is_here c.args.rows.now d) (sym c.is_here.ensures ∙ v.if-not-is_here.true)) known
                ∙ c.loop-digest.invariant
            | else-not-is_here-via-else-not-is_here v ↦
                counts_not p ds all i d c.loop-digest-test.true c.digest-item.is (not_from_true (is_here c.args.rows.now d) (sym c.is_here.ensures ∙ v.if-not-is_here.false))
                ∙ c.loop-digest.invariant
          ]
    ]

pub returns : goal.returns
returns c =
    sym (so_far_all (λ d. not (is_here c.args.rows.now d)) c.loop-digest.missing.items c.args.digests.now c.loop-digest.digest-index c.loop-digest-test.false) ∙ c.loop-digest.invariant
