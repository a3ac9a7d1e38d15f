-- Whether it is too large, and else by the pairs.
use Rattle.std.proofs.Common.{◌∙◌, List, ap, sym}
use Rattle.std.proofs.lemmas.Result.{IfOk-weaker}
use Rattle.directory_canon.specs.declared.node.Edge.{Edge}
use Rattle.store_core.specs.Reach.{blobs, reached, is_deep}
use Rattle.store_core.specs.Standing.{counted, digests_of, not_directories, standing_by, wanted}
use Rattle.store_core.proofs.StandingLaws.{too_many, too_deep, not_too_large}
use Rattle.indexed_core.proofs.standing.standing.Goals as goal

pub returns-then-len : goal.returns-then-len
returns-then-len c = λ root one.
    too_many c.args.index.now.rows root c.args.files c.in_ok-pairs.pairs c.len.result
    (record { all = c.in_ok-pairs.ensures ∙ ap (reached (blobs c.args.index.now.rows)) one; count = c.len.ensures }) c.if-len.true

pub returns-then-branch : goal.returns-then-branch
returns-then-branch c = λ root one.
    too_deep c.args.index.now.rows root c.args.files c.in_ok-pairs.pairs c.len.result
    (record { all = c.in_ok-pairs.ensures ∙ ap (reached (blobs c.args.index.now.rows)) one; count = c.len.ensures }) c.if-len.false
    (ap (λ (starts : List Edge). is_deep (blobs c.args.index.now.rows) starts 128) (sym one) ∙ sym c.in_ok-is_deep.ensures ∙ c.if-branch.true)

pub returns : goal.returns
returns c =
    let rows = c.args.index.now.rows in
    IfOk-weaker c.standing_by.result _ _
    (λ s is root one.
    is
    ∙ ap (λ (pairs : List Edge). standing_by (not_directories rows pairs) (wanted rows (digests_of (counted c.args.files pairs))) (digests_of pairs)) c.as_slice.ensures
    ∙ not_too_large rows root c.args.files c.in_ok-pairs.pairs c.len.result
    (record { all = c.in_ok-pairs.ensures ∙ ap (reached (blobs rows)) one; count = c.len.ensures }) c.if-len.false
    (ap (λ (starts : List Edge). is_deep (blobs rows) starts 128) (sym one) ∙ sym c.in_ok-is_deep.ensures ∙ c.if-branch.false))
    c.standing_by.ensures
