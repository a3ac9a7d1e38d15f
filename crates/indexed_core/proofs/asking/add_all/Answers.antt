use Rattle.std.proofs.Common.{◌≡◌, ◌+◌, ◌∷◌, ◌++◌, [], true, take, List, Option, ap, ◌∙◌, arith}
use Rattle.digest_types.specs.Name.{HashAndSize}
use Rattle.directory_canon.specs.declared.node.Edge.{Edge}
use Rattle.store_core.specs.declared.state.Row.{Row}
use Rattle.store_core.specs.State.{has_row, sizes}
use Rattle.store_core.specs.Pass.{without}
use Rattle.store_core.proofs.Changes.{new_row}
use Rattle.indexed_core.specs.Parts.{Parts}
use Rattle.indexed_core.proofs.AddedRows.{not_yet, fits_yet, one_more, without_none}
use Rattle.indexed_core.proofs.asking.add_all.Goals as goal

pub add-requires-clause-new : goal.add-requires-clause-new
add-requires-clause-new c =
    ap (λ (p : Parts). has_row p.rows c.row-item.result.digest) c.loop-row.invariant
    ∙ not_yet c.args.rows.now c.loop-row.row-index c.row-item.result c.requires.distinct c.loop-row-test.true c.row-item.is

pub add-requires-clause-small : goal.add-requires-clause-small
add-requires-clause-small c =
    let rows = c.args.rows.now in
    let i = c.loop-row.row-index in
    let all : without c.new-none.result c.loop-row.index.rows ≡ take i rows =
    ap (λ (ds : List HashAndSize). without ds c.loop-row.index.rows) c.new-none.ensures ∙ ap (λ (p : Parts). without [] p.rows) c.loop-row.invariant ∙ without_none (take i rows) in
    omega (arith, ap sizes all, fits_yet rows i c.row-item.result c.loop-row-test.true c.row-item.is, c.requires.small)

pub loop-row-preserved : goal.loop-row-preserved
loop-row-preserved c =
    let rows = c.args.rows.now in
    let i = c.loop-row.row-index in
    let row = c.row-item.result in
    let was = c.loop-row.index.rows in
    let edges = ap (λ (o : Option (List Edge)). without c.new-none.result was ++ new_row row.digest o ∷ []) c.as_ref.ensures.value in
    let all : without c.new-none.result was ++ new_row row.digest row.edges ∷ [] ≡ take (i + 1) rows =
    ap (λ (ds : List HashAndSize). without ds was ++ new_row row.digest row.edges ∷ []) c.new-none.ensures
    ∙ ap (λ (p : Parts). without [] p.rows ++ new_row row.digest row.edges ∷ []) c.loop-row.invariant
    ∙ one_more rows i row c.requires.sound c.loop-row-test.true c.row-item.is in
    c.in_ok-add.ensures.ok
    ∙ ap (λ (rs : List Row). record c.loop-row.index { rows = rs }) (edges ∙ all)
    ∙ ap (λ (p : Parts). record p { rows = take (i + 1) rows }) c.loop-row.invariant
