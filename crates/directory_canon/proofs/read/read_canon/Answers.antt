use Rattle.std.proofs.Common.{List, Result, Ok, sym, ap, subst, ◌∙◌, arith}
use Rattle.std.proofs.lemmas.Result.{err_from_is_err_and}
use Rattle.directory_canon.specs.declared.node.Node.{Node}
use Rattle.directory_canon.specs.declared.error.DirError.{DirError}
use Rattle.directory_canon.specs.Reading.{Fails}
use Rattle.directory_canon.proofs.CanonRead.{canon_read}
use Rattle.directory_canon.proofs.CanonFound.{canon_found}
use Rattle.directory_canon.proofs.read.read_canon.Goals as goal

pub returns-in_err-nodes-clause-only : goal.returns-in_err-nodes-clause-only
returns-in_err-nodes-clause-only c = λ dir canon.
    let p = err_from_is_err_and c.from_residual.result c.from_residual.ensures.1 in
    rw (p.1, p.2) (subst (λ (read : Result (List Node) DirError). Fails c.in_err-nodes.field-0.0 read) (canon_read c.args.bytes.now dir canon) c.in_err-nodes.ensures)

pub of_canonical-requires : goal.of_canonical-requires
of_canonical-requires c = (canon_found c.args.bytes.now c.in_ok-nodes.nodes.items (λ i. omega (arith, c.type_inv.bytes i)) c.in_ok-nodes.ensures).0

pub returns-clause-canon : goal.returns-clause-canon
returns-clause-canon c = rw c.of_canonical.ensures (canon_found c.args.bytes.now c.in_ok-nodes.nodes.items (λ i. omega (arith, c.type_inv.bytes i)) c.in_ok-nodes.ensures)

pub returns-clause-only : goal.returns-clause-only
returns-clause-only c = λ dir canon.
    sym (canon_read c.args.bytes.now dir canon) ∙ c.in_ok-nodes.ensures ∙ ap (λ (nodes : List Node). Ok nodes) (sym c.of_canonical.ensures)
