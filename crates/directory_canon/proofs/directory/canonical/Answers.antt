-- Nodes without an offence that aren't too long, once they are sorted.
use Rattle.std.proofs.Common.{◌≡◌, ◌∙◌, ap, subst, ◌≤◌, List, [], All, None, length, arith}
use Rattle.directory_canon.specs.declared.node.Node.{Node}
use Rattle.directory_canon.specs.Node.{IsNode}
use Rattle.directory_canon.specs.Canon.{spelled, max_len}
use Rattle.directory_canon.specs.Making.{offence}
use Rattle.directory_canon.proofs.MakeMade.{made}
use Rattle.directory_canon.proofs.directory.canonical.Goals as goal

pub returns-clause-made : goal.returns-clause-made
returns-clause-made c =
    let nodes : List Node = c.args.nodes.items in
    let none : offence [] 0 nodes ≡ None =
    subst (λ (xs : List Node). offence [] 0 xs ≡ None) c.as_slice.ensures.value c.in_ok-refuse_first.ensures.none in
    let valid : All IsNode nodes = subst (λ (xs : List Node). All IsNode xs) c.as_slice.ensures.value c.in_ok-refuse_first.ensures.valid in
    let written : length c.in_ok-written.written ≡ length (spelled nodes) =
    ap length (c.in_ok-written.ensures ∙ ap spelled c.as_slice-2.ensures.value) in
    let short : length (spelled nodes) ≤ max_len = omega (arith, written, c.len.ensures, c.if-len-gt-MAX_LEN.false) in
    made nodes c.sort.new.nodes.items none valid short c.sort.ensures.permutation c.sort.ensures.sorted
