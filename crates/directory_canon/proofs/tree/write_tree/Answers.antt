-- The child's field is written behind those before it.
use Rattle.std.proofs.Common.{◌≡◌, ◌∙◌, ap, ◌<◌, ◌++◌, List, ℕ, length, get_or, arith}
use Rattle.proto_wire.specs.Spelling.{bytes_field}
use Rattle.directory_canon.specs.Canon.{spelled}
use Rattle.directory_canon.specs.declared.node.Node.{Node}
use Rattle.directory_canon.proofs.TreeWritten.{one_more}
use Rattle.directory_canon.proofs.tree.write_tree.Goals as goal

pub loop-dir-preserved : goal.loop-dir-preserved
loop-dir-preserved c =
    let children : List (List Node) = c.args.tree.now.children in
    let same : c.as_slice-dir-items.result.now ≡ children = c.as_slice-dir-items.ensures in
    let lt : c.loop-dir.dir-index < length children = omega (arith, ap length same, c.loop-dir-test.true) in
    let is : c.dir-item.result ≡ get_or children c.loop-dir.dir-index c.dir-item.result =
    c.dir-item.is ∙ ap (λ (xs : List (List Node)). get_or xs c.loop-dir.dir-index c.dir-item.result) same in
    let child : c.as_slice-in-loop-dir.result.now ≡ spelled c.dir-item.result = c.as_slice-in-loop-dir.ensures ∙ c.in_ok-child.ensures.canon.1 in
    c.in_ok-bytes-2.ensures.ok
    ∙ ap (λ (b : List ℕ). c.loop-dir.out ++ bytes_field 2 b) child
    ∙ ap (λ (b : List ℕ). b ++ bytes_field 2 (spelled c.dir-item.result)) c.loop-dir.invariant
    ∙ one_more (λ (dir : List Node). bytes_field 2 (spelled dir)) (bytes_field 1 (spelled c.args.tree.now.root)) children c.loop-dir.dir-index c.dir-item.result lt is
