use Rattle.std.proofs.Common.{◌≡◌, ◌+◌, ◌≤◌, ◌<◌, length, sym, ap, ◌∙◌, arith}
use Rattle.digest_types.specs.Name.{HashAndSize}
use Rattle.store_core.specs.State.{total}
use Rattle.lease_table.specs.Table.{other_digests}
use Rattle.indexed_core.proofs.HeldWithout.{as_long_total, shorter_total}
use Rattle.indexed_core.proofs.index.forget_one.Goals as goal

-- the sum loses the digest's size
lost : (c : goal.Then-len) → c.args.used ≡ c.digest.inside.size + total c.remove.new.self
lost c =
    let d = c.args.digest.now in
    let ds = c.args.order.now in
    let size = ap (λ (x : HashAndSize). x.size) c.digest.view_is in
    let left = c.remove.ensures in
    let less : length (other_digests d ds) < length ds = let new_len = c.len.ensures ∙ ap length left in let old_len = c.len-len.ensures in omega (arith, c.if-len.true) in
    let sum = shorter_total d ds c.requires.distinct less in
    omega (arith, ap total left, c.requires.sum, sum, size)

pub overflow_sub-result : goal.overflow_sub-result
overflow_sub-result c = let sum = lost c in omega arith

pub returns-then-len-clause-used : goal.returns-then-len-clause-used
returns-then-len-clause-used c = let sum = lost c in omega arith

pub returns-else-len-clause-used : goal.returns-else-len-clause-used
returns-else-len-clause-used c =
    let d = c.args.digest.now in
    let ds = c.args.order.now in
    let left = c.remove.ensures in
    let long : length ds ≤ length (other_digests d ds) = let new_len = c.len.ensures ∙ ap length left in let old_len = c.len-len.ensures in omega (arith, c.if-len.false) in
    c.requires.sum ∙ as_long_total d ds long ∙ sym (ap total left)
