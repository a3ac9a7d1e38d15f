use Rattle.std.proofs.Common.{◌≡◌, ◌<◌, ◌≤◌, ◌+◌, ◌-◌, ◌++◌, ℕ, List, [], length, drop, take, arith, ◌∙◌}
use Rattle.std.proofs.lemmas.List.{length-take}
use Rattle.byte_stream.proofs.PieceLaws.{skip_step}
use Rattle.byte_stream.proofs.piece.skip_with.Goals as goal

pub bytes-preserved : goal.bytes-preserved
bytes-preserved g c =
    let size : length c.fill.new.buf ≡ c.min-size.result = c.fill.auto.buf ∙ length-take c.min-size.result c.bytes.scratch ∙ omega (arith, c.min-size.ensures) in
    skip_step c.args.reading.now c.bytes.reading c.fill.new.reading c.bytes.left c.min-size.result c.args.count c.bytes.invariant.1.0 c.fill.new.buf (g.K.Shelf.shelved c.args.shelf.now) (g.K.Shelf.shelved c.bytes.shelf) (g.K.Shelf.shelved c.fill.new.shelf)
    c.bytes.invariant.0 c.bytes.invariant.1.1 c.bytes.invariant.1.2 c.bytes.invariant.2 size (omega arith) c.in_ok-fill.ensures.ok c.in_ok-fill.ensures.leaves
