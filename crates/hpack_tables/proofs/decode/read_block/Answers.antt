use Rattle.std.proofs.Common.{◌+◌, length, List, Ok, sym, ap, ◌∙◌, arith}
use Rattle.hpack_tables.specs.declared.header.Header.{Header}
use Rattle.hpack_tables.specs.Reading.{given, size_if, block_at}
use Rattle.hpack_tables.proofs.Blocks.{begins, goes, is_over, one_more, size_small, too_large, offends, ended}
use Rattle.hpack_tables.proofs.Shrinks.{representation_shrinks}
use Rattle.hpack_tables.proofs.decode.read_block.Goals as goal

pub steps-init : goal.steps-init
steps-init c = record { so_far = begins c.new-headers.result.items c.args.table.now c.args.block.now c.new-headers.ensures.items; within = omega arith; small = omega arith }

pub returns-in-Err : goal.returns-in-Err
returns-in-Err c =
    offends c.steps.headers.items (length c.args.block.now) c.steps.size c.steps.may_update c.steps.table c.steps.rest.now c.in-Err.offence c.at.result (block_at c.args.table.now c.args.block.now)
    (goes (length c.steps.rest.now) c.is_empty.result c.is_empty.ensures c.steps-test.true) c.in-Err.ensures c.at.ensures c.steps.invariant.so_far

pub returns-in-None : goal.returns-in-None
returns-in-None c =
    too_large c.steps.headers.items (length c.args.block.now) c.steps.size c.steps.may_update c.steps.table c.steps.rest.now c.in-Ok.read.1.now c.in-Ok.read.0 c.representation_in.new.table (block_at c.args.table.now c.args.block.now)
    (goes (length c.steps.rest.now) c.is_empty.result c.is_empty.ensures c.steps-test.true) c.in-Ok.ensures c.in-None.ensures c.steps.invariant.so_far

pub steps-smaller : goal.steps-smaller
steps-smaller c = omega (arith, representation_shrinks c.steps.table c.steps.may_update c.steps.rest.now (given c.in-Ok.read.0 c.representation_in.new.table c.in-Ok.read.1.now) c.in-Ok.ensures)

pub steps-preserved : goal.steps-preserved
steps-preserved c = record {
  so_far = rw c.in_ok-keep.ensures (one_more c.steps.headers.items (length c.args.block.now) c.steps.size c.steps.may_update c.steps.table c.steps.rest.now c.in-Ok.read.1.now c.in-Ok.read.0 c.representation_in.new.table c.in-Some.more c.still_may-may_update.result (block_at c.args.table.now c.args.block.now)
      (goes (length c.steps.rest.now) c.is_empty.result c.is_empty.ensures c.steps-test.true) c.steps.invariant.within c.in-Ok.ensures c.in-Some.ensures c.still_may-may_update.ensures c.steps.invariant.so_far);
  within = omega (arith, c.steps.invariant.within, representation_shrinks c.steps.table c.steps.may_update c.steps.rest.now (given c.in-Ok.read.0 c.representation_in.new.table c.in-Ok.read.1.now) c.in-Ok.ensures);
  small = size_small (c.steps.size + size_if c.in-Ok.read.0) c.in-Some.more c.in-Some.ensures;
}

pub returns : goal.returns
returns c =
    ended c.steps.headers.items (length c.args.block.now) c.steps.size c.steps.may_update c.steps.table c.steps.rest.now (block_at c.args.table.now c.args.block.now)
    (is_over (length c.steps.rest.now) c.is_empty.result c.is_empty.ensures c.steps-test.false) c.steps.invariant.so_far
    ∙ ap (λ (hs : List Header). Ok (hs, c.steps.table)) (sym c.from_vec.ensures)
