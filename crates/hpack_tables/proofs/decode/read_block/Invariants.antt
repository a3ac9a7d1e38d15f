use Rattle.std.proofs.Common.{◌≡◌, ◌≤◌, length}
use Rattle.hpack_tables.specs.Block.{max_list}
use Rattle.hpack_tables.specs.Reading.{block_at}
use Rattle.hpack_tables.proofs.Blocks.{read_all}
use Rattle.hpack_tables.proofs.decode.read_block.Given as goal

abbrev pub invariant-steps : goal.invariant-steps
invariant-steps l = record {
  so_far : read_all l.headers.items (length l.block) l.size l.may_update l.table l.rest ≡ block_at l.fn.table l.block;
  within : length l.rest ≤ length l.block;
  small : l.size ≤ max_list;
}

abbrev pub decreases-steps : goal.decreases-steps
decreases-steps l = length l.rest
