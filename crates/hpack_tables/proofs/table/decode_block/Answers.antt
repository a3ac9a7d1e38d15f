use Rattle.std.proofs.Common.{◌≡◌, ap, arith}
use Rattle.hpack_tables.specs.Table.{TableState}
use Rattle.hpack_tables.proofs.Decoded.{found, only, refused}
use Rattle.hpack_tables.proofs.table.decode_block.Goals as goal

pub returns-in-Err-clause-only : goal.returns-in-Err-clause-only
returns-in-Err-clause-only c = λ headers last none is small.
    let same : c.table.inside.dynamic ≡ c.args.table.now.dynamic = ap (λ (t : TableState). t.dynamic) c.table.view_is in
    only c.args.table.now.dynamic c.read_block-read.new.table last c.args.block.now headers c.read_block-read.result (rw same at c.read_block-read.ensures) is small

pub returns-in-Err-clause-refused : goal.returns-in-Err-clause-refused
returns-in-Err-clause-refused c = λ none.
    let same : c.table.inside.dynamic ≡ c.args.table.now.dynamic = ap (λ (t : TableState). t.dynamic) c.table.view_is in
    refused c.args.table.now.dynamic c.read_block-read.new.table c.args.block.now c.read_block-read.result (λ i. omega (arith, c.type_inv.block i)) (rw same at c.read_block-read.ensures)

pub returns-in_default-read-clause-found : goal.returns-in_default-read-clause-found
returns-in_default-read-clause-found c =
    let same : c.table.inside.dynamic ≡ c.args.table.now.dynamic = ap (λ (t : TableState). t.dynamic) c.table.view_is in
    found c.args.table.now.dynamic c.read_block-read.new.table c.args.block.now c.read_block-read.result (λ i. omega (arith, c.type_inv.block i)) (rw same at c.read_block-read.ensures)

pub returns-in_default-read-clause-only : goal.returns-in_default-read-clause-only
returns-in_default-read-clause-only c = λ headers last none is small.
    let same : c.table.inside.dynamic ≡ c.args.table.now.dynamic = ap (λ (t : TableState). t.dynamic) c.table.view_is in
    only c.args.table.now.dynamic c.read_block-read.new.table last c.args.block.now headers c.read_block-read.result (rw same at c.read_block-read.ensures) is small
