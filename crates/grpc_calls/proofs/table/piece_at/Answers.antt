use Rattle.grpc_calls.specs.declared.call.Reading.{Reading}
use Rattle.grpc_calls.specs.Streams.{pieced}
use Rattle.grpc_calls.proofs.TableLaws.{row_told}
use Rattle.grpc_calls.proofs.table.piece_at.Goals as goal

pub returns : goal.returns
returns c =
    row_told c.args.client c.args.stream c.args.calls.now.items c.take_reading-reading.new.calls.items c.put_reading.new.calls.items c.args.i c.requires c.take_reading-reading.result c.in_ok-reading.reading
    (λ (r : Reading). pieced c.args.client c.args.stream c.args.bytes.now c.args.end r) c.args.events.now.items c.on_piece.new.events.items
    c.take_reading-reading.ensures.reading c.take_reading-reading.ensures.calls c.in_ok-reading.ensures c.put_reading.ensures
