use Rattle.grpc_calls.specs.declared.call.Reading.{Reading}
use Rattle.grpc_calls.specs.Streams.{headed}
use Rattle.grpc_calls.proofs.TableLaws.{row_told}
use Rattle.grpc_calls.proofs.table.headers_at.Goals as goal

pub returns : goal.returns
returns c =
    row_told c.args.client c.args.stream c.args.calls.now.items c.take_reading-reading.new.calls.items c.put_reading.new.calls.items c.args.i c.requires c.take_reading-reading.result c.in_ok-reading.reading
    (λ (r : Reading). headed c.args.client c.args.stream c.args.headers.now c.args.end r) c.args.events.now.items c.on_headers.new.events.items
    c.take_reading-reading.ensures.reading c.take_reading-reading.ensures.calls c.in_ok-reading.ensures c.put_reading.ensures
