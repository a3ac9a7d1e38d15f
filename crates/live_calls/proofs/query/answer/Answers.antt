use Rattle.std.proofs.Common.{◌^◌, Ok, Err, refl, arith}
use Rattle.cas_messages.specs.declared.byte_stream.QueryWriteStatusRequest.{QueryWriteStatusRequest}
use Rattle.cas_calls.specs.Script.{Room}
use Rattle.byte_stream.specs.Query.{query_script, query_request_in, response_spelled}
use Rattle.live_calls.specs.Turns.{wanting, query_by, queried}
use Rattle.live_calls.proofs.TurnLaws.{plays_ends, plays_read, plays_then, ends_refused, ends_replied, ends_as}
use Rattle.live_calls.proofs.query.answer.Goals as goal

pub returns-in-Ok-query : goal.returns-in-Ok-query
returns-in-Ok-query g c = λ x.
    plays_read query_by (query_request_in c.args.message.now) c.in-Ok.request c.reply.result (g.D.Door.view c.args.door.now) (g.D.Door.view c.query.new.door) x x (2 ^ 22) c.in-Ok.ensures
    (plays_then (query_script c.in-Ok.request.resource_name) queried (Ok c.in-Ok-query.response) c.reply.result (g.D.Door.view c.args.door.now) (g.D.Door.view c.query.new.door) x x 1 (2 ^ 22) (omega arith) (c.in-Ok-query.ensures x)
    (ends_replied c.reply.result c.write.result (response_spelled c.in-Ok-query.response) c.reply.ensures c.write.ensures.value))

pub returns-in-Ok : goal.returns-in-Ok
returns-in-Ok g c = λ x.
    plays_read query_by (query_request_in c.args.message.now) c.in-Ok.request c.refuse.result (g.D.Door.view c.args.door.now) (g.D.Door.view c.query.new.door) x x (2 ^ 22) c.in-Ok.ensures
    (plays_then (query_script c.in-Ok.request.resource_name) queried (Err c.in-Err-query.status) c.refuse.result (g.D.Door.view c.args.door.now) (g.D.Door.view c.query.new.door) x x 1 (2 ^ 22) (omega arith) (c.in-Err-query.ensures x) (ends_as _ c.refuse.result c.refuse.ensures))

pub returns : goal.returns
returns g c = λ x.
    plays_ends (Room wanting (query_by (query_request_in c.args.message.now))) c.refuse-in-Err.result (g.D.Door.view c.args.door.now) x (2 ^ 22) (record { is_in = c.requires.is_in; seated = c.left-turns.ensures.seated c.requires.is_in })
    (ends_refused (λ (r : QueryWriteStatusRequest). r) query_by c.in-Err.fault (query_request_in c.args.message.now) c.refuse-in-Err.result c.fault_status.result (λ e. refl) c.in-Err.ensures c.refuse-in-Err.ensures c.fault_status.ensures)
