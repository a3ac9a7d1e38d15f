use Rattle.std.proofs.Common.{refl}
use Rattle.cas_messages.specs.Table.{◌&◌}
use Rattle.cas_messages.specs.declared.capabilities.GetCapabilitiesRequest.{GetCapabilitiesRequest}
use Rattle.cas_messages.specs.Meaning.{message_in}
use Rattle.cas_messages.specs.Tables.{get_capabilities_request}
use Rattle.live_calls.specs.Turns.{capable_by}
use Rattle.live_calls.proofs.TurnLaws.{ends_capable, ends_refused}
use Rattle.live_calls.proofs.caps.answer.Goals as goal

pub returns-in-Ok : goal.returns-in-Ok
returns-in-Ok g c = ends_capable (message_in get_capabilities_request c.args.message.now) _ c.reply.result c.spell.result c.in-Ok.ensures c.reply.ensures c.spell.ensures

pub returns-in-Err : goal.returns-in-Err
returns-in-Err g c = ends_refused (λ (m : GetCapabilitiesRequest). m.instance_name & tt) capable_by c.in-Err.fault (message_in get_capabilities_request c.args.message.now) c.refuse.result c.fault_status.result (λ e. refl) c.in-Err.ensures c.refuse.ensures c.fault_status.ensures
