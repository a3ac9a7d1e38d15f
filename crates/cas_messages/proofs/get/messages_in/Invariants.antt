use Rattle.std.proofs.Common.{◌≡◌, map, drop}
use Rattle.proto_wire.specs.Field.{contents_of}
use Rattle.cas_messages.specs.Fault.{with_fault, inside}
use Rattle.cas_messages.specs.Meaning.{each, message_in}
use Rattle.proto_wire.specs.Steps.{with_front}
use Rattle.cas_messages.proofs.get.messages_in.Given as goal

abbrev pub invariant-contents : goal.invariant-contents
invariant-contents g l =
    with_front (map g.T.Message.value l.messages.items) (each (λ index c. with_fault (inside l.number index) (message_in g.T.Message.table c)) l.index (drop l.index (map (λ c. c.now) l.content-items)))
    ≡ each (λ index c. with_fault (inside l.number index) (message_in g.T.Message.table c)) 0 (contents_of l.number l.fields)
