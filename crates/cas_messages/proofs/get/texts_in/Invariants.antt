use Rattle.std.proofs.Common.{◌≡◌, map, drop}
use Rattle.proto_wire.specs.Field.{contents_of}
use Rattle.cas_messages.specs.Meaning.{each, text_from}
use Rattle.proto_wire.specs.Steps.{with_front}
use Rattle.cas_messages.proofs.get.texts_in.Given as goal

abbrev pub invariant-contents : goal.invariant-contents
invariant-contents l =
    with_front l.texts.items (each (λ index. text_from l.number) l.content-index (drop l.content-index (map (λ c. c.now) l.content-items)))
    ≡ each (λ index. text_from l.number) 0 (contents_of l.number l.fields)
