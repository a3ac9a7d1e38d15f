-- What a text is made of.
use Rattle.std.specs.Prelude.{List, ℕ, string_bytes}
use Rattle.proto_wire.specs.declared.utf8.Held.{Held}
use Rattle.proto_wire.specs.declared.utf8.Held.TheVariants.{InPlace, OnHeap}

-- the bytes of the text, wherever it is kept
abbrev pub held_bytes : Held → List ℕ
held_bytes (InPlace s) = s.bytes
held_bytes (OnHeap s) = string_bytes s
