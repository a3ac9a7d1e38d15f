-- The text of a status in a header (gRPC over HTTP/2, Percent-Encoded).
use Rattle.std.specs.Prelude.{◌==◌, ◌&&◌, not, nat_le, ℕ, List, [], ◌∷◌, if◌then◌else◌}
use Rattle.std.specs.List.{flat_map}
use Rattle.std.specs.Str.Lossy.{utf8_lossy}
use Rattle.percent_encoding.specs.Percent.{percent_encode_byte, percent_decode}

-- a byte: printable ASCII but `%` as it is, any other as `%` and two upper-case hex digits
abbrev pub escaped_byte : ℕ → List ℕ
escaped_byte b = if nat_le 32 b && nat_le b 126 && not (b == 37) then b ∷ [] else percent_encode_byte b

abbrev pub escaped : List ℕ → List ℕ
escaped text = flat_map escaped_byte text

-- Read back: each `%` with two hex digits is a byte, any other stays, and what is not UTF-8 then becomes U+FFFD.
abbrev pub unescaped : List ℕ → List ℕ
unescaped bytes = utf8_lossy (percent_decode bytes)
