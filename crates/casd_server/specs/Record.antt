-- A record, its line, and the reader of lines.
use Rattle.std.specs.Prelude.{◌≡◌, ◌+◌, ◌-◌, ◌*◌, ◌<◌, ◌&&◌, nat_lt, nat_le, nat_eq, codes, ℕ, Bool, true, List, [], ◌∷◌, ◌++◌, length, map, Option, Some, None, if◌then◌else◌}
use Rattle.std.specs.List.{AllByRecursion, join_with_byte}
use Rattle.std.specs.Cmp.Lexicographic.{pointwise}
use Rattle.std.specs.Fmt.{decimal}
use Rattle.hex.specs.Hex.{encode_lower}
use Rattle.proto_wire.specs.Reading.{IsBytes}
use Rattle.digest_types.specs.Hex.{unhex_of}
use Rattle.casd_server.specs.declared.word.Word.{Word}
use Rattle.casd_server.specs.declared.record_line.Record.{Record}
use Rattle.casd_server.specs.Word.{name_of, word_of, takes}
use Rattle.casd_server.specs.Cut.{cut_at, pieces_of}

-- a record without where its messages lie in memory
pub record Asked : Type 0 where
  pub seat : ℕ
  pub word : Word
  pub messages : List (List ℕ)

abbrev pub record_view : Record → Asked
record_view r = record { seat = r.seat; word = r.word; messages = r.messages.items }

-- how many bytes a line has at most, without its newline
abbrev pub max_line : ℕ
max_line = 33_554_432

-- a message as text: lower-case hex, or a dot for an empty one
abbrev pub message_text : List ℕ → List ℕ
message_text [] = codes "."
message_text (b ∷ bs) = encode_lower (b ∷ bs)

-- messages joined by commas, or a dash where there is none
abbrev pub messages_text : List (List ℕ) → List ℕ
messages_text [] = codes "-"
messages_text (m ∷ ms) = join_with_byte 44 (map message_text (m ∷ ms))

-- the line of a record: seat, word and messages with a space between each two
abbrev pub line_of : Asked → List ℕ
line_of r = decimal r.seat ++ (32 ∷ name_of r.word ++ (32 ∷ messages_text r.messages))

-- what is a record: a seat below 100, with a word that it may have, and messages of bytes
pub record IsRecord (r : Asked) : Type 0 where
  pub seat : r.seat < 100
  pub word : takes r.seat r.word (length r.messages) ≡ true
  pub bytes : AllByRecursion IsBytes r.messages

-- whether this is a decimal digit
abbrev pub is_digit_byte : ℕ → Bool
is_digit_byte b = nat_le 48 b && nat_le b 57

-- the number below 100 that is written so, without a leading zero
unfoldable pub seat_of : List ℕ → Option ℕ
seat_of [] = None
seat_of (a ∷ []) = if is_digit_byte a then Some (a - 48) else None
seat_of (a ∷ b ∷ []) = if is_digit_byte a && is_digit_byte b && nat_lt 48 a then Some (10 * (a - 48) + (b - 48)) else None
seat_of (a ∷ b ∷ c ∷ rest) = None

-- the message that is written so
unfoldable pub message_of : List ℕ → Option (List ℕ)
message_of [] = None
message_of (b ∷ bs) = if pointwise nat_eq (b ∷ bs) (codes ".") then Some [] else unhex_of (b ∷ bs)

-- a value before some more, where there are both
abbrev pub both_of : Option (List ℕ) → Option (List (List ℕ)) → Option (List (List ℕ))
both_of None others = None
both_of (Some m) None = None
both_of (Some m) (Some ms) = Some (m ∷ ms)

-- the messages that are written so, one to a piece
unfoldable pub each_of : List (List ℕ) → Option (List (List ℕ))
each_of [] = Some []
each_of (piece ∷ pieces) = both_of (message_of piece) (each_of pieces)

-- the messages that are written so
unfoldable pub messages_of : List ℕ → Option (List (List ℕ))
messages_of text = if pointwise nat_eq text (codes "-") then Some [] else each_of (pieces_of 44 text)

-- a record of these parts, where each was read and they go together
abbrev pub joined_parts : Option ℕ → Option Word → Option (List (List ℕ)) → Option Asked
joined_parts None word messages = None
joined_parts (Some seat) None messages = None
joined_parts (Some seat) (Some word) None = None
joined_parts (Some seat) (Some word) (Some messages) =
    if takes seat word (length messages) then Some (record { seat = seat; word = word; messages = messages }) else None

-- the parts behind the seat
abbrev pub parts_behind : Option ℕ → Option (List ℕ × List ℕ) → Option Asked
parts_behind seat None = None
parts_behind seat (Some c) = joined_parts seat (word_of c.0) (messages_of c.1)

-- the parts of a line
abbrev pub parts_of : Option (List ℕ × List ℕ) → Option Asked
parts_of None = None
parts_of (Some c) = parts_behind (seat_of c.0) (cut_at 32 c.1)

-- The record of a line, or `None` if the line is malformed.
unfoldable pub record_of : List ℕ → Option Asked
record_of line = if nat_lt max_line (length line) then None else parts_of (cut_at 32 line)
