-- The spellings of a frame (RFC 9113, sections 4.1 and 6): a header of nine bytes and a payload.
use Rattle.std.specs.Prelude.{◌≡◌, ◌+◌, ◌*◌, ◌/◌, ◌%◌, ◌^◌, ◌<◌, ◌≤◌, ℕ, Bool, true, false, List, [], ◌∷◌, ◌++◌, length, IsTrue, if◌then◌else◌}
use Rattle.std.specs.List.{flat_map}
use Rattle.std.specs.Int.{w16, w32, to_be_bytes}
use Rattle.h2_frames.specs.declared.frame.Frame.{Frame}
use Rattle.h2_frames.specs.declared.frame.Frame.TheVariants as frames
use Rattle.h2_frames.specs.Layout.{has, priority_len}

-- a number below 2^24 in three bytes, big-endian
abbrev pub three_bytes : ℕ → List ℕ
three_bytes n = n / 65536 ∷ n / 256 % 256 ∷ n % 256 ∷ []

-- a header: length, type, flags, the reserved bit, and a stream below 2^31
abbrev pub header_bytes : ℕ → ℕ → ℕ → ℕ → ℕ → List ℕ
header_bytes len kind flags bit stream = three_bytes len ++ (kind ∷ flags ∷ to_be_bytes w32 (bit * 2 ^ 31 + stream))

-- the type of a frame
abbrev pub kind_of : Frame → ℕ
kind_of (frames.Data stream bytes size end_stream) = 0
kind_of (frames.Headers stream block end_stream end_headers) = 1
kind_of (frames.Priority stream) = 2
kind_of (frames.Reset stream code) = 3
kind_of (frames.Settings ack values) = 4
kind_of (frames.Push stream) = 5
kind_of (frames.Ping ack bytes) = 6
kind_of (frames.GoAway last code) = 7
kind_of (frames.Window stream increment) = 8
kind_of (frames.Continuation stream block end_headers) = 9
kind_of (frames.Unknown kind) = kind

-- a number of 31 bits behind a reserved bit
pub record IsNumber31 (text : List ℕ) (n : ℕ) : Type 0 where
  pub bit : ℕ
  pub bit_small : bit < 2
  pub small : n < 2 ^ 31
  pub whole : text ≡ to_be_bytes w32 (bit * 2 ^ 31 + n)

-- The content stands behind so many bytes of fields. With padding, the length of the padding comes before these fields,
-- and the padding behind the content.
abbrev pub IsPadded : Bool → ℕ → List ℕ → List ℕ → Type 0
IsPadded false skip payload content = (fields : List ℕ) × (length fields ≡ skip) × (payload ≡ fields ++ content)
IsPadded true skip payload content = (fields : List ℕ) × (padding : List ℕ) × (length fields ≡ skip)
    × (payload ≡ length padding ∷ (fields ++ (content ++ padding)))

-- a setting: two bytes of an identifier, and four of a value
abbrev pub setting : ℕ × ℕ → List ℕ
setting s = to_be_bytes w16 s.0 ++ to_be_bytes w32 s.1

-- settings one after the other
abbrev pub AreSettings : List ℕ → List (ℕ × ℕ) → Type 0
AreSettings text [] = text ≡ []
AreSettings text (s ∷ ss) = (rest : List ℕ) × (s.0 < 2 ^ 16) × (s.1 < 2 ^ 32) × (text ≡ setting s ++ rest) × AreSettings rest ss

-- The flags, the stream and the payload of a frame: END_STREAM and ACK are 1, END_HEADERS is 4, PADDED is 8, and
-- PRIORITY is 32.
abbrev pub IsPayload : ℕ → ℕ → List ℕ → Frame → Type 0
IsPayload flags on payload (frames.Data stream bytes size end_stream) =
    (stream ≡ on) × (0 < on) × (size ≡ length payload) × (end_stream ≡ has 1 flags) × IsPadded (has 8 flags) 0 payload bytes
IsPayload flags on payload (frames.Headers stream block end_stream end_headers) =
    (stream ≡ on) × (0 < on) × (end_stream ≡ has 1 flags) × (end_headers ≡ has 4 flags)
    × IsPadded (has 8 flags) (priority_len flags) payload block
IsPayload flags on payload (frames.Priority stream) = (stream ≡ on) × (0 < on) × (length payload ≡ 5)
IsPayload flags on payload (frames.Reset stream code) =
    (stream ≡ on) × (0 < on) × (code < 2 ^ 32) × (payload ≡ to_be_bytes w32 code)
IsPayload flags on payload (frames.Settings ack values) =
    (on ≡ 0) × (ack ≡ has 1 flags) × (IsTrue ack → payload ≡ []) × AreSettings payload values
IsPayload flags on payload (frames.Push stream) = stream ≡ on
IsPayload flags on payload (frames.Ping ack bytes) =
    (on ≡ 0) × (ack ≡ has 1 flags) × (length payload ≡ 8) × (payload ≡ bytes)
IsPayload flags on payload (frames.GoAway last code) =
    (on ≡ 0) × ((front : List ℕ) × (debug : List ℕ) × IsNumber31 front last × (code < 2 ^ 32)
    × (payload ≡ front ++ (to_be_bytes w32 code ++ debug)))
IsPayload flags on payload (frames.Window stream increment) = (stream ≡ on) × IsNumber31 payload increment
IsPayload flags on payload (frames.Continuation stream block end_headers) =
    (stream ≡ on) × (0 < on) × (end_headers ≡ has 4 flags) × (payload ≡ block)
IsPayload flags on payload (frames.Unknown kind) = 9 < kind

-- a spelling of a frame
pub record IsSpelling (text : List ℕ) (f : Frame) : Type 0 where
  pub flags : ℕ
  pub bit : ℕ
  pub on : ℕ
  pub payload : List ℕ
  pub whole : text ≡ header_bytes (length payload) (kind_of f) flags bit on ++ payload
  pub short : length payload ≤ 16384
  pub bit_small : bit < 2
  pub on_small : on < 2 ^ 31
  pub content : IsPayload flags on payload f

-- ---- what is written

-- a flag if it is set, and no flag otherwise
abbrev pub flag : Bool → ℕ → ℕ
flag set n = if set then n else 0

-- a frame with this payload
abbrev pub framed : ℕ → ℕ → ℕ → List ℕ → List ℕ
framed kind flags stream payload = header_bytes (length payload) kind flags 0 stream ++ payload

-- the frame without padding and priority fields
unfoldable pub spelled : Frame → List ℕ
spelled (frames.Data stream bytes size end_stream) = framed 0 (flag end_stream 1) stream bytes
spelled (frames.Headers stream block end_stream end_headers) = framed 1 (flag end_stream 1 + flag end_headers 4) stream block
spelled (frames.Priority stream) = framed 2 0 stream (0 ∷ 0 ∷ 0 ∷ 0 ∷ 0 ∷ [])
spelled (frames.Reset stream code) = framed 3 0 stream (to_be_bytes w32 code)
spelled (frames.Settings ack values) = framed 4 (flag ack 1) 0 (flat_map setting values)
spelled (frames.Push stream) = framed 5 0 stream []
spelled (frames.Ping ack bytes) = framed 6 (flag ack 1) 0 bytes
spelled (frames.GoAway last code) = framed 7 0 0 (to_be_bytes w32 last ++ to_be_bytes w32 code)
spelled (frames.Window stream increment) = framed 8 0 stream (to_be_bytes w32 increment)
spelled (frames.Continuation stream block end_headers) = framed 9 (flag end_headers 4) stream block
spelled (frames.Unknown kind) = framed kind 0 0 []

-- the number of a stream other than the connection's, 0
abbrev pub IsStreamNumber : ℕ → Type 0
IsStreamNumber stream = (0 < stream) × (stream < 2 ^ 31)

-- what may be written
abbrev pub Writable : Frame → Type 0
Writable (frames.Data stream bytes size end_stream) = IsStreamNumber stream × (size ≡ length bytes) × (length bytes ≤ 16384)
Writable (frames.Headers stream block end_stream end_headers) = IsStreamNumber stream × (length block ≤ 16384)
Writable (frames.Priority stream) = IsStreamNumber stream
Writable (frames.Reset stream code) = IsStreamNumber stream
Writable (frames.Settings ack values) = (6 * length values ≤ 16384) × (IsTrue ack → values ≡ [])
Writable (frames.Push stream) = stream < 2 ^ 31
Writable (frames.Ping ack bytes) = Unit {0}
Writable (frames.GoAway last code) = last < 2 ^ 31
Writable (frames.Window stream increment) = (stream < 2 ^ 31) × (increment < 2 ^ 31)
Writable (frames.Continuation stream block end_headers) = IsStreamNumber stream × (length block ≤ 16384)
Writable (frames.Unknown kind) = 9 < kind

-- each setting is two bytes of an identifier and four of a value
abbrev pub HasSettings : List (ℕ × ℕ) → Type 0
HasSettings [] = Unit {0}
HasSettings (s ∷ ss) = (s.0 < 2 ^ 16) × (s.1 < 2 ^ 32) × HasSettings ss

-- each number fits its type in the code
abbrev pub IsTyped : Frame → Type 0
IsTyped (frames.Data stream bytes size end_stream) = Unit {0}
IsTyped (frames.Headers stream block end_stream end_headers) = Unit {0}
IsTyped (frames.Priority stream) = Unit {0}
IsTyped (frames.Reset stream code) = code < 2 ^ 32
IsTyped (frames.Settings ack values) = HasSettings values
IsTyped (frames.Push stream) = Unit {0}
IsTyped (frames.Ping ack bytes) = length bytes ≡ 8
IsTyped (frames.GoAway last code) = code < 2 ^ 32
IsTyped (frames.Window stream increment) = Unit {0}
IsTyped (frames.Continuation stream block end_headers) = Unit {0}
IsTyped (frames.Unknown kind) = Unit {0}

-- a prefix of the text was appended: nothing, a part or all of it
pub record AddsPart (old new text : List ℕ) : Type 0 where
  pub front : List ℕ
  pub rest : List ℕ
  pub added : new ≡ old ++ front
  pub whole : front ++ rest ≡ text
