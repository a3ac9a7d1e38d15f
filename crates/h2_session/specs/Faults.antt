-- What a peer may not send (RFC 9113, sections 3.4, 5 and 6): the offences that end the connection. Those that a frame shows by
-- itself are found before it is here.
use Rattle.std.specs.Prelude.{◌+◌, ◌%◌, ◌==◌, ◌&&◌, ◌||◌, not, nat_lt, ℕ, Bool, true, false, List, ◌++◌, length, Option, Some, None, Result, Err, if◌then◌else◌}
use Rattle.std.specs.List.{list_any}
use Rattle.h2_frames.specs.declared.frame.Frame.{Frame}
use Rattle.h2_frames.specs.declared.frame.Frame.TheVariants as frames
use Rattle.hpack_tables.specs.declared.header.Header.{Header}
use Rattle.hpack_tables.specs.declared.fault.HpackFault.{HpackFault}
use Rattle.hpack_tables.specs.declared.fault.HpackFault.TheVariants as faults
use Rattle.hpack_tables.specs.Table.{HeaderTable}
use Rattle.hpack_tables.specs.Reading.{block_at}
use Rattle.h2_session.specs.Codes.{protocol_error, flow_control_error, stream_closed, compression_error, enhance_your_calm, max_window, first_window, max_block}
use Rattle.h2_session.specs.declared.role.Role.{Role}
use Rattle.h2_session.specs.declared.role.Role.TheVariants as roles
use Rattle.h2_session.specs.declared.stream.Stream.{Stream}
use Rattle.h2_session.specs.declared.block.Block.{Block}
use Rattle.h2_session.specs.Part.{Part, stream_of}
use Rattle.h2_session.specs.Windows.{passes_max}

-- ---- tests of one frame, by the part of the connection before it

abbrev pub is_server : Role → Bool
is_server roles.Server = true
is_server roles.Client = false

abbrev pub is_client : Role → Bool
is_client role = not (is_server role)

-- a live stream that the peer has half-closed, or hasn't
abbrev pub is_ended : Option Stream → Bool
is_ended None = false
is_ended (Some s) = s.ended

abbrev pub is_open : Option Stream → Bool
is_open None = false
is_open (Some s) = not s.ended

-- one more fragment of a header block
abbrev pub with_fragment : List ℕ → Option Block → Option Block
with_fragment bytes None = None
with_fragment bytes (Some b) = Some (record b { bytes = b.bytes ++ bytes })

abbrev pub decoded_of : HeaderTable → Bool → Option Block → Option (Result (List Header × HeaderTable) HpackFault)
decoded_of table true (Some block) = Some (block_at table block.bytes)
decoded_of table _ _ = None

-- SETTINGS without ACK come first (section 3.4)
abbrev pub is_settings : Frame → Bool
is_settings (frames.Settings ack values) = not ack
is_settings _ = false

-- within a header block only its CONTINUATION comes, and nowhere else (sections 6.2 and 6.10)
abbrev pub continues : Option Block → Frame → Bool
continues None (frames.Continuation stream block whole) = false
continues None _ = true
continues (Some b) (frames.Continuation stream block whole) = b.stream == stream
continues (Some b) _ = false

abbrev pub is_push : Frame → Bool
is_push (frames.Push stream) = true
is_push _ = false

-- SETTINGS_ENABLE_PUSH is 0 or 1, and 0 of a server; SETTINGS_MAX_FRAME_SIZE is 2^14 to 2^24 - 1 (section 6.5.2)
abbrev pub is_bad_setting : Role → ℕ × ℕ → Bool
is_bad_setting roles.Server s = (s.0 == 2 && nat_lt 1 s.1) || (s.0 == 5 && (nat_lt s.1 16384 || nat_lt 16777215 s.1))
is_bad_setting roles.Client s = (s.0 == 2 && nat_lt 0 s.1) || (s.0 == 5 && (nat_lt s.1 16384 || nat_lt 16777215 s.1))

abbrev pub has_bad_setting : Role → Frame → Bool
has_bad_setting role (frames.Settings ack values) = list_any (is_bad_setting role) values
has_bad_setting role _ = false

-- SETTINGS_INITIAL_WINDOW_SIZE is no larger than a window may be, and makes none larger than that (sections 6.5.2 and 6.9.2)
abbrev pub lifts_too_far : List Stream → ℕ × ℕ → Bool
lifts_too_far streams s = s.0 == 4 && (nat_lt max_window s.1 || list_any (λ (x : Stream). passes_max s.1 x.flow) streams)

abbrev pub has_bad_window : Part → Frame → Bool
has_bad_window p (frames.Settings ack values) = list_any (lifts_too_far p.streams) values
has_bad_window p _ = false

-- the connection's window grows, and not too far (sections 6.9 and 6.9.1)
abbrev pub adds_nothing : Frame → Bool
adds_nothing (frames.Window stream increment) = stream == 0 && increment == 0
adds_nothing _ = false

abbrev pub adds_too_much : Part → Frame → Bool
adds_too_much p (frames.Window stream increment) = stream == 0 && nat_lt max_window (p.window + increment)
adds_too_much p _ = false

-- a client begins odd streams (section 5.1.1)
abbrev pub is_even : ℕ → Bool
is_even n = n % 2 == 0

abbrev pub begins_even : Part → Frame → Bool
begins_even p (frames.Headers stream block end whole) = is_server p.role && is_even stream
begins_even p _ = false

-- a stream that was not begun is idle (section 5.1)
abbrev pub is_idle : Part → Frame → Bool
is_idle p (frames.Data stream bytes size end) = nat_lt p.highest stream
is_idle p (frames.Reset stream code) = nat_lt p.highest stream
is_idle p (frames.Window stream increment) = nat_lt p.highest stream
is_idle p (frames.Headers stream block end whole) = is_client p.role && (is_even stream || nat_lt p.highest stream)
is_idle p _ = false

-- trailers end the stream (section 8.1)
abbrev pub goes_on : Part → Frame → Bool
goes_on p (frames.Headers stream block end whole) = is_server p.role && not end && is_open (stream_of stream p)
goes_on p _ = false

-- a stream that the peer has half-closed gets no more of it (section 5.1)
abbrev pub is_late : Part → Frame → Bool
is_late p (frames.Data stream bytes size end) = is_ended (stream_of stream p)
is_late p (frames.Headers stream block end whole) = is_ended (stream_of stream p)
is_late p _ = false

-- Each DATA frame's bytes are granted again at once, so that the windows of the peer are always what they were at first
-- (section 6.9.1).
abbrev pub passes_window : Frame → Bool
passes_window (frames.Data stream bytes size end) = nat_lt first_window size
passes_window _ = false

-- ---- header blocks

-- the fragments of a block that have come, with this one
abbrev pub gathered : Part → Frame → Option Block
gathered p (frames.Headers stream block end whole) = Some (record { stream = stream; bytes = block; end = end; begins = is_server p.role && nat_lt p.highest stream })
gathered p (frames.Continuation stream block whole) = with_fragment block p.block
gathered p _ = None

abbrev pub is_whole : Frame → Bool
is_whole (frames.Headers stream block end whole) = whole
is_whole (frames.Continuation stream block whole) = whole
is_whole _ = false

-- the headers of a block that has ended, and the table after it
abbrev pub decoded : Part → Frame → Option (Result (List Header × HeaderTable) HpackFault)
decoded p f = decoded_of p.table (is_whole f) (gathered p f)

abbrev pub is_long_block : Option Block → Bool
is_long_block None = false
is_long_block (Some b) = nat_lt max_block (length b.bytes)

-- the list of headers is too long (section 6.5.2), or the block is malformed (section 4.3)
abbrev pub is_long_list : Option (Result (List Header × HeaderTable) HpackFault) → Bool
is_long_list (Some (Err (faults.ListTooLong at))) = true
is_long_list _ = false

abbrev pub is_bad_block : Option (Result (List Header × HeaderTable) HpackFault) → Bool
is_bad_block (Some (Err e)) = true
is_bad_block _ = false

-- ---- the table of offences, tried from top to bottom

-- what the frame shows
abbrev pub frame_offence : Part → Frame → Option ℕ
frame_offence p f =
    if not (p.begun || is_settings f) then Some protocol_error
    else if not (continues p.block f) then Some protocol_error
    else if is_push f then Some protocol_error
    else if has_bad_setting p.role f then Some protocol_error
    else if has_bad_window p f then Some flow_control_error
    else if adds_nothing f then Some protocol_error
    else if adds_too_much p f then Some flow_control_error
    else if begins_even p f then Some protocol_error
    else if is_idle p f then Some protocol_error
    else if goes_on p f then Some protocol_error
    else if is_late p f then Some stream_closed
    else if passes_window f then Some flow_control_error
    else None

-- what its header block shows
abbrev pub block_offence : Part → Frame → Option ℕ
block_offence p f =
    if is_long_block (gathered p f) then Some enhance_your_calm
    else if is_long_list (decoded p f) then Some enhance_your_calm
    else if is_bad_block (decoded p f) then Some compression_error
    else None

-- why a block is refused
abbrev pub refusal_code : HpackFault → Option ℕ
refusal_code (faults.ListTooLong at) = Some enhance_your_calm
refusal_code faults.OutOfMemory = None
refusal_code _ = Some compression_error

-- the same of a block, by itself
abbrev pub decoding_offence : Option (Result (List Header × HeaderTable) HpackFault) → Option ℕ
decoding_offence d =
    if is_long_list d then Some enhance_your_calm
    else if is_bad_block d then Some compression_error
    else None

abbrev pub fragment_offence : HeaderTable → Bool → Block → Option ℕ
fragment_offence table whole block =
    if nat_lt max_block (length block.bytes) then Some enhance_your_calm
    else decoding_offence (decoded_of table whole (Some block))

abbrev pub or_else : Option ℕ → Option ℕ → Option ℕ
or_else None other = other
or_else (Some code) other = Some code

abbrev pub offence : Part → Frame → Option ℕ
offence p f = or_else (frame_offence p f) (block_offence p f)

-- the same table, of each kind of frame that has rows of its own, where the first SETTINGS have come and no block is unfinished
abbrev pub window_offence : ℕ → ℕ → Part → Option ℕ
window_offence stream increment p =
    if stream == 0 && increment == 0 then Some protocol_error
    else if stream == 0 && nat_lt max_window (p.window + increment) then Some flow_control_error
    else if nat_lt p.highest stream then Some protocol_error
    else None

abbrev pub headers_offence : ℕ → Bool → Part → Option ℕ
headers_offence stream end p =
    if is_server p.role && is_even stream then Some protocol_error
    else if is_client p.role && (is_even stream || nat_lt p.highest stream) then Some protocol_error
    else if is_server p.role && not end && is_open (stream_of stream p) then Some protocol_error
    else if is_ended (stream_of stream p) then Some stream_closed
    else None

abbrev pub data_offence : ℕ → ℕ → Part → Option ℕ
data_offence stream size p =
    if nat_lt p.highest stream then Some protocol_error
    else if is_ended (stream_of stream p) then Some stream_closed
    else if nat_lt first_window size then Some flow_control_error
    else None
