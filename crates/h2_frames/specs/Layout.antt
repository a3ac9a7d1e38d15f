-- The header of a frame (RFC 9113, section 4.1), and what it shows to be wrong with the frame (section 6).
use Rattle.std.specs.Prelude.{◌+◌, ◌*◌, ◌%◌, ◌==◌, ◌||◌, ◌&&◌, not, nat_lt, ℕ, Bool, List, [], ◌∷◌, slice_index, bit_and, Option, Some, None, if◌then◌else◌}
use Rattle.std.specs.Int.{w32, from_be_bytes}
use Rattle.h2_frames.specs.declared.fault.FrameFault.{FrameFault}
use Rattle.h2_frames.specs.declared.fault.FrameFault.TheVariants as faults
use Rattle.h2_frames.specs.declared.layout.Header.{Header}

-- whether a flag is set
abbrev pub has : ℕ → ℕ → Bool
has flag flags = not (bit_and flags flag == 0)

-- DATA, HEADERS, PRIORITY, RST_STREAM and CONTINUATION belong to a stream. So does PUSH_PROMISE, but the crate above
-- refuses it on any stream.
abbrev pub is_on_stream : ℕ → Bool
is_on_stream kind = kind == 0 || kind == 1 || kind == 2 || kind == 3 || kind == 9

-- SETTINGS, PING and GOAWAY belong to the connection
abbrev pub is_on_connection : ℕ → Bool
is_on_connection kind = kind == 4 || kind == 6 || kind == 7

-- with PADDED, one byte gives the length of the padding
abbrev pub pad_len : ℕ → ℕ
pad_len flags = if has 8 flags then 1 else 0

-- with PRIORITY, HEADERS has five bytes of priority fields
abbrev pub priority_len : ℕ → ℕ
priority_len flags = if has 32 flags then 5 else 0

-- the type does not allow the length (sections 6.1 to 6.10)
unfoldable pub is_bad_length : Header → Bool
is_bad_length h =
    if h.kind == 0 then nat_lt h.len (pad_len h.flags)
    else if h.kind == 1 then nat_lt h.len (pad_len h.flags + priority_len h.flags)
    else if h.kind == 2 then not (h.len == 5)
    else if h.kind == 3 || h.kind == 8 then not (h.len == 4)
    else if h.kind == 4 then not (h.len % 6 == 0) || (has 1 h.flags && not (h.len == 0))
    else if h.kind == 6 then not (h.len == 8)
    else (h.kind == 7 && nat_lt h.len 8)

-- the number in the four bytes at `i`, big-endian
abbrev pub number_at : ℕ → List ℕ → ℕ
number_at i text =
    from_be_bytes w32 (slice_index text i ∷ slice_index text (i + 1) ∷ slice_index text (i + 2) ∷ slice_index text (i + 3) ∷ [])

-- the header in the first nine bytes: length, type, flags, a bit that is ignored, and stream
unfoldable pub header_of : List ℕ → Header
header_of text = record {
  len = slice_index text 0 * 65536 + slice_index text 1 * 256 + slice_index text 2;
  kind = slice_index text 3;
  flags = slice_index text 4;
  stream = number_at 5 text % 0x8000_0000;
}

-- the first offence that the header shows of a frame whose first byte stands at `at`; the payload has at most 16,384
-- bytes (section 4.2)
unfoldable pub offence : ℕ → Header → Option FrameFault
offence at h =
    if nat_lt 16384 h.len then Some (faults.TooLong at)
    else if is_on_stream h.kind && h.stream == 0 then Some (faults.BadStream at)
    else if is_on_connection h.kind && not (h.stream == 0) then Some (faults.BadStream at)
    else if is_bad_length h then Some (faults.BadLength at)
    else None
