-- What stands at the beginning of some bytes: a proper prefix of a frame, a malformed frame, or a frame and its length
-- in bytes (RFC 9113, sections 4.1 and 6).
use Rattle.std.specs.Prelude.{◌≡◌, ◌+◌, ◌++◌, ◌-◌, ◌%◌, ◌==◌, nat_lt, ℕ, Bool, true, false, List, [], ◌∷◌, length, take, drop, slice_index, Option, Some, None, Result, Ok, Err, if◌then◌else◌}
use Rattle.std.specs.Int.{w16, w32, from_be_bytes}
use Rattle.proto_wire.specs.Steps.{◌>>=◌, FailsBut, GivesBut}
use Rattle.h2_frames.specs.declared.fault.FrameFault.{FrameFault}
use Rattle.h2_frames.specs.declared.fault.FrameFault.TheVariants as faults
use Rattle.h2_frames.specs.declared.frame.Frame.{Frame}
use Rattle.h2_frames.specs.declared.frame.Frame.TheVariants as frames
use Rattle.h2_frames.specs.declared.layout.Header.{Header}
use Rattle.h2_frames.specs.Layout.{has, priority_len, number_at, header_of, offence}

-- want of memory
abbrev pub wants_memory : FrameFault → Bool
wants_memory faults.OutOfMemory = true
wants_memory _ = false

-- what a refusal says of what reading gives: want of memory says nothing
abbrev pub Fails : {Y : Type 0} → FrameFault → Result Y FrameFault → Type 0
Fails e read = FailsBut wants_memory e read

-- what a function returned, seen by view, is what reading gives, unless memory ran out
abbrev pub Gives : {X Y : Type 0} → (X → Y) → Result X FrameFault → Result Y FrameFault → Type 0
Gives view result read = GivesBut wants_memory view result read

-- what is read next if the header shows no fault
abbrev pub unless_fault : {B : Type 0} → Option FrameFault → Result B FrameFault → Result B FrameFault
unless_fault None r = r
unless_fault (Some e) r = Err e

-- the content in front of so many bytes of padding
abbrev pub unpadded : ℕ → ℕ → List ℕ → Result (List ℕ) FrameFault
unpadded at pad text = if nat_lt (length text) pad then Err (faults.BadPadding at) else Ok (take (length text - pad) text)

-- the content of a payload that may be padded, behind so many bytes of priority fields
unfoldable pub content_at : ℕ → ℕ → ℕ → List ℕ → Result (List ℕ) FrameFault
content_at at flags skip payload =
    if has 8 flags then unpadded at (slice_index payload 0) (drop (1 + skip) payload) else Ok (drop skip payload)

-- the settings in a payload: each is two bytes of an identifier and four of a value
unfoldable pub settings_in : List ℕ → List (ℕ × ℕ)
settings_in (a ∷ b ∷ c ∷ d ∷ e ∷ f ∷ rest) =
    (from_be_bytes w16 (a ∷ b ∷ []), from_be_bytes w32 (c ∷ d ∷ e ∷ f ∷ [])) ∷ settings_in rest
settings_in _ = []

-- a frame of a type whose payload is not padded
unfoldable pub plain_of : Header → List ℕ → Frame
plain_of h payload =
    if h.kind == 2 then frames.Priority h.stream
    else if h.kind == 3 then frames.Reset h.stream (number_at 0 payload)
    else if h.kind == 4 then frames.Settings (has 1 h.flags) (settings_in payload)
    else if h.kind == 5 then frames.Push h.stream
    else if h.kind == 6 then frames.Ping (has 1 h.flags) payload
    else if h.kind == 7 then frames.GoAway (number_at 0 payload % 0x8000_0000) (number_at 4 payload)
    else if h.kind == 8 then frames.Window h.stream (number_at 0 payload % 0x8000_0000)
    else if h.kind == 9 then frames.Continuation h.stream payload (has 4 h.flags)
    else frames.Unknown h.kind

-- the frame of a payload
unfoldable pub payload_at : ℕ → Header → List ℕ → Result Frame FrameFault
payload_at at h payload =
    if h.kind == 0 then (do
      bytes ← content_at at h.flags 0 payload
      Ok (frames.Data h.stream bytes h.len (has 1 h.flags)))
    else if h.kind == 1 then (do
      block ← content_at at h.flags (priority_len h.flags) payload
      Ok (frames.Headers h.stream block (has 1 h.flags) (has 4 h.flags)))
    else Ok (plain_of h payload)

-- What stands at the beginning of bytes, the first of which stands at `at`. It is None if they are empty or a proper
-- prefix of a frame.
unfoldable pub frame_at : ℕ → List ℕ → Result (Option (Frame × ℕ)) FrameFault
frame_at at text =
    if nat_lt (length text) 9 then Ok None
    else unless_fault (offence at (header_of text)) (
    if nat_lt (length (drop 9 text)) (header_of text).len then Ok None
    else (do
      frame ← payload_at at (header_of text) (take (header_of text).len (drop 9 text))
      Ok (Some (frame, 9 + (header_of text).len))))

-- the bytes are read as this frame, wherever they stand and whatever follows
abbrev pub IsReadAs : List ℕ → Frame → Type 0
IsReadAs text f = (at : ℕ) (rest : List ℕ) → frame_at at (text ++ rest) ≡ Ok (Some (f, length text))
