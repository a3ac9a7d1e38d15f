-- What is spelled so is read.
use Rattle.std.proofs.Common.{◌≡◌, ℕ, suc, ◌+◌, ◌-◌, ◌*◌, ◌/◌, ◌%◌, ◌^◌, ◌<◌, ◌≤◌, Bool, true, false, cond, not, eqb, ltb, Ok, Some, List, [], ◌∷◌, ◌++◌, length, refl, sym, ap, ◌∙◌, arith}
use Rattle.std.specs.Prelude.{◌&&◌, ◌||◌, IsTrue}
use Rattle.std.specs.Int.{w16, w32, from_be_bytes, to_be_bytes}
use Rattle.std.proofs.lemmas.Bool.{le-ltb, ne_eqb, eq-eqb}
use Rattle.std.proofs.lemmas.List.{length-append, take_at, drop_at}
use Rattle.std.proofs.lemmas.Nat.{from_be_bytes-to_be_bytes_2, from_be_bytes-to_be_bytes_4}
use Rattle.h2_frames.specs.declared.frame.Frame.{Frame}
use Rattle.h2_frames.specs.declared.frame.Frame.TheVariants as frames
use Rattle.h2_frames.specs.declared.layout.Header.{Header}
use Rattle.h2_frames.specs.Layout.{has, pad_len, priority_len, is_bad_length, number_at, header_of}
use Rattle.h2_frames.specs.Reading.{content_at, settings_in, plain_of, payload_at, frame_at}
use Rattle.h2_frames.specs.Spelling.{header_bytes, kind_of, IsNumber31, IsPadded, setting, AreSettings, IsPayload, IsSpelling}
use Rattle.h2_frames.proofs.Headers.{Sound, no_offence}

-- the header of a payload of so many bytes
abbrev pub head : ℕ → ℕ → ℕ → ℕ → Header
head len kind flags on = record { len = len; kind = kind; flags = flags; stream = on }

-- ---- the content of a payload that may be padded

content_of : (at flags skip : ℕ) (payload content : List ℕ) (b : Bool) → has 8 flags ≡ b → IsPadded b skip payload content → content_at at flags skip payload ≡ Ok content
unfolding content_at
content_of at flags skip payload content false e p = rw (e, p.2, drop_at p.0 content skip p.1) refl
content_of at flags skip payload content true e p =
    let fields = p.0 in
    let padding = p.1 in
    let one : 1 + skip ≡ suc skip = omega arith in
    let long : ltb (length (content ++ padding)) (length padding) ≡ false = le-ltb _ _ (omega (arith, length-append content padding)) in
    let len : length content ≡ length (content ++ padding) - length padding = omega (arith, length-append content padding) in
    rw (e, p.3, one, drop_at fields (content ++ padding) skip p.2, long, take_at content padding (length (content ++ padding) - length padding) len) refl

content_long : (skip : ℕ) (payload content : List ℕ) (b : Bool) → IsPadded b skip payload content → cond b 1 0 + skip ≤ length payload
content_long skip payload content false p = omega (arith, p.1, ap length p.2, length-append p.0 content)
content_long skip payload content true p = omega (arith, p.2, ap length p.3, length-append p.0 (content ++ p.1))

-- ---- numbers and settings

number_of : (text : List ℕ) (n : ℕ) → IsNumber31 text n → number_at 0 text % 0x8000_0000 ≡ n
number_of text n x =
    let back : number_at 0 (to_be_bytes w32 (x.bit * 2 ^ 31 + n)) ≡ x.bit * 2 ^ 31 + n = from_be_bytes-to_be_bytes_4 (x.bit * 2 ^ 31 + n) (omega (arith, x.bit_small, x.small)) in
    rw (x.whole, back) (omega (arith, x.small))

settings_of : (text : List ℕ) (values : List (ℕ × ℕ)) → AreSettings text values → settings_in text ≡ values
unfolding settings_in
settings_of text [] a = rw a refl
settings_of text (s ∷ ss) a =
    let first : settings_in (setting s ++ a.0) ≡ (from_be_bytes w16 (to_be_bytes w16 s.0), from_be_bytes w32 (to_be_bytes w32 s.1)) ∷ settings_in a.0 = refl in
    rw a.3 (first ∙ rw (from_be_bytes-to_be_bytes_2 s.0 a.1, from_be_bytes-to_be_bytes_4 s.1 a.2, settings_of a.0 ss a.4) refl)

settings_sixes : (text : List ℕ) (values : List (ℕ × ℕ)) → AreSettings text values → length text ≡ 6 * length values
settings_sixes text [] a = rw a refl
settings_sixes text (s ∷ ss) a = omega (arith, ap length a.3, settings_sixes a.0 ss a.4)

-- ---- types above 9

ne : (kind n : ℕ) → 9 < kind → n ≤ 9 → eqb kind n ≡ false
ne kind n h le = ne_eqb kind n (λ e. omega arith)

unknown : (at flags on kind : ℕ) (payload : List ℕ) → 9 < kind → payload_at at (head (length payload) kind flags on) payload ≡ Ok (frames.Unknown kind)
unfolding payload_at plain_of
unknown at flags on kind payload h =
    rw (ne kind 0 h (omega arith), ne kind 1 h (omega arith), ne kind 2 h (omega arith), ne kind 3 h (omega arith), ne kind 4 h (omega arith), ne kind 5 h (omega arith), ne kind 6 h (omega arith), ne kind 7 h (omega arith), ne kind 8 h (omega arith), ne kind 9 h (omega arith)) refl

unknown_sound : (flags on kind len : ℕ) → 9 < kind → len ≤ 16384 → Sound (head len kind flags on)
unfolding is_bad_length
unknown_sound flags on kind len h short = record {
  short = short;
  on_stream = rw (ne kind 0 h (omega arith), ne kind 1 h (omega arith), ne kind 2 h (omega arith), ne kind 3 h (omega arith), ne kind 9 h (omega arith)) refl;
  on_connection = rw (ne kind 4 h (omega arith), ne kind 6 h (omega arith), ne kind 7 h (omega arith)) refl;
  good = rw (ne kind 0 h (omega arith), ne kind 1 h (omega arith), ne kind 2 h (omega arith), ne kind 3 h (omega arith), ne kind 8 h (omega arith), ne kind 4 h (omega arith), ne kind 6 h (omega arith), ne kind 7 h (omega arith)) refl;
}

-- ---- the frame of a payload

pub payload_again : (at flags on : ℕ) (payload : List ℕ) (f : Frame) → IsPayload flags on payload f → payload_at at (head (length payload) (kind_of f) flags on) payload ≡ Ok f
unfolding payload_at plain_of
payload_again at flags on payload (frames.Data stream bytes size end_stream) p =
    rw (content_of at flags 0 payload bytes (has 8 flags) refl p.4, p.0, p.2, p.3) refl
payload_again at flags on payload (frames.Headers stream block end_stream end_headers) p =
    rw (content_of at flags (priority_len flags) payload block (has 8 flags) refl p.4, p.0, p.2, p.3) refl
payload_again at flags on payload (frames.Priority stream) p = rw p.0 refl
payload_again at flags on payload (frames.Reset stream code) p =
    let back : number_at 0 (to_be_bytes w32 code) ≡ code = from_be_bytes-to_be_bytes_4 code p.2 in
    rw (p.3, back, p.0) refl
payload_again at flags on payload (frames.Settings ack values) p = rw (settings_of payload values p.3, p.1) refl
payload_again at flags on payload (frames.Push stream) p = rw p refl
payload_again at flags on payload (frames.Ping ack bytes) p = rw (p.1, p.3) refl
payload_again at flags on payload (frames.GoAway last code) p =
    let x = p.1.2 in
    let n : ℕ = x.bit * 2 ^ 31 + last in
    let parts : payload ≡ to_be_bytes w32 n ++ (to_be_bytes w32 code ++ p.1.1) = rw x.whole at p.1.4 in
    let back : number_at 0 (to_be_bytes w32 n ++ (to_be_bytes w32 code ++ p.1.1)) ≡ n = from_be_bytes-to_be_bytes_4 n (omega (arith, x.bit_small, x.small)) in
    let low : n % 0x8000_0000 ≡ last = omega (arith, x.small) in
    let behind : number_at 4 (to_be_bytes w32 n ++ (to_be_bytes w32 code ++ p.1.1)) ≡ code = from_be_bytes-to_be_bytes_4 code p.1.3 in
    rw (parts, back, low, behind) refl
payload_again at flags on payload (frames.Window stream increment) p = rw (p.0, number_of payload increment p.1) refl
payload_again at flags on payload (frames.Continuation stream block end_headers) p = rw (p.0, p.2, p.3) refl
payload_again at flags on payload (frames.Unknown kind) p = unknown at flags on kind payload p

-- ---- a header without an offence

on_stream_is : (on : ℕ) → 0 < on → eqb on 0 ≡ false
on_stream_is on h = ne_eqb on 0 (λ e. omega arith)

is_len : (len n : ℕ) → len ≡ n → not (eqb len n) ≡ false
is_len len n e = rw (eq-eqb len n e) refl

ack_len : (ack : Bool) (payload : List ℕ) → (IsTrue ack → payload ≡ []) → ack && not (eqb (length payload) 0) ≡ false
ack_len true payload h = rw (h refl) refl
ack_len false payload h = refl

settings_good : (flags len : ℕ) (ack : Bool) → ack ≡ has 1 flags → len % 6 ≡ 0 → ack && not (eqb len 0) ≡ false → not (eqb (len % 6) 0) || (has 1 flags && not (eqb len 0)) ≡ false
settings_good flags len ack same sixes empty = rw (eq-eqb (len % 6) 0 sixes, ← same) empty

pub payload_sound : (flags on : ℕ) (payload : List ℕ) (f : Frame) → IsPayload flags on payload f → length payload ≤ 16384 → Sound (head (length payload) (kind_of f) flags on)
unfolding is_bad_length
payload_sound flags on payload (frames.Data stream bytes size end_stream) p short =
    let long : pad_len flags ≤ length payload = omega (arith, content_long 0 payload bytes (has 8 flags) p.4) in
    record { short = short; on_stream = on_stream_is on p.1; on_connection = refl; good = le-ltb (length payload) (pad_len flags) long }
payload_sound flags on payload (frames.Headers stream block end_stream end_headers) p short =
    let long : pad_len flags + priority_len flags ≤ length payload = content_long (priority_len flags) payload block (has 8 flags) p.4 in
    record { short = short; on_stream = on_stream_is on p.1; on_connection = refl; good = le-ltb (length payload) (pad_len flags + priority_len flags) long }
payload_sound flags on payload (frames.Priority stream) p short =
    record { short = short; on_stream = on_stream_is on p.1; on_connection = refl; good = is_len (length payload) 5 p.2 }
payload_sound flags on payload (frames.Reset stream code) p short =
    record { short = short; on_stream = on_stream_is on p.1; on_connection = refl; good = is_len (length payload) 4 (ap length p.3) }
payload_sound flags on payload (frames.Settings ack values) p short =
    let sixes : length payload % 6 ≡ 0 = omega (arith, settings_sixes payload values p.3) in
    record { short = short; on_stream = refl; on_connection = is_len on 0 p.0; good = settings_good flags (length payload) ack p.1 sixes (ack_len ack payload p.2) }
payload_sound flags on payload (frames.Push stream) p short = record { short = short; on_stream = refl; on_connection = refl; good = refl }
payload_sound flags on payload (frames.Ping ack bytes) p short =
    record { short = short; on_stream = refl; on_connection = is_len on 0 p.0; good = is_len (length payload) 8 p.2 }
payload_sound flags on payload (frames.GoAway last code) p short =
    let long : 8 ≤ length payload = omega (arith, ap length p.1.4, ap length p.1.2.whole, length-append p.1.0 (to_be_bytes w32 code ++ p.1.1)) in
    record { short = short; on_stream = refl; on_connection = is_len on 0 p.0; good = le-ltb (length payload) 8 long }
payload_sound flags on payload (frames.Window stream increment) p short =
    record { short = short; on_stream = refl; on_connection = refl; good = is_len (length payload) 4 (ap length p.1.whole) }
payload_sound flags on payload (frames.Continuation stream block end_headers) p short =
    record { short = short; on_stream = on_stream_is on p.1; on_connection = refl; good = refl }
payload_sound flags on payload (frames.Unknown kind) p short = unknown_sound flags on kind (length payload) p short

-- ---- a frame

three_again : (len : ℕ) → len / 65536 * 65536 + len / 256 % 256 * 256 + len % 256 ≡ len
three_again len = omega arith

pub header_again : (len kind flags bit on : ℕ) (more : List ℕ) → bit < 2 → on < 2 ^ 31 → header_of (header_bytes len kind flags bit on ++ more) ≡ head len kind flags on
unfolding header_of
header_again len kind flags bit on more bit_small small =
    let back : number_at 5 (header_bytes len kind flags bit on ++ more) ≡ bit * 2 ^ 31 + on = from_be_bytes-to_be_bytes_4 (bit * 2 ^ 31 + on) (omega arith) in
    let low : (bit * 2 ^ 31 + on) % 0x8000_0000 ≡ on = omega arith in
    rw (three_again len, back, low) refl

framed_again : (at len kind flags bit on : ℕ) (payload rest : List ℕ) (f : Frame) → len ≡ length payload → bit < 2 → on < 2 ^ 31 → Sound (head len kind flags on) → payload_at at (head len kind flags on) payload ≡ Ok f → frame_at at (header_bytes len kind flags bit on ++ (payload ++ rest)) ≡ Ok (Some (f, 9 + len))
unfolding frame_at
framed_again at len kind flags bit on payload rest f same bit_small small sound read =
    let long : ltb (length (header_bytes len kind flags bit on ++ (payload ++ rest))) 9 ≡ false = le-ltb _ _ (omega arith) in
    let fits : ltb (length (payload ++ rest)) len ≡ false = le-ltb _ _ (omega (arith, length-append payload rest)) in
    rw (long, header_again len kind flags bit on (payload ++ rest) bit_small small, no_offence at (head len kind flags on) sound, fits, take_at payload rest len (sym same), read) refl

pub frame_again : (at : ℕ) (first rest : List ℕ) (f : Frame) → IsSpelling first f → frame_at at (first ++ rest) ≡ Ok (Some (f, length first))
frame_again at first rest f s =
    let len : ℕ = length s.payload in
    let parts : first ++ rest ≡ header_bytes len (kind_of f) s.flags s.bit s.on ++ (s.payload ++ rest) = ap (λ (x : List ℕ). x ++ rest) s.whole in
    let read = framed_again at len (kind_of f) s.flags s.bit s.on s.payload rest f refl s.bit_small s.on_small (payload_sound s.flags s.on s.payload f s.content s.short) (payload_again at s.flags s.on s.payload f s.content) in
    let size : 9 + len ≡ length first = omega (arith, ap length s.whole) in
    ap (frame_at at) parts ∙ read ∙ ap (λ (n : ℕ). Ok (Some (f, n))) size
