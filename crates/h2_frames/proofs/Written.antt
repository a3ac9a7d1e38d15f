-- What is written is a spelling.
use Rattle.std.specs.Prelude.{OnOk}
use Rattle.std.proofs.Common.{Result, Ok, Err, ◌≡◌, ℕ, ◌+◌, ◌*◌, ◌^◌, ◌<◌, ◌≤◌, Bool, true, false, List, [], ◌∷◌, ◌++◌, length, refl, sym, ap, arith}
use Rattle.std.specs.List.{flat_map}
use Rattle.std.specs.Int.{w32, to_be_bytes}
use Rattle.h2_frames.specs.declared.frame.Frame.{Frame}
use Rattle.h2_frames.specs.declared.frame.Frame.TheVariants as frames
use Rattle.h2_frames.specs.Layout.{has}
use Rattle.h2_frames.specs.Spelling.{kind_of, IsNumber31, IsPadded, setting, AreSettings, IsPayload, IsSpelling, flag, framed, spelled, Writable, HasSettings, IsTyped}
use Rattle.h2_frames.specs.Reading.{IsReadAs}
use Rattle.h2_frames.proofs.Again.{frame_again}
use Rattle.h2_frames.proofs.SettingLemmas.{settings_len}

number_written : (n : ℕ) → n < 2 ^ 31 → IsNumber31 (to_be_bytes w32 n) n
number_written n h =
    let plain : 0 * 2 ^ 31 + n ≡ n = omega arith in
    record { bit = 0; bit_small = omega arith; small = h; whole = sym (ap (to_be_bytes w32) plain) }

settings_spelled : (values : List (ℕ × ℕ)) → HasSettings values → AreSettings (flat_map setting values) values
settings_spelled [] h = refl
settings_spelled (s ∷ ss) h = (flat_map setting ss, h.0, h.1, refl, settings_spelled ss h.2)

-- nothing is padded
whole_content : (content : List ℕ) → IsPadded false 0 content content
whole_content content = ([], refl, refl)

spelling_of : (flags on : ℕ) (payload : List ℕ) (f : Frame) → length payload ≤ 16384 → on < 2 ^ 31 → IsPayload flags on payload f → IsSpelling (framed (kind_of f) flags on payload) f
spelling_of flags on payload f short small content = record {
  flags = flags;
  bit = 0;
  on = on;
  payload = payload;
  whole = refl;
  short = short;
  bit_small = omega arith;
  on_small = small;
  content = content;
}

flag_is : (b : Bool) → b ≡ has 1 (flag b 1)
flag_is true = refl
flag_is false = refl

pub spelled-spelling : (f : Frame) → Writable f → IsTyped f → IsSpelling (spelled f) f
unfolding spelled
spelled-spelling (frames.Data stream bytes size true) w t =
    spelling_of 1 stream bytes _ w.2 w.0.1 (refl, w.0.0, w.1, refl, whole_content bytes)
spelled-spelling (frames.Data stream bytes size false) w t =
    spelling_of 0 stream bytes _ w.2 w.0.1 (refl, w.0.0, w.1, refl, whole_content bytes)
spelled-spelling (frames.Headers stream block true true) w t =
    spelling_of 5 stream block _ w.1 w.0.1 (refl, w.0.0, refl, refl, whole_content block)
spelled-spelling (frames.Headers stream block true false) w t =
    spelling_of 1 stream block _ w.1 w.0.1 (refl, w.0.0, refl, refl, whole_content block)
spelled-spelling (frames.Headers stream block false true) w t =
    spelling_of 4 stream block _ w.1 w.0.1 (refl, w.0.0, refl, refl, whole_content block)
spelled-spelling (frames.Headers stream block false false) w t =
    spelling_of 0 stream block _ w.1 w.0.1 (refl, w.0.0, refl, refl, whole_content block)
spelled-spelling (frames.Priority stream) w t = spelling_of 0 stream (0 ∷ 0 ∷ 0 ∷ 0 ∷ 0 ∷ []) _ (omega arith) w.1 (refl, w.0, refl)
spelled-spelling (frames.Reset stream code) w t = spelling_of 0 stream (to_be_bytes w32 code) _ (omega arith) w.1 (refl, w.0, t, refl)
spelled-spelling (frames.Settings ack values) w t =
    spelling_of (flag ack 1) 0 (flat_map setting values) _ (omega (arith, settings_len values, w.0)) (omega arith) (refl, flag_is ack, λ e. ap (flat_map setting) (w.1 e), settings_spelled values t)
spelled-spelling (frames.Push stream) w t = spelling_of 0 stream [] _ (omega arith) w refl
spelled-spelling (frames.Ping ack bytes) w t = spelling_of (flag ack 1) 0 bytes _ (omega (arith, t)) (omega arith) (refl, flag_is ack, t, refl)
spelled-spelling (frames.GoAway last code) w t =
    spelling_of 0 0 (to_be_bytes w32 last ++ to_be_bytes w32 code) _ (omega arith) (omega arith) (refl, (to_be_bytes w32 last, [], number_written last w, t, refl))
spelled-spelling (frames.Window stream increment) w t = spelling_of 0 stream (to_be_bytes w32 increment) _ (omega arith) w.0 (refl, number_written increment w.1)
spelled-spelling (frames.Continuation stream block true) w t = spelling_of 4 stream block _ w.1 w.0.1 (refl, w.0.0, refl, refl)
spelled-spelling (frames.Continuation stream block false) w t = spelling_of 0 stream block _ w.1 w.0.1 (refl, w.0.0, refl, refl)
spelled-spelling (frames.Unknown kind) w t = spelling_of 0 0 [] _ (omega arith) (omega arith) w

-- what was written is a spelling, and is read again
pub written : {A E : Type 0} (f : Frame) (r : Result A E) → Writable f → OnOk r (IsTyped f) → OnOk r (IsSpelling (spelled f) f)
written f (Ok x) w t = spelled-spelling f w t
written f (Err e) w t = tt

pub read_again : (f : Frame) → Writable f → IsTyped f → IsReadAs (spelled f) f
read_again f w t at rest = frame_again at (spelled f) rest f (spelled-spelling f w t)

pub written_again : {A E : Type 0} (f : Frame) (r : Result A E) → Writable f → OnOk r (IsTyped f) → OnOk r (IsReadAs (spelled f) f)
written_again f (Ok x) w t = read_again f w t
written_again f (Err e) w t = tt
