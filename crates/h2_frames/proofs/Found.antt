-- A frame that is read is spelled so.
use Rattle.std.proofs.Common.{◌≡◌, ℕ, ◌+◌, ◌≤◌, ltb, Ok, Some, List, ◌++◌, length, take, drop, sym, ap, subst, ◌∙◌, arith}
use Rattle.std.proofs.lemmas.Bool.{ltb-false}
use Rattle.std.proofs.lemmas.List.{length-take, length-drop}
use Rattle.std.proofs.Math.Seq.{take-add}
use Rattle.proto_wire.specs.Reading.{IsBytes}
use Rattle.proto_wire.proofs.Steps.{bind_ok, done}
use Rattle.proto_wire.proofs.Varints.{IsBytes-drop}
use Rattle.h2_frames.specs.declared.fault.FrameFault.{FrameFault}
use Rattle.h2_frames.specs.declared.frame.Frame.{Frame}
use Rattle.h2_frames.specs.declared.layout.Header.{Header}
use Rattle.h2_frames.specs.Layout.{header_of, offence}
use Rattle.h2_frames.specs.Reading.{payload_at, frame_at}
use Rattle.h2_frames.specs.Spelling.{header_bytes, IsSpelling}
use Rattle.h2_frames.proofs.Headers.{Sound, sound}
use Rattle.h2_frames.proofs.Again.{head}
use Rattle.h2_frames.proofs.Steps.{IsBytes-take, not_none, no_fault}
use Rattle.h2_frames.proofs.HeaderFound.{header_found}
use Rattle.h2_frames.proofs.Payloads.{payload_found}

-- what a frame that is read says of the bytes
pub record HasFrame (at : ℕ) (text : List ℕ) (f : Frame) (n : ℕ) : Type 0 where
  pub long : 9 ≤ length text
  pub sound_header : Sound (header_of text)
  pub fits : (header_of text).len ≤ length (drop 9 text)
  pub read : payload_at at (header_of text) (take (header_of text).len (drop 9 text)) ≡ Ok f
  pub size : n ≡ 9 + (header_of text).len

pub some_is : {A B : Type 0} (x y : A × B) → done FrameFault (Some x) ≡ done FrameFault (Some y) → (x.0 ≡ y.0) × (x.1 ≡ y.1)
some_is x y e = let same : x ≡ y = cc in (ap (λ p. p.0) same, ap (λ p. p.1) same)

pub frame_parts : (at : ℕ) (text : List ℕ) (f : Frame) (n : ℕ) → frame_at at text ≡ Ok (Some (f, n)) → HasFrame at text f n
unfolding frame_at
frame_parts at text f n e =
    let h = header_of text in
    let a = not_none (ltb (length text) 9) _ (f, n) e in
    let b = no_fault (offence at h) _ (Some (f, n)) a.1 in
    let c = not_none (ltb (length (drop 9 text)) h.len) _ (f, n) b.1 in
    let d = bind_ok (payload_at at h (take h.len (drop 9 text))) (λ g. Ok (Some (g, 9 + h.len))) (Some (f, n)) c.1 in
    let same = some_is (d.0, 9 + h.len) (f, n) d.2 in
    record { long = ltb-false _ _ a.0; sound_header = sound at h b.0; fits = ltb-false _ _ c.0; read = d.1 ∙ ap (λ (g : Frame). Ok g) same.0; size = sym same.1 }

pub frame_long : (at : ℕ) (text : List ℕ) (f : Frame) (n : ℕ) → frame_at at text ≡ Ok (Some (f, n)) → (9 ≤ n) × (n ≤ length text)
frame_long at text f n e =
    let x = frame_parts at text f n e in
    (omega (arith, x.size), omega (arith, x.size, x.fits, x.long, length-drop 9 text))

pub frame_found : (at : ℕ) (text : List ℕ) (f : Frame) (n : ℕ) → IsBytes text → frame_at at text ≡ Ok (Some (f, n)) → IsSpelling (take n text) f
frame_found at text f n fits e =
    let x = frame_parts at text f n e in
    let h = header_of text in
    let payload : List ℕ = take h.len (drop 9 text) in
    let len : length payload ≡ h.len = omega (arith, length-take h.len (drop 9 text), x.fits) in
    let at_len : head (length payload) h.kind h.flags h.stream ≡ h = ap (λ (k : ℕ). head k h.kind h.flags h.stream) len in
    let found = payload_found at h.kind h.flags h.stream payload f (IsBytes-take h.len (drop 9 text) (IsBytes-drop 9 text fits)) (subst Sound (sym at_len) x.sound_header) (ap (λ (g : Header). payload_at at g payload) at_len ∙ x.read) in
    let front = header_found text fits x.long in
    let parts : take n text ≡ take 9 text ++ payload = ap (λ (k : ℕ). take k text) x.size ∙ take-add 9 h.len text in
    record {
      flags = h.flags;
      bit = front.bit;
      on = h.stream;
      payload = payload;
      whole = parts ∙ ap (λ (ys : List ℕ). ys ++ payload) front.whole ∙ ap (λ (k : ℕ). header_bytes k h.kind h.flags front.bit h.stream ++ payload) (sym len) ∙ ap (λ (k : ℕ). header_bytes (length payload) k h.flags front.bit h.stream ++ payload) (sym found.kind_is);
      short = omega (arith, x.sound_header.short, len);
      bit_small = front.bit_small;
      on_small = front.on_small;
      content = found.content;
    }
