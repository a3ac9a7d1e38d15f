-- Where no frame begins: less than a frame, or an offence.
use Rattle.std.proofs.Common.{◌≡◌, ℕ, suc, ◌+◌, ◌-◌, ◌<◌, ◌≤◌, ◌⊎◌, inl, inr, Bool, true, false, cond, eqb, ltb, Result, Ok, Err, Option, Some, None, List, [], ◌∷◌, ◌++◌, length, take, drop, refl, sym, ap, subst, ◌∙◌, arith}
use Rattle.std.proofs.lemmas.Bool.{eqb-true, eq-eqb, ltb-true, ltb-false, lt-ltb, le-ltb}
use Rattle.std.proofs.lemmas.List.{length-take, length-drop, take-append-drop, drop_at}
use Rattle.proto_wire.specs.Reading.{IsBytes}
use Rattle.proto_wire.specs.Steps.{◌>>=◌}
use Rattle.proto_wire.proofs.Steps.{chosen, done}
use Rattle.h2_frames.specs.declared.fault.FrameFault.{FrameFault}
use Rattle.h2_frames.specs.declared.fault.FrameFault.TheVariants as faults
use Rattle.h2_frames.specs.declared.frame.Frame.{Frame}
use Rattle.h2_frames.specs.declared.frame.Frame.TheVariants as frames
use Rattle.h2_frames.specs.declared.layout.Header.{Header}
use Rattle.h2_frames.specs.Layout.{has, pad_len, priority_len, is_bad_length, header_of, offence}
use Rattle.h2_frames.specs.Reading.{unless_fault, unpadded, content_at, payload_at, frame_at}
use Rattle.h2_frames.specs.Grammar.{HasHeader, IsFramePrefix, HasOffence, IsSkipped, IsOverpadded, IsRest}
use Rattle.h2_frames.proofs.Headers.{Sound, sound, no_offence}
use Rattle.h2_frames.proofs.Again.{head, header_again}
use Rattle.h2_frames.proofs.Steps.{no_fault}
use Rattle.h2_frames.proofs.HeaderFound.{header_found}

-- ---- what a header says does not depend on its place

sound_at : (at : ℕ) (h : Header) → offence 0 h ≡ None → offence at h ≡ None
sound_at at h e = no_offence at h (sound 0 h e)

sound_here : (at : ℕ) (h : Header) → offence at h ≡ None → offence 0 h ≡ None
sound_here at h e = no_offence 0 h (sound at h e)

header_is : (text behind : List ℕ) (h : Header) → HasHeader text h behind → header_of text ≡ h
header_is text behind h x = ap header_of x.whole ∙ header_again h.len h.kind h.flags x.bit h.stream behind x.bit_small x.on_small

header_long : (text behind : List ℕ) (h : Header) → HasHeader text h behind → length text ≡ 9 + length behind
header_long text behind h x = omega (arith, ap length x.whole)

behind_is : (text behind : List ℕ) (h : Header) → HasHeader text h behind → drop 9 text ≡ behind
behind_is text behind h x = ap (drop 9) x.whole

has_header : (text : List ℕ) → IsBytes text → 9 ≤ length text → HasHeader text (header_of text) (drop 9 text)
has_header text fits long =
    let x = header_found text fits long in
    record { bit = x.bit; bit_small = x.bit_small; on_small = x.on_small; whole = sym (take-append-drop 9 text) ∙ ap (λ (ys : List ℕ). ys ++ drop 9 text) x.whole }

-- ---- steps

none_of : {A : Type 0} (o : Option FrameFault) (r : Result A FrameFault) (e : FrameFault) → unless_fault o r ≡ Err e → (o ≡ Some e) ⊎ ((o ≡ None) × (r ≡ Err e))
none_of None r e h = inr (refl, h)
none_of (Some d) r e h = inl cc

fault_of : {A B : Type 0} (r : Result A FrameFault) (f : A → B) (e : FrameFault) → (r >>= λ x. Ok (f x)) ≡ Err e → r ≡ Err e
fault_of (Ok x) f e h = absurd cc
fault_of (Err d) f e h = cc

never_none : {A B : Type 0} (r : Result A FrameFault) (f : A → B) → (r >>= λ x. Ok (Some (f x))) ≡ Ok None → ⊥
never_none (Ok x) f h = cc
never_none (Err d) f h = cc

wrong : {A : Type 0} (b : Bool) (x : A) (d e : FrameFault) → cond b (Err d) (Ok x) ≡ Err e → (b ≡ true) × (e ≡ d)
wrong true x d e h = (refl, cc)
wrong false x d e h = absurd cc

ok_never : {A : Type 0} (x : A) (e : FrameFault) → done FrameFault x ≡ Err e → ⊥
ok_never x e h = cc

-- ---- less than a frame

pub part_found : (at : ℕ) (text : List ℕ) → IsBytes text → frame_at at text ≡ Ok None → IsFramePrefix text
unfolding frame_at
part_found at text fits e =
    let h : Header = header_of text in
    elim (chosen (ltb (length text) 9) _ _ (Ok None) e) [
      | inl p ↦ inl (ltb-true _ _ p.0)
      | inr p ↦
          let a = no_fault (offence at h) _ None p.1 in
          elim (chosen (ltb (length (drop 9 text)) h.len) _ _ (Ok None) a.1) [
            | inl q ↦ inr (record { header = h; behind = drop 9 text; begins = has_header text fits (ltb-false _ _ p.0); sound = sound_here at h a.0; short = ltb-true _ _ q.0 })
            | inr q ↦ absurd (never_none (payload_at at h (take h.len (drop 9 text))) (λ f. (f, 9 + h.len)) q.1)
          ]
    ]

-- a proper prefix of a frame has at most 9 bytes of header and 16,383 bytes of payload
pub part_short : (at : ℕ) (text : List ℕ) → frame_at at text ≡ Ok None → length text ≤ 16392
unfolding frame_at
part_short at text e =
    let h : Header = header_of text in
    elim (chosen (ltb (length text) 9) _ _ (Ok None) e) [
      | inl p ↦ let few : length text < 9 = ltb-true _ _ p.0 in omega arith
      | inr p ↦
          let a = no_fault (offence at h) _ None p.1 in
          elim (chosen (ltb (length (drop 9 text)) h.len) _ _ (Ok None) a.1) [
            | inl q ↦
                let fewer : length (drop 9 text) < h.len = ltb-true _ _ q.0 in
                omega (arith, length-drop 9 text, (sound at h a.0).short)
            | inr q ↦ absurd (never_none (payload_at at h (take h.len (drop 9 text))) (λ f. (f, 9 + h.len)) q.1)
          ]
    ]

pub part_again : (at : ℕ) (text : List ℕ) → IsFramePrefix text → frame_at at text ≡ Ok None
unfolding frame_at
part_again at text (inl few) = rw (lt-ltb (length text) 9 few) refl
part_again at text (inr x) =
    let long : ltb (length text) 9 ≡ false = le-ltb _ _ (omega (arith, header_long text x.behind x.header x.begins)) in
    let short : ltb (length x.behind) x.header.len ≡ true = lt-ltb _ _ x.short in
    rw (long, header_is text x.behind x.header x.begins, behind_is text x.behind x.header x.begins, sound_at at x.header x.sound, short) refl

-- ---- an offence

pub offence_again : (at : ℕ) (text : List ℕ) (e : FrameFault) → HasOffence at text e → frame_at at text ≡ Err e
unfolding frame_at
offence_again at text e x =
    let long : ltb (length text) 9 ≡ false = le-ltb _ _ (omega (arith, header_long text x.behind x.header x.begins)) in
    rw (long, header_is text x.behind x.header x.begins, x.offends) refl

unpadded_again : (at pad skip : ℕ) (fields left : List ℕ) → length fields ≡ skip → length left < pad → unpadded at pad (drop skip (fields ++ left)) ≡ Err (faults.BadPadding at)
unpadded_again at pad skip fields left len over = rw (drop_at fields left skip len, lt-ltb (length left) pad over) refl

content_refused : (at flags skip pad : ℕ) (fields left : List ℕ) → has 8 flags ≡ true → length fields ≡ skip → length left < pad → content_at at flags skip (pad ∷ (fields ++ left)) ≡ Err (faults.BadPadding at)
unfolding content_at
content_refused at flags skip pad fields left padded len over =
    let one : 1 + skip ≡ suc skip = omega arith in
    rw (padded, one) (unpadded_again at pad skip fields left len over)

payload_refused : (at len kind flags on skip : ℕ) (payload : List ℕ) (e : FrameFault) → IsSkipped kind flags skip → content_at at flags skip payload ≡ Err e → payload_at at (head len kind flags on) payload ≡ Err e
unfolding payload_at
payload_refused at len kind flags on skip payload e (inl p) h =
    let at_skip : content_at at flags 0 payload ≡ Err e = subst (λ (k : ℕ). content_at at flags k payload ≡ Err e) p.1 h in
    rw (eq-eqb kind 0 p.0, at_skip) refl
payload_refused at len kind flags on skip payload e (inr p) h =
    let at_skip : content_at at flags (priority_len flags) payload ≡ Err e = subst (λ (k : ℕ). content_at at flags k payload ≡ Err e) p.1 h in
    rw (p.0, at_skip) refl

pub overpadded_again : (at : ℕ) (text : List ℕ) (e : FrameFault) → IsOverpadded at text e → frame_at at text ≡ Err e
unfolding frame_at
overpadded_again at text e x =
    let h : Header = x.header in
    let long : ltb (length text) 9 ≡ false = le-ltb _ _ (omega (arith, header_long text x.behind h x.begins)) in
    let fits : ltb (length x.behind) h.len ≡ false = le-ltb _ _ x.fits in
    let content : content_at at h.flags x.skip (take h.len x.behind) ≡ Err e = ap (content_at at h.flags x.skip) x.payload ∙ content_refused at h.flags x.skip x.pad x.fields x.left x.padded x.fields_len x.over ∙ ap (λ (d : FrameFault). Err d) (sym x.fault) in
    let read : payload_at at h (take h.len x.behind) ≡ Err e = payload_refused at h.len h.kind h.flags h.stream x.skip (take h.len x.behind) e x.skipped content in
    rw (long, header_is text x.behind h x.begins, behind_is text x.behind h x.begins, sound_at at h x.sound, fits, read) refl

-- where the padding of a payload is longer than what is left
record Overpads (at flags skip : ℕ) (payload : List ℕ) (e : FrameFault) : Type 0 where
  padded : has 8 flags ≡ true
  pad : ℕ
  fields : List ℕ
  left : List ℕ
  fields_len : length fields ≡ skip
  parts : payload ≡ pad ∷ (fields ++ left)
  over : length left < pad
  fault : e ≡ faults.BadPadding at

overpads : (at flags skip : ℕ) (payload : List ℕ) (e : FrameFault) (b : Bool) → has 8 flags ≡ b → cond b 1 0 + skip ≤ length payload → content_at at flags skip payload ≡ Err e → Overpads at flags skip payload e
unfolding content_at
overpads at flags skip payload e false is long h = absurd (ok_never (drop skip payload) e (rw is at h))
overpads at flags skip [] e true is long h = absurd (omega arith)
overpads at flags skip (pad ∷ xs) e true is long h =
    let one : 1 + skip ≡ suc skip = omega arith in
    let w = wrong (ltb (length (drop skip xs)) pad) (take (length (drop skip xs) - pad) (drop skip xs)) (faults.BadPadding at) e (rw (is, one) at h) in
    record {
      padded = is;
      pad = pad;
      fields = take skip xs;
      left = drop skip xs;
      fields_len = omega (arith, length-take skip xs);
      parts = ap (λ (ys : List ℕ). pad ∷ ys) (sym (take-append-drop skip xs));
      over = ltb-true _ _ w.0;
      fault = w.1;
    }

data_long : (len flags on : ℕ) → Sound (head len 0 flags on) → cond (has 8 flags) 1 0 + 0 ≤ len
unfolding is_bad_length
data_long len flags on s = let h : pad_len flags ≤ len = ltb-false _ _ s.good in omega (arith, h)

headers_long : (len flags on : ℕ) → Sound (head len 1 flags on) → cond (has 8 flags) 1 0 + priority_len flags ≤ len
unfolding is_bad_length
headers_long len flags on s = ltb-false _ _ s.good

-- a payload that is refused
record Refused (at kind flags : ℕ) (payload : List ℕ) (e : FrameFault) : Type 0 where
  skip : ℕ
  skipped : IsSkipped kind flags skip
  overpads_it : Overpads at flags skip payload e

payload_wrong : (at kind flags on : ℕ) (payload : List ℕ) (e : FrameFault) → Sound (head (length payload) kind flags on) → payload_at at (head (length payload) kind flags on) payload ≡ Err e → Refused at kind flags payload e
unfolding payload_at
payload_wrong at kind flags on payload e s h =
    let len : ℕ = length payload in
    elim (chosen (eqb kind 0) _ _ (Err e) h) [
      | inl p ↦
          let at_data : Sound (head len 0 flags on) = subst (λ (k : ℕ). Sound (head len k flags on)) (eqb-true kind 0 p.0) s in
          let refused : content_at at flags 0 payload ≡ Err e = fault_of (content_at at flags 0 payload) (λ b. frames.Data on b len (has 1 flags)) e p.1 in
          record { skip = 0; skipped = inl (eqb-true kind 0 p.0, refl); overpads_it = overpads at flags 0 payload e (has 8 flags) refl (data_long len flags on at_data) refused }
      | inr p ↦ elim (chosen (eqb kind 1) _ _ (Err e) p.1) [
        | inl q ↦
            let at_headers : Sound (head len 1 flags on) = subst (λ (k : ℕ). Sound (head len k flags on)) (eqb-true kind 1 q.0) s in
            let refused : content_at at flags (priority_len flags) payload ≡ Err e = fault_of (content_at at flags (priority_len flags) payload) (λ b. frames.Headers on b (has 1 flags) (has 4 flags)) e q.1 in
            record { skip = priority_len flags; skipped = inr (eqb-true kind 1 q.0, refl); overpads_it = overpads at flags (priority_len flags) payload e (has 8 flags) refl (headers_long len flags on at_headers) refused }
        | inr q ↦ absurd (ok_never _ e q.1)
      ]
    ]

pub offence_found : (at : ℕ) (text : List ℕ) (e : FrameFault) → IsBytes text → frame_at at text ≡ Err e → HasOffence at text e ⊎ IsOverpadded at text e
unfolding frame_at
offence_found at text e fits h =
    let d : Header = header_of text in
    let payload : List ℕ = take d.len (drop 9 text) in
    elim (chosen (ltb (length text) 9) _ _ (Err e) h) [
      | inl p ↦ absurd (ok_never _ e p.1)
      | inr p ↦
          let begins = has_header text fits (ltb-false _ _ p.0) in
          elim (none_of (offence at d) _ e p.1) [
            | inl o ↦ inl (record { header = d; behind = drop 9 text; begins = begins; offends = o })
            | inr o ↦ elim (chosen (ltb (length (drop 9 text)) d.len) _ _ (Err e) o.1) [
              | inl q ↦ absurd (ok_never _ e q.1)
              | inr q ↦
                  let enough : d.len ≤ length (drop 9 text) = ltb-false _ _ q.0 in
                  let len : length payload ≡ d.len = omega (arith, length-take d.len (drop 9 text), enough) in
                  let at_len : head (length payload) d.kind d.flags d.stream ≡ d = ap (λ (k : ℕ). head k d.kind d.flags d.stream) len in
                  let read : payload_at at d payload ≡ Err e = fault_of (payload_at at d payload) (λ f. Some (f, 9 + d.len)) e q.1 in
                  let w = payload_wrong at d.kind d.flags d.stream payload e (subst Sound (sym at_len) (sound at d o.0)) (ap (λ (g : Header). payload_at at g payload) at_len ∙ read) in
                  inr (record {
                    header = d;
                    behind = drop 9 text;
                    begins = begins;
                    sound = sound_here at d o.0;
                    fits = enough;
                    padded = w.overpads_it.padded;
                    skip = w.skip;
                    skipped = w.skipped;
                    pad = w.overpads_it.pad;
                    fields = w.overpads_it.fields;
                    left = w.overpads_it.left;
                    fields_len = w.overpads_it.fields_len;
                    payload = w.overpads_it.parts;
                    over = w.overpads_it.over;
                    fault = w.overpads_it.fault;
                  })
            ]
          ]
    ]

-- ---- the rest, with or without an offence

-- what reading says of a rest
abbrev pub ending : Option FrameFault → Result (Option (Frame × ℕ)) FrameFault
ending None = Ok None
ending (Some e) = Err e

pub rest_again : (at : ℕ) (text : List ℕ) (end : Option FrameFault) → IsRest at text end → frame_at at text ≡ ending end
rest_again at text None x = part_again at text x
rest_again at text (Some e) (inl x) = offence_again at text e x
rest_again at text (Some e) (inr x) = overpadded_again at text e x

pub rest_found : (at : ℕ) (text : List ℕ) (end : Option FrameFault) → IsBytes text → frame_at at text ≡ ending end → IsRest at text end
rest_found at text None fits h = part_found at text fits h
rest_found at text (Some e) fits h = offence_found at text e fits h
