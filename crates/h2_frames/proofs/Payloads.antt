-- The frame of a payload that is read is spelled so.
use Rattle.std.proofs.Common.{◌≡◌, ℕ, zero, suc, ◌+◌, ◌-◌, ◌%◌, ◌^◌, ◌<◌, ◌≤◌, inl, inr, Bool, true, false, cond, not, eqb, ltb, Ok, List, [], ◌∷◌, ◌++◌, length, take, drop, refl, sym, ap, subst, ◌∙◌, arith}
use Rattle.std.specs.Prelude.{◌&&◌, ◌||◌}
use Rattle.std.specs.Int.{w16, w32, from_be_bytes, to_be_bytes}
use Rattle.std.proofs.lemmas.Bool.{eqb-true, eqb-false, ltb-false}
use Rattle.std.proofs.lemmas.List.{length-take, length-drop, take-append-drop}
use Rattle.std.proofs.lemmas.Nat.{be_bytes_2, be_bytes_4}
use Rattle.proto_wire.specs.Reading.{IsBytes}
use Rattle.proto_wire.specs.Steps.{◌>>=◌}
use Rattle.proto_wire.proofs.Steps.{chosen, bind_ok, guard_ok, ok_is}
use Rattle.h2_frames.specs.declared.fault.FrameFault.TheVariants as faults
use Rattle.h2_frames.specs.declared.frame.Frame.{Frame}
use Rattle.h2_frames.specs.declared.frame.Frame.TheVariants as frames
use Rattle.h2_frames.specs.Layout.{has, pad_len, priority_len, is_bad_length, number_at}
use Rattle.h2_frames.specs.Reading.{unpadded, content_at, settings_in, plain_of, payload_at}
use Rattle.h2_frames.specs.Spelling.{kind_of, IsNumber31, IsPadded, setting, AreSettings, IsPayload}
use Rattle.h2_frames.proofs.Headers.{Sound}
use Rattle.h2_frames.proofs.Again.{head}
use Rattle.h2_frames.proofs.Steps.{two_fit, four_fit}
use Rattle.h2_frames.proofs.HeaderFound.{number_small, number_found}

-- ---- the content of a payload that may be padded

pub padded_found : (at skip pad : ℕ) (xs content : List ℕ) → skip ≤ length xs → unpadded at pad (drop skip xs) ≡ Ok content → IsPadded true skip (pad ∷ xs) content
padded_found at skip pad xs content long e =
    let rest : List ℕ = drop skip xs in
    let g = guard_ok (ltb (length rest) pad) (faults.BadPadding at) (take (length rest - pad) rest) content e in
    let few : pad ≤ length rest = ltb-false _ _ g.0 in
    let padding : List ℕ = drop (length rest - pad) rest in
    let len : length padding ≡ pad = omega (arith, length-drop (length rest - pad) rest) in
    let parts : xs ≡ take skip xs ++ (content ++ padding) = sym (take-append-drop skip xs) ∙ ap (λ (ys : List ℕ). take skip xs ++ ys) (sym (take-append-drop (length rest - pad) rest) ∙ ap (λ (ys : List ℕ). ys ++ padding) g.1) in
    (take skip xs, padding, omega (arith, length-take skip xs), ap (λ (ys : List ℕ). pad ∷ ys) parts ∙ ap (λ (n : ℕ). n ∷ (take skip xs ++ (content ++ padding))) (sym len))

pub content_found : (at flags skip : ℕ) (payload content : List ℕ) (b : Bool) → has 8 flags ≡ b → cond b 1 0 + skip ≤ length payload → content_at at flags skip payload ≡ Ok content → IsPadded b skip payload content
unfolding content_at
content_found at flags skip payload content false e long read =
    let got : drop skip payload ≡ content = ok_is _ _ (rw e at read) in
    (take skip payload, omega (arith, length-take skip payload), sym (take-append-drop skip payload) ∙ ap (λ (ys : List ℕ). take skip payload ++ ys) got)
content_found at flags skip [] content true e long read = absurd (omega arith)
content_found at flags skip (pad ∷ xs) content true e long read =
    let one : 1 + skip ≡ suc skip = omega arith in
    padded_found at skip pad xs content (omega arith) (rw (e, one) at read)

-- ---- the frame of a payload

-- the frame has this type, and its payload
pub record IsFound (kind flags on : ℕ) (payload : List ℕ) (f : Frame) : Type 0 where
  pub kind_is : kind_of f ≡ kind
  pub content : IsPayload flags on payload f

pub low_of : (b : Bool) (on : ℕ) → b ≡ true → b && eqb on 0 ≡ false → 0 < on
low_of true on e h = let ne = eqb-false on 0 h in omega (arith, ne)
low_of false on e h = absurd cc

pub connection_of : (b : Bool) (on : ℕ) → b ≡ true → b && not (eqb on 0) ≡ false → on ≡ 0
connection_of true zero e h = refl
connection_of true (suc on) e h = absurd (grind arith)
connection_of false on e h = absurd cc

pub len_is : (len n : ℕ) → not (eqb len n) ≡ false → len ≡ n
len_is len n h = eqb-true len n (grind arith)

pub data_found : (at flags on : ℕ) (payload : List ℕ) (f : Frame) → Sound (head (length payload) 0 flags on) → (content_at at flags 0 payload >>= λ b. Ok (frames.Data on b (length payload) (has 1 flags))) ≡ Ok f → IsFound 0 flags on payload f
unfolding is_bad_length
data_found at flags on payload f s e =
    let b = bind_ok (content_at at flags 0 payload) (λ c. Ok (frames.Data on c (length payload) (has 1 flags))) f e in
    let long : pad_len flags ≤ length payload = ltb-false _ _ s.good in
    let padded : IsPadded (has 8 flags) 0 payload b.0 = content_found at flags 0 payload b.0 (has 8 flags) refl (omega (arith, long)) b.1 in
    subst (IsFound 0 flags on payload) (ok_is _ _ b.2) (record { kind_is = refl; content = (refl, low_of true on refl s.on_stream, refl, refl, padded) })

pub headers_found : (at flags on : ℕ) (payload : List ℕ) (f : Frame) → Sound (head (length payload) 1 flags on) → (content_at at flags (priority_len flags) payload >>= λ b. Ok (frames.Headers on b (has 1 flags) (has 4 flags))) ≡ Ok f → IsFound 1 flags on payload f
unfolding is_bad_length
headers_found at flags on payload f s e =
    let b = bind_ok (content_at at flags (priority_len flags) payload) (λ c. Ok (frames.Headers on c (has 1 flags) (has 4 flags))) f e in
    let long : pad_len flags + priority_len flags ≤ length payload = ltb-false _ _ s.good in
    let padded : IsPadded (has 8 flags) (priority_len flags) payload b.0 = content_found at flags (priority_len flags) payload b.0 (has 8 flags) refl long b.1 in
    subst (IsFound 1 flags on payload) (ok_is _ _ b.2) (record { kind_is = refl; content = (refl, low_of true on refl s.on_stream, refl, refl, padded) })

pub priority_found : (flags on : ℕ) (payload : List ℕ) → Sound (head (length payload) 2 flags on) → IsFound 2 flags on payload (frames.Priority on)
unfolding is_bad_length
priority_found flags on payload s = record { kind_is = refl; content = (refl, low_of true on refl s.on_stream, len_is (length payload) 5 s.good) }

-- bytes of which there are four
pub four_found : (payload : List ℕ) → IsBytes payload → length payload ≡ 4 → (payload ≡ to_be_bytes w32 (number_at 0 payload)) × (number_at 0 payload < 2 ^ 32) × IsNumber31 payload (number_at 0 payload % 0x8000_0000)
four_found (a ∷ b ∷ c ∷ d ∷ []) fits e = (
  sym (be_bytes_4 (a ∷ b ∷ c ∷ d ∷ []) (from_be_bytes w32 (a ∷ b ∷ c ∷ d ∷ [])) refl fits refl),
  number_small a b c d (fits 0) (fits 1) (fits 2) (fits 3),
  number_found a b c d (fits 0) (fits 1) (fits 2) (fits 3),
)
four_found [] fits e = absurd (omega arith)
four_found (a ∷ []) fits e = absurd (omega arith)
four_found (a ∷ b ∷ []) fits e = absurd (omega arith)
four_found (a ∷ b ∷ c ∷ []) fits e = absurd (omega arith)
four_found (a ∷ b ∷ c ∷ d ∷ x ∷ xs) fits e = absurd (omega arith)

pub reset_found : (flags on : ℕ) (payload : List ℕ) → IsBytes payload → Sound (head (length payload) 3 flags on) → IsFound 3 flags on payload (frames.Reset on (number_at 0 payload))
unfolding is_bad_length
reset_found flags on payload fits s =
    let four = four_found payload fits (len_is (length payload) 4 s.good) in
    record { kind_is = refl; content = (refl, low_of true on refl s.on_stream, four.1, four.0) }

pub settings_are : (payload : List ℕ) → IsBytes payload → length payload % 6 ≡ 0 → AreSettings payload (settings_in payload)
unfolding settings_in
settings_are (a ∷ b ∷ c ∷ d ∷ e ∷ f ∷ rest) fits sixes =
    let name : ℕ = from_be_bytes w16 (a ∷ b ∷ []) in
    let value : ℕ = from_be_bytes w32 (c ∷ d ∷ e ∷ f ∷ []) in
    let small : name < 2 ^ 16 = omega (arith, fits 0, fits 1) in
    let front : to_be_bytes w16 name ≡ a ∷ b ∷ [] = be_bytes_2 (a ∷ b ∷ []) name refl (two_fit a b (fits 0) (fits 1)) refl in
    let back : to_be_bytes w32 value ≡ c ∷ d ∷ e ∷ f ∷ [] = be_bytes_4 (c ∷ d ∷ e ∷ f ∷ []) value refl (four_fit c d e f (fits 2) (fits 3) (fits 4) (fits 5)) refl in
    let parts : a ∷ b ∷ c ∷ d ∷ e ∷ f ∷ rest ≡ setting (name, value) ++ rest = sym (ap (λ (ys : List ℕ). (ys ++ to_be_bytes w32 value) ++ rest) front ∙ ap (λ (ys : List ℕ). ((a ∷ b ∷ []) ++ ys) ++ rest) back) in
    (rest, small, number_small c d e f (fits 2) (fits 3) (fits 4) (fits 5), parts, settings_are rest (λ i. fits (suc (suc (suc (suc (suc (suc i))))))) (omega arith))
settings_are [] fits sixes = refl
settings_are (a ∷ []) fits sixes = absurd (omega arith)
settings_are (a ∷ b ∷ []) fits sixes = absurd (omega arith)
settings_are (a ∷ b ∷ c ∷ []) fits sixes = absurd (omega arith)
settings_are (a ∷ b ∷ c ∷ d ∷ []) fits sixes = absurd (omega arith)
settings_are (a ∷ b ∷ c ∷ d ∷ e ∷ []) fits sixes = absurd (omega arith)

pub sixes_of : (len : ℕ) (ack : Bool) → not (eqb (len % 6) 0) || (ack && not (eqb len 0)) ≡ false → (len % 6 ≡ 0) × (ack ≡ true → len ≡ 0)
sixes_of len ack h = (eqb-true (len % 6) 0 (grind arith), λ e. eqb-true len 0 (grind arith))

pub no_bytes : (payload : List ℕ) → length payload ≡ 0 → payload ≡ []
no_bytes [] e = refl
no_bytes (b ∷ bs) e = absurd (omega arith)

pub settings_found : (flags on : ℕ) (payload : List ℕ) → IsBytes payload → Sound (head (length payload) 4 flags on) → IsFound 4 flags on payload (frames.Settings (has 1 flags) (settings_in payload))
unfolding is_bad_length
settings_found flags on payload fits s =
    let sixes = sixes_of (length payload) (has 1 flags) s.good in
    record { kind_is = refl; content = (connection_of true on refl s.on_connection, refl, λ e. no_bytes payload (sixes.1 e), settings_are payload fits sixes.0) }

pub push_found : (flags on : ℕ) (payload : List ℕ) → IsFound 5 flags on payload (frames.Push on)
push_found flags on payload = record { kind_is = refl; content = refl }

pub ping_found : (flags on : ℕ) (payload : List ℕ) → Sound (head (length payload) 6 flags on) → IsFound 6 flags on payload (frames.Ping (has 1 flags) payload)
unfolding is_bad_length
ping_found flags on payload s =
    record { kind_is = refl; content = (connection_of true on refl s.on_connection, refl, len_is (length payload) 8 s.good, refl) }

-- what stands in eight bytes and behind them
abbrev pub IsEight : List ℕ → Type 0
IsEight payload = (front : List ℕ) × (debug : List ℕ) × IsNumber31 front (number_at 0 payload % 0x8000_0000) × (number_at 4 payload < 2 ^ 32)
    × (payload ≡ front ++ (to_be_bytes w32 (number_at 4 payload) ++ debug))

pub eight_found : (payload : List ℕ) → IsBytes payload → 8 ≤ length payload → IsEight payload
eight_found (a ∷ b ∷ c ∷ d ∷ e ∷ f ∷ g ∷ h ∷ debug) fits long =
    let n : ℕ = from_be_bytes w32 (e ∷ f ∷ g ∷ h ∷ []) in
    let back : to_be_bytes w32 n ≡ e ∷ f ∷ g ∷ h ∷ [] = be_bytes_4 (e ∷ f ∷ g ∷ h ∷ []) n refl (four_fit e f g h (fits 4) (fits 5) (fits 6) (fits 7)) refl in (
      a ∷ b ∷ c ∷ d ∷ [],
      debug,
      number_found a b c d (fits 0) (fits 1) (fits 2) (fits 3),
      number_small e f g h (fits 4) (fits 5) (fits 6) (fits 7),
      sym (ap (λ (ys : List ℕ). a ∷ b ∷ c ∷ d ∷ (ys ++ debug)) back),
    )
eight_found [] fits long = absurd (omega arith)
eight_found (a ∷ []) fits long = absurd (omega arith)
eight_found (a ∷ b ∷ []) fits long = absurd (omega arith)
eight_found (a ∷ b ∷ c ∷ []) fits long = absurd (omega arith)
eight_found (a ∷ b ∷ c ∷ d ∷ []) fits long = absurd (omega arith)
eight_found (a ∷ b ∷ c ∷ d ∷ e ∷ []) fits long = absurd (omega arith)
eight_found (a ∷ b ∷ c ∷ d ∷ e ∷ f ∷ []) fits long = absurd (omega arith)
eight_found (a ∷ b ∷ c ∷ d ∷ e ∷ f ∷ g ∷ []) fits long = absurd (omega arith)

pub goaway_found : (flags on : ℕ) (payload : List ℕ) → IsBytes payload → Sound (head (length payload) 7 flags on) → IsFound 7 flags on payload (frames.GoAway (number_at 0 payload % 0x8000_0000) (number_at 4 payload))
unfolding is_bad_length
goaway_found flags on payload fits s =
    record { kind_is = refl; content = (connection_of true on refl s.on_connection, eight_found payload fits (ltb-false _ _ s.good)) }

pub window_found : (flags on : ℕ) (payload : List ℕ) → IsBytes payload → Sound (head (length payload) 8 flags on) → IsFound 8 flags on payload (frames.Window on (number_at 0 payload % 0x8000_0000))
unfolding is_bad_length
window_found flags on payload fits s =
    record { kind_is = refl; content = (refl, (four_found payload fits (len_is (length payload) 4 s.good)).2) }

pub continuation_found : (flags on : ℕ) (payload : List ℕ) → Sound (head (length payload) 9 flags on) → IsFound 9 flags on payload (frames.Continuation on payload (has 4 flags))
continuation_found flags on payload s =
    record { kind_is = refl; content = (refl, low_of true on refl s.on_stream, refl, refl) }

-- what holds at a type holds at a number that is that type
pub at_kind : (kind k len flags on : ℕ) → eqb kind k ≡ true → Sound (head len kind flags on) → Sound (head len k flags on)
at_kind kind k len flags on e s = subst (λ (n : ℕ). Sound (head len n flags on)) (eqb-true kind k e) s

pub is_at : (kind k flags on : ℕ) (payload : List ℕ) (f g : Frame) → eqb kind k ≡ true → g ≡ f → IsFound k flags on payload g → IsFound kind flags on payload f
is_at kind k flags on payload f g e same x =
    subst (IsFound kind flags on payload) same (subst (λ (n : ℕ). IsFound n flags on payload g) (sym (eqb-true kind k e)) x)

pub above_nine : (kind : ℕ) → eqb kind 0 ≡ false → eqb kind 1 ≡ false → eqb kind 2 ≡ false → eqb kind 3 ≡ false → eqb kind 4 ≡ false → eqb kind 5 ≡ false → eqb kind 6 ≡ false → eqb kind 7 ≡ false → eqb kind 8 ≡ false → eqb kind 9 ≡ false → 9 < kind
above_nine kind e0 e1 e2 e3 e4 e5 e6 e7 e8 e9 =
    omega (arith, eqb-false kind 0 e0, eqb-false kind 1 e1, eqb-false kind 2 e2, eqb-false kind 3 e3, eqb-false kind 4 e4, eqb-false kind 5 e5, eqb-false kind 6 e6, eqb-false kind 7 e7, eqb-false kind 8 e8, eqb-false kind 9 e9)

pub plain_found : (kind flags on : ℕ) (payload : List ℕ) (f : Frame) → IsBytes payload → Sound (head (length payload) kind flags on) → eqb kind 0 ≡ false → eqb kind 1 ≡ false → plain_of (head (length payload) kind flags on) payload ≡ f → IsFound kind flags on payload f
unfolding plain_of
plain_found kind flags on payload f fits s not_data not_headers read =
    let len : ℕ = length payload in
    elim (chosen (eqb kind 2) _ _ f read) [
      | inl p ↦ is_at kind 2 flags on payload f _ p.0 p.1 (priority_found flags on payload (at_kind kind 2 len flags on p.0 s))
      | inr p2 ↦ elim (chosen (eqb kind 3) _ _ f p2.1) [
        | inl p ↦ is_at kind 3 flags on payload f _ p.0 p.1 (reset_found flags on payload fits (at_kind kind 3 len flags on p.0 s))
        | inr p3 ↦ elim (chosen (eqb kind 4) _ _ f p3.1) [
          | inl p ↦ is_at kind 4 flags on payload f _ p.0 p.1 (settings_found flags on payload fits (at_kind kind 4 len flags on p.0 s))
          | inr p4 ↦ elim (chosen (eqb kind 5) _ _ f p4.1) [
            | inl p ↦ is_at kind 5 flags on payload f _ p.0 p.1 (push_found flags on payload)
            | inr p5 ↦ elim (chosen (eqb kind 6) _ _ f p5.1) [
              | inl p ↦ is_at kind 6 flags on payload f _ p.0 p.1 (ping_found flags on payload (at_kind kind 6 len flags on p.0 s))
              | inr p6 ↦ elim (chosen (eqb kind 7) _ _ f p6.1) [
                | inl p ↦ is_at kind 7 flags on payload f _ p.0 p.1 (goaway_found flags on payload fits (at_kind kind 7 len flags on p.0 s))
                | inr p7 ↦ elim (chosen (eqb kind 8) _ _ f p7.1) [
                  | inl p ↦ is_at kind 8 flags on payload f _ p.0 p.1 (window_found flags on payload fits (at_kind kind 8 len flags on p.0 s))
                  | inr p8 ↦ elim (chosen (eqb kind 9) _ _ f p8.1) [
                    | inl p ↦ is_at kind 9 flags on payload f _ p.0 p.1 (continuation_found flags on payload (at_kind kind 9 len flags on p.0 s))
                    | inr p9 ↦ subst (IsFound kind flags on payload) p9.1 (record { kind_is = refl; content = above_nine kind not_data not_headers p2.0 p3.0 p4.0 p5.0 p6.0 p7.0 p8.0 p9.0 })
                  ]
                ]
              ]
            ]
          ]
        ]
      ]
    ]

pub payload_found : (at kind flags on : ℕ) (payload : List ℕ) (f : Frame) → IsBytes payload → Sound (head (length payload) kind flags on) → payload_at at (head (length payload) kind flags on) payload ≡ Ok f → IsFound kind flags on payload f
unfolding payload_at
payload_found at kind flags on payload f fits s read =
    let len : ℕ = length payload in
    elim (chosen (eqb kind 0) _ _ (Ok f) read) [
      | inl p ↦ is_at kind 0 flags on payload f f p.0 refl (data_found at flags on payload f (at_kind kind 0 len flags on p.0 s) p.1)
      | inr p0 ↦ elim (chosen (eqb kind 1) _ _ (Ok f) p0.1) [
        | inl p ↦ is_at kind 1 flags on payload f f p.0 refl (headers_found at flags on payload f (at_kind kind 1 len flags on p.0 s) p.1)
        | inr p1 ↦ plain_found kind flags on payload f fits s p0.0 p1.0 (ok_is _ _ p1.1)
      ]
    ]
