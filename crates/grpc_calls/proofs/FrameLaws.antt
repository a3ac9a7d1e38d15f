-- The frames of a connection, one after the other.
use Rattle.std.proofs.Common.{rules, ◌≡◌, ℕ, ◌+◌, ◌-◌, ◌<◌, ◌≤◌, Bool, true, false, List, length, take, drop, refl, sym, ap, subst, ◌∙◌, arith, length-drop}
use Rattle.std.specs.Prelude.{Option, Some, None, Result, Ok, Err, IfSome, IfOk, IsSome, IsNone, if◌then◌else◌}
use Rattle.proto_wire.specs.Steps.{◌>>=◌}
use Rattle.proto_wire.specs.Reading.{IsBytes}
use Rattle.proto_wire.proofs.Varints.{IsBytes-drop}
use Rattle.h2_frames.specs.declared.fault.FrameFault.{FrameFault}
use Rattle.h2_frames.specs.declared.frame.Frame.{Frame}
use Rattle.h2_frames.specs.Reading.{frame_at}
use Rattle.h2_frames.specs.Spelling.{IsSpelling}
use Rattle.h2_frames.specs.Stream.{Pending, advanced, behind, begun, seen, give, given, cut, preface_at, Answers}
use Rattle.h2_frames.proofs.Found.{frame_long, frame_found}

-- ---- past the preface

behind_has : (P : Pending → Type 0) (x : Result Bool FrameFault) (r : Pending) → P r → P (advanced 24 r) → P (behind x r)
behind_has P (Ok true) r h k = k
behind_has P (Ok false) r h k = h
behind_has P (Err e) r h k = h

begun_by : (P : Pending → Type 0) (t : Bool) (x : Result Bool FrameFault) (r : Pending) → P r → P (advanced 24 r) → P (if t then behind x r else r)
begun_by P true x r h k = behind_has P x r h k
begun_by P false x r h k = h

begun_has : (P : Pending → Type 0) (r : Pending) → P r → P (advanced 24 r) → P (begun r)
unfolding begun
begun_has P r h k = begun_by P r.due (preface_at r.at r.rest) r h k

begun_bytes : (r : Pending) → IsBytes r.rest → IsBytes (begun r).rest
begun_bytes r h = begun_has (λ (x : Pending). IsBytes x.rest) r h (IsBytes-drop 24 r.rest h)

begun_less : (r : Pending) → length (begun r).rest ≤ length r.rest
begun_less r = begun_has (λ (x : Pending). length x.rest ≤ length r.rest) r (omega arith) (omega (arith, length-drop 24 r.rest))

-- ---- what is given

abbrev first_of : Result (Option (ℕ × Frame) × Pending) FrameFault → Option (ℕ × Frame)
first_of (Ok x) = x.0
first_of (Err e) = None

abbrev second_of : Pending → Result (Option (ℕ × Frame) × Pending) FrameFault → Pending
second_of r (Ok x) = x.1
second_of r (Err e) = r

-- the frame that is given stands at the front
pub record Gives (b : Pending) (p : ℕ × Frame) (s : Pending) : Type 0 where
  pub frame : Frame
  pub size : ℕ
  pub seen_is : seen b ≡ Ok (Some (frame, size))
  pub given_is : p ≡ (b.at, frame)
  pub next : s ≡ advanced size b

some_by : (x : Result (Option (Frame × ℕ)) FrameFault) (b : Pending) (p : ℕ × Frame) (s : Pending) → seen b ≡ x → (x >>= λ o. Ok (give b o)) ≡ Ok (Some p, s) → Gives b p s
some_by (Err e) b p s i h = absurd (let k : None ≡ Some p = ap first_of h in cc)
some_by (Ok None) b p s i h = absurd (let k : None ≡ Some p = ap first_of h in cc)
some_by (Ok (Some y)) b p s i h =
    let k : Some (b.at, y.0) ≡ Some p = ap first_of h in
    record { frame = y.0; size = y.1; seen_is = i; given_is = (cc); next = sym (ap (second_of b) h) }

gives_some : (r : Pending) (p : ℕ × Frame) (s : Pending) → given r ≡ Ok (Some p, s) → Gives (begun r) p s
unfolding given
gives_some r p s h = some_by (seen (begun r)) (begun r) p s refl h

none_by : (x : Result (Option (Frame × ℕ)) FrameFault) (b : Pending) (s : Pending) → (x >>= λ o. Ok (give b o)) ≡ Ok (None, s) → s ≡ cut b
none_by (Err e) b s h = absurd cc
none_by (Ok None) b s h = sym (ap (second_of b) h)
none_by (Ok (Some y)) b s h = absurd (let k : Some (b.at, y.0) ≡ None = ap first_of h in cc)

gives_none : (r s : Pending) → given r ≡ Ok (None, s) → s ≡ cut (begun r)
unfolding given
gives_none r s h = none_by (seen (begun r)) (begun r) s h

seen_by : (t : Bool) (x : Result Bool FrameFault) (z : Result (Option (Frame × ℕ)) FrameFault) (y : Frame × ℕ) → (if t then (x >>= λ whole. Ok None) else z) ≡ Ok (Some y) → z ≡ Ok (Some y)
seen_by true (Ok w) z y h = absurd cc
seen_by true (Err e) z y h = absurd cc
seen_by false x z y h = h

seen_frame : (b : Pending) (y : Frame × ℕ) → seen b ≡ Ok (Some y) → frame_at b.at b.rest ≡ Ok (Some y)
unfolding seen
seen_frame b y h = seen_by b.due (preface_at b.at b.rest) (frame_at b.at b.rest) y h

pub none_is : (o : Option FrameFault) → o ≡ None → IsNone o
none_is None e = search rules
none_is (Some x) e = absurd cc

-- ---- the reader's answers

pub answers_bytes : (old new : Pending) (result : Result (Option (ℕ × Frame)) FrameFault) → IsBytes old.rest → Answers old new result → IsBytes new.rest
answers_bytes old new (Ok None) h a = subst (λ (x : Pending). IsBytes x.rest) (sym (gives_none old new a)) (begun_bytes old h)
answers_bytes old new (Ok (Some p)) h a =
    let g = gives_some old p new a in
    subst (λ (x : Pending). IsBytes x.rest) (sym g.next) (IsBytes-drop g.size (begun old).rest (begun_bytes old h))
answers_bytes old new (Err e) h a = subst (λ (x : Pending). IsBytes x.rest) (sym a.1) (begun_bytes old h)

spelled_of : (old new : Pending) (p : ℕ × Frame) → IsBytes old.rest → given old ≡ Ok (Some p, new) → (text : List ℕ) × IsSpelling text p.1
spelled_of old new p h a =
    let g = gives_some old p new a in
    let b = begun old in
    let found = frame_found b.at b.rest g.frame g.size (begun_bytes old h) (seen_frame b (g.frame, g.size) g.seen_is) in
    (take g.size b.rest, subst (λ (f : Frame). IsSpelling (take g.size b.rest) f) (sym (ap (λ (q : ℕ × Frame). q.1) g.given_is)) found)

pub answers_spelled : (old new : Pending) (result : Result (Option (ℕ × Frame)) FrameFault) → IsBytes old.rest → Answers old new result → IfOk result (λ o. IfSome o (λ p. (text : List ℕ) × IsSpelling text p.1))
answers_spelled old new (Ok None) h a = tt
answers_spelled old new (Ok (Some p)) h a = spelled_of old new p h a
answers_spelled old new (Err e) h a = tt

pub answers_less : (old new : Pending) (result : Result (Option (ℕ × Frame)) FrameFault) → Answers old new result → IfOk result (λ o. IsSome o → length new.rest < length old.rest)
answers_less old new (Ok None) a = λ none. absurd cc
answers_less old new (Ok (Some p)) a =
    let g = gives_some old p new a in
    let b = begun old in
    let long = frame_long b.at b.rest g.frame g.size (seen_frame b (g.frame, g.size) g.seen_is) in
    let less = begun_less old in
    let next : length new.rest ≡ length (drop g.size b.rest) = ap (λ (x : Pending). length x.rest) g.next in
    λ some. omega (arith, long.0, long.1, less, next, length-drop g.size b.rest)
answers_less old new (Err e) a = tt
