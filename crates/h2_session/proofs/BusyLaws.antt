-- How many streams have something left to write.
use Rattle.std.proofs.Common.{◌≡◌, ℕ, zero, suc, ◌+◌, ◌-◌, ◌≤◌, List, [], ◌∷◌, ◌++◌, Bool, true, false, length, arith, refl, ap, subst, inl, get_or}
use Rattle.std.specs.Prelude.{Some, slice_get, slice_set, All, ◌==◌, if◌then◌else◌}
use Rattle.std.proofs.lemmas.Option.{slice_get_within, get_or_from_slice_get}
use Rattle.std.proofs.lemmas.List.Elements.{All-cons, All-from_recursion}
use Rattle.std.proofs.lemmas.List.Sums.{sum_by-cons, sum_by-set, get_or-le-sum_by}
use Rattle.std.proofs.lemmas.Bool.{eqb-true}
use Rattle.h2_session.specs.declared.stream.Stream.{Stream}
use Rattle.h2_session.specs.declared.stream.Sending.{Sending}
use Rattle.h2_session.specs.declared.stream.Sending.TheVariants as sending
use Rattle.h2_session.specs.Rows.{busy_of, busy_in, ends_left, rows_said}
use Rattle.h2_session.specs.Sent.{IsStuck, MayEnd}
use Rattle.h2_session.proofs.RowLaws.{read_is}

ends_small : (x : Sending) → ends_left x ≤ 1
ends_small sending.Unopened = omega arith
ends_small sending.Open = omega arith
ends_small (sending.Trailers headers) = omega arith
ends_small sending.HalfClose = omega arith
ends_small sending.Ended = omega arith

small_if : (b : Bool) (n : ℕ) → n ≤ 1 → (if b then n else 1) ≤ 1
small_if true n h = h
small_if false n h = omega arith

one_small : (s : Stream) → busy_of s ≤ 1
one_small s = small_if (length s.waits == 0) (ends_left s.sending) (ends_small s.sending)

pub busy_small : (ss : List Stream) → busy_in ss ≤ length ss
busy_small [] = omega arith
busy_small (s ∷ ss) =
    let e = sum_by-cons busy_of s ss in
    let h = one_small s in
    let k = busy_small ss in
    omega (arith, e, h, k)

-- a stream is one of those that are counted
pub busy_within : (ss : List Stream) (i : ℕ) (s : Stream) → slice_get ss i ≡ Some s → busy_of s ≤ busy_in ss
busy_within ss i s at =
    let k = get_or-le-sum_by busy_of ss i s (slice_get_within ss i s at) in
    let e : busy_of (get_or ss i s) ≡ busy_of s = ap busy_of (get_or_from_slice_get ss i s s at) in
    omega (arith, k, e)

set_read : (ss : List Stream) (i : ℕ) (s t e : Stream) → slice_get ss i ≡ Some s → e ≡ get_or (slice_set ss i t) i e → e ≡ t
set_read [] i s t e at h = absurd (cc at)
set_read (x ∷ ss) zero s t e at h = h
set_read (x ∷ ss) (suc i) s t e at h = set_read ss i s t e at h

-- the count after one stream has become another
pub recounts : (xs ys : List Stream) (i : ℕ) (s t d e : Stream) (busy was is : ℕ) → slice_get xs i ≡ Some s → ys ≡ slice_set xs i t → d ≡ get_or xs i d → e ≡ get_or ys i e
    → was ≡ busy_of d → is ≡ busy_of e → busy ≡ busy_in xs → (was ≤ busy) × ((busy - was) + is ≡ busy_in ys)
recounts xs ys i s t d e busy was is at to read again is_was is_is counted =
    let k = sum_by-set busy_of xs i t s (slice_get_within xs i s at) in
    let g : busy_of (get_or xs i s) ≡ busy_of s = ap busy_of (get_or_from_slice_get xs i s s at) in
    let l = busy_within xs i s at in
    let m : busy_of d ≡ busy_of s = ap busy_of (read_is xs i d s read at) in
    let n : busy_of e ≡ busy_of t = ap busy_of (set_read xs i s t e at (subst (λ (zs : List Stream). e ≡ get_or zs i e) to again)) in
    let o : busy_in ys ≡ busy_in (slice_set xs i t) = ap busy_in to in
    (omega (arith, l, m, is_was, counted), omega (arith, k, g, l, m, n, o, is_was, is_is, counted))

pub said_set : (i : ℕ) (bytes : List ℕ) (e : Bool) (s : Stream) (ss : List Stream) → (t : Stream) × (rows_said i bytes e s ss ≡ slice_set ss i t)
said_set i bytes true s ss = (record s { waits = s.waits ++ bytes; sending = sending.HalfClose }, refl)
said_set i bytes false s ss = (record s { waits = s.waits ++ bytes }, refl)

idle_end : (x : Sending) → ends_left x ≡ 0 → MayEnd x
idle_end sending.Unopened h = tt
idle_end sending.Open h = tt
idle_end (sending.Trailers headers) h = absurd (omega (arith, h))
idle_end sending.HalfClose h = absurd (omega (arith, h))
idle_end sending.Ended h = tt

no_bytes : (xs : List ℕ) → length xs ≡ 0 → xs ≡ []
no_bytes [] h = refl
no_bytes (x ∷ xs) h = absurd (omega (arith, h))

idle_by : (b : Bool) (n : ℕ) → (if b then n else 1) ≡ 0 → (b ≡ true) × (n ≡ 0)
idle_by true n h = (refl, h)
idle_by false n h = absurd (omega (arith, h))

idle_stuck : (window initial : ℕ) (s : Stream) → busy_of s ≡ 0 → IsStuck window initial s
idle_stuck window initial s h =
    let k = idle_by (length s.waits == 0) (ends_left s.sending) h in
    inl (no_bytes s.waits (eqb-true (length s.waits) 0 k.0), idle_end s.sending k.1)

-- where no stream has anything left to write, nothing may be written
pub all_stuck : (window initial : ℕ) (ss : List Stream) → busy_in ss ≡ 0 → All (IsStuck window initial) ss
all_stuck window initial [] h = All-from_recursion (IsStuck window initial) [] tt
all_stuck window initial (s ∷ ss) h =
    let e = sum_by-cons busy_of s ss in
    All-cons (IsStuck window initial) s ss (idle_stuck window initial s (omega (arith, e, h))) (all_stuck window initial ss (omega (arith, e, h)))
