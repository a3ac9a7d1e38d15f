-- Laws of the table of live streams.
use Rattle.std.proofs.Common.{◌≡◌, ℕ, zero, suc, ◌-◌, ◌≤◌, ◌<◌, ◌⊎◌, Bool, true, false, List, [], ◌∷◌, ◌++◌, length, arith, refl, sym, ap, subst, ◌∙◌, inl, inr, get_or, drop, length-drop}
use Rattle.std.specs.Prelude.{Option, Some, None, slice_get, slice_set, remove, not, nat_lt, ◌||◌, ◌&&◌, Result, Ok, Err, OnOk, OnErr, ◌==◌, if◌then◌else◌}
use Rattle.std.proofs.lemmas.Option.{slice_get_within, get_or_from_slice_get}
use Rattle.std.proofs.lemmas.List.Sums.{sum_by-set, sum_by-remove}
use Rattle.std.specs.List.{position_or_len}
use Rattle.std.proofs.lemmas.List.Quantifiers.{position-Some}
use Rattle.std.proofs.lemmas.Bool.{eqb-true, eq-eqb, ne_eqb, lt-ltb, le-ltb, ltb-true}
use Rattle.h2_session.specs.declared.stream.Stream.{Stream}
use Rattle.h2_session.specs.declared.stream.Sending.{Sending}
use Rattle.h2_session.specs.declared.stream.Sending.TheVariants as sending
use Rattle.h2_session.specs.declared.block.Block.{Block}
use Rattle.h2_session.specs.declared.role.Role.{Role}
use Rattle.h2_session.specs.Faults.{is_server}
use Rattle.h2_session.specs.Part.{place_of, IsRow}
use Rattle.h2_session.specs.Windows.{used, new_flow}
use Rattle.h2_session.specs.Rows.{Rises, top_of, may_open, Opens, rows_ended, rows_after, rows_said, rows_answered, left_of, left_in, ends_left, is_done}
use Rattle.h2_session.specs.Sent.{is_closing}
use Rattle.h2_session.specs.Turns.{MayTake, AreTrailers}

pub Rises-lower : (low low' : ℕ) (ss : List Stream) (high : ℕ) → low' ≤ low → Rises low ss high → Rises low' ss high
Rises-lower low low' [] high l h = omega arith
Rises-lower low low' (s ∷ ss) high l h = (omega (arith, h.0), h.1)

pub Rises-remove : (low : ℕ) (ss : List Stream) (high i : ℕ) → Rises low ss high → Rises low (remove ss i) high
Rises-remove low [] high zero h = h
Rises-remove low [] high (suc i) h = h
Rises-remove low (s ∷ ss) high zero h = Rises-lower s.number low ss high (omega (arith, h.0)) h.1
Rises-remove low (s ∷ ss) high (suc i) h = (h.0, Rises-remove s.number ss high i h.1)

pub Rises-if : (low high : ℕ) (b : Bool) (xs ys : List Stream) → Rises low xs high → Rises low ys high → Rises low (if b then xs else ys) high
Rises-if low high true xs ys h k = h
Rises-if low high false xs ys h k = k

pub Rises-set : (low : ℕ) (ss : List Stream) (high i : ℕ) (s t : Stream) → slice_get ss i ≡ Some s → t.number ≡ s.number → Rises low ss high → Rises low (slice_set ss i t) high
Rises-set low [] high i s t at same h = h
Rises-set low (x ∷ ss) high zero s t at same h =
    let e : x ≡ s = grind arith in
    let n : t.number ≡ x.number = same ∙ ap (λ (y : Stream). y.number) (sym e) in
    (rw n h.0, rw n h.1)
Rises-set low (x ∷ ss) high (suc i) s t at same h = (h.0, Rises-set x.number ss high i s t at same h.1)

pub Rises-after : (low : ℕ) (ss : List Stream) (high i size : ℕ) (s : Stream) (e : Bool) → slice_get ss i ≡ Some s → Rises low ss high → Rises low (rows_after size e i s ss) high
Rises-after low ss high i size s true at h =
    Rises-if low high s.ended (remove ss i) (slice_set ss i (record s { flow = used size s.flow; waits = drop size s.waits; sending = sending.Ended }))
    (Rises-remove low ss high i h) (Rises-set low ss high i s (record s { flow = used size s.flow; waits = drop size s.waits; sending = sending.Ended }) at refl h)
Rises-after low ss high i size s false at h = Rises-set low ss high i s (record s { flow = used size s.flow; waits = drop size s.waits }) at refl h

pub Rises-ended : (low : ℕ) (ss : List Stream) (high i : ℕ) (s : Stream) → slice_get ss i ≡ Some s → Rises low ss high → Rises low (rows_ended i s ss) high
Rises-ended low ss high i s at h =
    Rises-if low high (is_done s.sending) (remove ss i) (slice_set ss i (record s { ended = true }))
    (Rises-remove low ss high i h) (Rises-set low ss high i s (record s { ended = true }) at refl h)

pub Rises-said : (low : ℕ) (ss : List Stream) (high i : ℕ) (bytes : List ℕ) (e : Bool) (s : Stream) → slice_get ss i ≡ Some s → Rises low ss high → Rises low (rows_said i bytes e s ss) high
Rises-said low ss high i bytes true s at h = Rises-set low ss high i s (record s { waits = s.waits ++ bytes; sending = sending.HalfClose }) at refl h
Rises-said low ss high i bytes false s at h = Rises-set low ss high i s (record s { waits = s.waits ++ bytes }) at refl h

pub Rises-answered : (low : ℕ) (ss : List Stream) (high i : ℕ) (e : Bool) (s : Stream) → slice_get ss i ≡ Some s → Rises low ss high → Rises low (rows_answered i e s ss) high
Rises-answered low ss high i true s at h = Rises-remove low ss high i h
Rises-answered low ss high i false s at h = Rises-set low ss high i s (record s { sending = sending.Open }) at refl h

pub Rises-higher : (low : ℕ) (ss : List Stream) (high high' : ℕ) → high ≤ high' → Rises low ss high → Rises low ss high'
Rises-higher low [] high high' l h = omega arith
Rises-higher low (s ∷ ss) high high' l h = (h.0, Rises-higher s.number ss high high' l h.1)

pub Rises-add : (low : ℕ) (ss : List Stream) (high high' : ℕ) (s : Stream) → high < s.number → s.number ≤ high' → Rises low ss high → Rises low (ss ++ s ∷ []) high'
Rises-add low [] high high' s l m h = (omega (arith, h), m)
Rises-add low (x ∷ ss) high high' s l m h = (h.0, Rises-add x.number ss high high' s l m h.1)

above : (low : ℕ) (ss : List Stream) (high i : ℕ) (s : Stream) → slice_get ss i ≡ Some s → Rises low ss high → low < s.number
above low [] high i s at h = cc
above low (x ∷ ss) high zero s at h =
    let e : x ≡ s = grind arith in rw (← e) h.0
above low (x ∷ ss) high (suc i) s at h = let k = above x.number ss high i s at h.1 in omega (arith, h.0, k)

counted : (low : ℕ) (ss : List Stream) (high i : ℕ) (s : Stream) → slice_get ss i ≡ Some s → Rises low ss high → position_or_len (λ (x : Stream). x.number == s.number) ss ≡ i
counted low [] high i s at h = cc
counted low (x ∷ ss) high zero s at h =
    let e : x ≡ s = grind arith in
    let k = eq-eqb x.number s.number (ap (λ (y : Stream). y.number) e) in
    rw k refl
counted low (x ∷ ss) high (suc i) s at h =
    let l = above x.number ss high i s at h.1 in
    let k = ne_eqb x.number s.number (λ e. omega (arith, e, l)) in
    let r = counted x.number ss high i s at h.1 in
    rw k (omega (arith, r))

-- a stream is the only one with its number
pub place_found : (low : ℕ) (ss : List Stream) (high i : ℕ) (s : Stream) → slice_get ss i ≡ Some s → Rises low ss high → place_of s.number ss ≡ Some i
place_found low ss high i s at h =
    let l = lt-ltb i (length ss) (slice_get_within ss i s at) in
    rw (counted low ss high i s at h, l) refl

-- the numbers stand in the order of their places
pub rises_order : (low : ℕ) (ss : List Stream) (high i j : ℕ) (s t : Stream) → Rises low ss high → i ≤ j → slice_get ss i ≡ Some s → slice_get ss j ≡ Some t → s.number ≤ t.number
rises_order low [] high i j s t h l a b = absurd (cc a)
rises_order low (x ∷ ss) high zero zero s t h l a b =
    let n : s.number ≡ t.number = let e : s ≡ t = grind arith in ap (λ (y : Stream). y.number) e in omega (arith, n)
rises_order low (x ∷ ss) high zero (suc j) s t h l a b =
    let n : x.number ≡ s.number = let e : x ≡ s = grind arith in ap (λ (y : Stream). y.number) e in
    let k = above x.number ss high j t b h.1 in omega (arith, n, k)
rises_order low (x ∷ ss) high (suc i) zero s t h l a b = absurd (omega (arith, l))
rises_order low (x ∷ ss) high (suc i) (suc j) s t h l a b = rises_order x.number ss high i j s t h.1 (omega (arith, l)) a b

uncounted : (number : ℕ) (ss : List Stream) → ((k : ℕ) (s : Stream) → slice_get ss k ≡ Some s → s.number ≡ number → ⊥) → position_or_len (λ (x : Stream). x.number == number) ss ≡ length ss
uncounted number [] h = refl
uncounted number (x ∷ ss) h =
    let k = ne_eqb x.number number (h 0 x refl) in
    let r = uncounted number ss (λ i s at. h (suc i) s at) in
    rw k (omega (arith, r))

-- no stream has this number
pub place_missed : (number : ℕ) (ss : List Stream) → ((k : ℕ) (s : Stream) → slice_get ss k ≡ Some s → s.number ≡ number → ⊥) → place_of number ss ≡ None
place_missed number ss h =
    let l = le-ltb (length ss) (length ss) (omega arith) in
    rw (uncounted number ss h, l) refl

pub same_row : (ss : List Stream) (i : ℕ) (d s : Stream) → slice_get ss i ≡ Some d → slice_get ss i ≡ Some s → d ≡ s
same_row ss i d s a b = cc

default_row : ℕ → Stream
default_row number = record { number = number; flow = new_flow; ended = false; sending = sending.Open; waits = [] }

pub row_at : (ss : List Stream) (i : ℕ) → i < length ss → (s : Stream) × (slice_get ss i ≡ Some s)
row_at [] i l = absurd (omega arith)
row_at (x ∷ ss) zero l = (x, refl)
row_at (x ∷ ss) (suc i) l = row_at ss i (omega arith)

-- what stands at the place of a number
pub place_row : (number : ℕ) (ss : List Stream) (i : ℕ) → place_of number ss ≡ Some i → IsRow number ss i
place_row number ss i e =
    let test : Stream → Bool = λ (x : Stream). x.number == number in
    let l = (position-Some test ss i (default_row number) e).0 in
    let r = row_at ss i l in
    let t = (position-Some test ss i r.0 e).1 in
    let g = get_or_from_slice_get ss i r.0 r.0 r.1 in
    let n : r.0.number ≡ number = eqb-true r.0.number number (rw g at t) in
    record { row = r.0; at = r.1; same = n; first = e }

pub either : {E P Q G : Type 0} (r : Result (Unit {0}) E) → OnOk r P → OnErr r Q → (P → G) → (Q → G) → G
either (Ok x) p q f g = f p
either (Err x) p q f g = g q

not_begun : (b s x : Bool) → s ≡ false → (not b || (s && x)) ≡ true → b ≡ false
not_begun true true x e h = cc
not_begun true false x e h = cc
not_begun false s x e h = refl

small_by : (b s x : Bool) (n high : ℕ) → x ≡ (n == high) → b ≡ true → (not b || (s && x)) ≡ true → n ≤ high
small_by true true x n high is e h = let k = eqb-true n high (sym is ∙ h) in omega arith
small_by true false x n high is e h = cc
small_by false s x n high is e h = cc

pub higher_by : (s x b : Bool) (high n h : ℕ) → x ≡ nat_lt high n → b ≡ (s && x) → h ≡ (if b then n else high) → high ≤ h
higher_by true true true high n h l e k = let m = ltb-true high n (sym l) in omega arith
higher_by true false true high n h l e k = absurd (cc e)
higher_by false x true high n h l e k = absurd (cc e)
higher_by s x false high n h l e k = omega arith

pub opens_by : (role : Role) (ss : List Stream) (high h n : ℕ) (b s x : Bool) → s ≡ is_server role → x ≡ nat_lt high n → b ≡ (s && x) → h ≡ (if b then n else high) → Rises 0 ss high
    → ((not b || (is_server role && (n == h))) ≡ true) × Rises 0 ss (if b then n - 1 else h)
opens_by role ss high h n true true true is il e k r =
    (rw (← is, k) (eq-eqb n n refl), Rises-higher 0 ss high (n - 1) (let l = ltb-true high n (sym il) in omega arith) r)
opens_by role ss high h n true true false is il e k r = absurd (cc e)
opens_by role ss high h n true false x is il e k r = absurd (cc e)
opens_by role ss high h n false s x is il e k r = (refl, rw k r)

pub top_client : (role : Role) (block : Option Block) (high : ℕ) → is_server role ≡ false → may_open role block high ≡ true → top_of block high ≡ high
top_client role None high s o = refl
top_client role (Some b) high s o = let k = not_begun b.begins (is_server role) _ s o in rw k refl

pub open_client : (role : Role) (block : Option Block) (high high' : ℕ) → is_server role ≡ false → may_open role block high ≡ true → may_open role block high' ≡ true
open_client role None high high' s o = refl
open_client role (Some b) high high' s o = let k = not_begun b.begins (is_server role) _ s o in rw k refl

if_number : (b : Bool) (x y : ℕ) → b ≡ true → (if b then x else y) ≡ x
if_number b x y e = rw e refl

-- a block that begins a stream, when its first fragment has come
pub opens_new : (role : Role) (ss : List Stream) (high h : ℕ) (b : Block) → b.begins ≡ (is_server role && nat_lt high b.stream) → h ≡ (if b.begins then b.stream else high) → Rises 0 ss high → Opens role b ss h
opens_new role ss high h b e n r = opens_by role ss high h b.stream b.begins (is_server role) (nat_lt high b.stream) refl refl e n r

-- what a whole block leaves for the stream that it begins
pub begun_small : (role : Role) (b : Block) (high : ℕ) → b.begins ≡ true → may_open role (Some b) high ≡ true → b.stream ≤ high
begun_small role b high e o = small_by b.begins (is_server role) (b.stream == high) b.stream high refl e o

is_by : (b s x : Bool) (n high : ℕ) → x ≡ (n == high) → b ≡ true → (not b || (s && x)) ≡ true → n ≡ high
is_by true true x n high is e h = eqb-true n high (sym is ∙ h)
is_by true false x n high is e h = cc
is_by false s x n high is e h = cc

pub begun_is : (role : Role) (b : Block) (high : ℕ) → b.begins ≡ true → may_open role (Some b) high ≡ true → b.stream ≡ high
begun_is role b high e o = is_by b.begins (is_server role) (b.stream == high) b.stream high refl e o

pub begun_rises : (ss : List Stream) (b : Block) (high : ℕ) → b.begins ≡ true → Rises 0 ss (top_of (Some b) high) → Rises 0 ss (b.stream - 1)
begun_rises ss b high e r = subst (λ (x : ℕ). Rises 0 ss x) (if_number b.begins (b.stream - 1) high e) r

if_other : (b : Bool) (x y : ℕ) → b ≡ false → (if b then x else y) ≡ y
if_other b x y e = rw e refl

pub begun_not : (ss : List Stream) (b : Block) (high : ℕ) → b.begins ≡ false → Rises 0 ss (top_of (Some b) high) → Rises 0 ss high
begun_not ss b high e r = subst (λ (x : ℕ). Rises 0 ss x) (if_other b.begins (b.stream - 1) high e) r

-- a block that is unfinished keeps the numbers low
top_by : (b s x : Bool) (n high : ℕ) → x ≡ (n == high) → (not b || (s && x)) ≡ true → (if b then n - 1 else high) ≤ high
top_by true true x n high is e = let k = eqb-true n high (sym is ∙ e) in omega arith
top_by true false x n high is e = cc
top_by false s x n high is e = omega arith

pub top_small : (role : Role) (block : Option Block) (high : ℕ) → may_open role block high ≡ true → top_of block high ≤ high
top_small role None high o = omega arith
top_small role (Some b) high o = top_by b.begins (is_server role) (b.stream == high) b.stream high refl o

-- without a block
pub opens_none : (role : Role) (block : Option Block) (high : ℕ) → block ≡ None → may_open role block high ≡ true
opens_none role block high e = rw e refl

pub top_none : (block : Option Block) (high : ℕ) → block ≡ None → top_of block high ≡ high
top_none block high e = rw e refl

pub read_is : (ss : List Stream) (i : ℕ) (d s : Stream) → d ≡ get_or ss i d → slice_get ss i ≡ Some s → d ≡ s
read_is ss i d s e at = e ∙ get_or_from_slice_get ss i s d at

closing_left : (x : Sending) → is_closing x ≡ true → ends_left x ≡ 1
closing_left sending.Unopened h = cc
closing_left sending.Open h = cc
closing_left (sending.Trailers headers) h = cc
closing_left sending.HalfClose h = refl
closing_left sending.Ended h = cc

trailing_left : (x : Sending) → AreTrailers x → ends_left x ≡ 1
trailing_left sending.Unopened h = absurd h
trailing_left sending.Open h = absurd h
trailing_left (sending.Trailers headers) h = refl
trailing_left sending.HalfClose h = absurd h
trailing_left sending.Ended h = absurd h

left-set : (ss : List Stream) (i : ℕ) (s t : Stream) → slice_get ss i ≡ Some s → left_of t < left_of s → left_in (slice_set ss i t) < left_in ss
left-set ss i s t at l =
    let k = sum_by-set left_of ss i t s (slice_get_within ss i s at) in
    let e = get_or_from_slice_get ss i s s at in
    let f : left_of (get_or ss i s) ≡ left_of s = ap left_of e in
    omega (arith, k, f, l)

left-remove : (ss : List Stream) (i : ℕ) (s : Stream) → slice_get ss i ≡ Some s → 0 < left_of s → left_in (remove ss i) < left_in ss
left-remove ss i s at l =
    let k = sum_by-remove left_of ss i s (slice_get_within ss i s at) in
    let e = get_or_from_slice_get ss i s s at in
    let f : left_of (get_or ss i s) ≡ left_of s = ap left_of e in
    omega (arith, k, f, l)

left_if : (b : Bool) (xs ys : List Stream) (n : ℕ) → left_in xs < n → left_in ys < n → left_in (if b then xs else ys) < n
left_if true xs ys n a b = a
left_if false xs ys n a b = b

closes_by : (b c : Bool) → true ≡ (if b then c else false) → c ≡ true
closes_by true c h = sym h
closes_by false c h = cc

closes : (s : Stream) (size : ℕ) → true ≡ (if size == length s.waits then is_closing s.sending else false) → is_closing s.sending ≡ true
closes s size h = closes_by (size == length s.waits) (is_closing s.sending) h

some_bytes : (s : Stream) (size : ℕ) → (0 < size) ⊎ ((s.waits ≡ []) × (is_closing s.sending ≡ true)) → false ≡ (if size == length s.waits then is_closing s.sending else false) → size ≤ length s.waits → 0 < size
some_bytes s size h is l = elim h [ inl p ↦ p | inr q ↦ absurd (let n : size ≡ length s.waits = omega (arith, ap length q.0, l) in let t = eq-eqb size (length s.waits) n in let f : false ≡ is_closing s.sending = rw t at is in cc (f, q.1)) ]

pub left_after : (ss : List Stream) (i size : ℕ) (s : Stream) (e : Bool) (window initial : ℕ) → slice_get ss i ≡ Some s → MayTake window initial s size
    → e ≡ (if size == length s.waits then is_closing s.sending else false) → left_in (rows_after size e i s ss) < left_in ss
left_after ss i size s true window initial at may is =
    let k = closing_left s.sending (closes s size is) in
    left_if s.ended (remove ss i) (slice_set ss i (record s { flow = used size s.flow; waits = drop size s.waits; sending = sending.Ended })) (left_in ss)
    (left-remove ss i s at (omega (arith, k)))
    (left-set ss i s (record s { flow = used size s.flow; waits = drop size s.waits; sending = sending.Ended }) at (let d = length-drop size s.waits in omega (arith, k, d)))
left_after ss i size s false window initial at may is =
    left-set ss i s (record s { flow = used size s.flow; waits = drop size s.waits }) at
    (let d = length-drop size s.waits in let n = some_bytes s size may.some is may.whole in omega (arith, d, n, may.whole))

pub left_trailers : (ss : List Stream) (i : ℕ) (s : Stream) → slice_get ss i ≡ Some s → AreTrailers s.sending → left_in (remove ss i) < left_in ss
left_trailers ss i s at may = left-remove ss i s at (let k = trailing_left s.sending may in omega (arith, k))
