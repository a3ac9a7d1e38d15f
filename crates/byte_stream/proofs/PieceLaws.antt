-- A body that is read on.
use Rattle.std.proofs.Common.{◌≡◌, ◌≢◌, ◌+◌, ◌-◌, ◌≤◌, ◌<◌, ◌∙◌, ℕ, zero, suc, List, [], ◌∷◌, ◌++◌, length, take, drop, refl, sym, ap, subst, append_assoc, length-append, length-drop, arith}
use Rattle.std.specs.Prelude.{None, min}
use Rattle.std.proofs.lemmas.List.{take-append-le, take_all, length-take, append-nil, drop_at}
use Rattle.std.proofs.Math.Seq.{take-append-add}
use Rattle.std.proofs.lemmas.Slice.{take-put_mid}
use borrow.Rule.Slice.PartMut.{put_mid, post_of, mid_of, same_len_mid}
use Rattle.digest_types.specs.Name.{HashAndSize}
use Rattle.digest_types.specs.Digest.{digest_of}
use Rattle.casd_base.specs.Causes.{Rose}
use Rattle.blob_store.specs.Bodies.{ReadingState, HasRead, ReadsOn, IsRead}
use Rattle.blob_store.specs.Shelves.{Shelved, Stays}
use Rattle.blob_store.specs.declared.reading.ReadingEnd.{ReadingEnd}
use Rattle.blob_store.specs.declared.reading.ReadingEnd.TheVariants.{Failed as Fault, Damaged}
use Rattle.cas_calls.specs.Bodies.{IsLater}
use Rattle.cas_calls.specs.Plays.{Leaves, Lapses}
use Rattle.cas_calls.proofs.ReadLaws.{leaves_joined, leaves_stays}
use Rattle.byte_stream.specs.declared.read_stop.ReadStop.{ReadStop}
use Rattle.byte_stream.specs.declared.read_stop.ReadStop.TheVariants as stops
use Rattle.byte_stream.specs.declared.place.Place.{Place}
use Rattle.byte_stream.specs.Places.{IsRange, piece_end}
use Rattle.blob_store.specs.Bodies.{max_piece}
use Rattle.byte_stream.specs.ReadStops.{stop_by}
use Rattle.byte_stream.specs.Pieces.{HasCount, HasRoom, ReadsMore, IsCut, IsHalted, IsFinished, IsOther, ReadsRest, GivesPiece}

-- ---- a reading that goes on

pub size_of_digest : (bytes : List ℕ) → (digest_of bytes).size ≡ length bytes
unfolding digest_of
size_of_digest bytes = refl

pub count_more : (s t : ReadingState) (count : ℕ) (more : List ℕ) → HasCount s count → ReadsMore s t more → HasCount t (count + length more)
count_more s t count more has reads = record {
  going = reads.going;
  bytes = has.bytes ++ more;
  read = reads.on has.bytes has.read;
  length_is = length-append has.bytes more ∙ ap (λ (n : ℕ). n + length more) has.length_is;
}

pub room_more : (s t : ReadingState) (room left : ℕ) (more : List ℕ) → HasRoom s room → ReadsMore s t more → length more + left ≤ room → HasRoom t left
room_more s t room left more has reads fits = record {
  count = has.count + length more;
  has = count_more s t has.count more has.has reads;
  fits = omega (arith, has.fits, ap (λ (d : HashAndSize). d.size) reads.later.want);
}

pub later_joined : (s t u : ReadingState) → IsLater s t → IsLater t u → IsLater s u
later_joined s t u p q = record { want = q.want ∙ p.want; told = q.told ∙ p.told }

pub reads_none : (s : ReadingState) (count : ℕ) → HasCount s count → ReadsMore s s []
reads_none s count has = record { on = λ read h. subst (λ (xs : List ℕ). HasRead s xs) (sym (append-nil read)) h; going = has.going; later = record { want = refl; told = refl } }

pub reads_joined : (s t u : ReadingState) (xs ys : List ℕ) → ReadsMore s t xs → ReadsMore t u ys → ReadsMore s u (xs ++ ys)
reads_joined s t u xs ys p q = record {
  on = λ read h. subst (λ (zs : List ℕ). HasRead u zs) (append_assoc read xs ys) (q.on (read ++ xs) (p.on read h));
  going = q.going;
  later = later_joined s t u p.later q.later;
}

-- ---- a piece of a buffer

-- the body isn't at its end while it has fewer bytes than the digest says
nothing_read : (s t : ReadingState) (room n : ℕ) (part : List ℕ) → HasRoom s room → 0 < room → ReadsOn s t (take n part) → t.want ≡ s.want → n ≡ 0 → IsRead t → ⊥
nothing_read s t room n part has some on want none whole =
    let all = whole.digest (has.has.bytes ++ take n part) (on has.has.bytes has.has.read) in
    let size : length (has.has.bytes ++ take n part) ≡ t.want.size = sym (size_of_digest (has.has.bytes ++ take n part)) ∙ ap (λ (d : HashAndSize). d.size) all in
    let empty : length (take n part) ≡ 0 = rw none refl in
    let len = length-append has.has.bytes (take n part) in
    let same : t.want.size ≡ s.want.size = ap (λ (d : HashAndSize). d.size) want in
    absurd (omega (arith, has.fits, has.has.length_is, size, empty, len, same, some))

pub some_read : (s t : ReadingState) (room n : ℕ) (part : List ℕ) → HasRoom s room → 0 < room → 0 < length part → ReadsOn s t (take n part) → t.want ≡ s.want → (n ≡ 0 → 0 < length part → IsRead t) → 0 < n
some_read s t room zero part has some long on want ended = absurd (nothing_read s t room 0 part has some on want refl (ended refl long))
some_read s t room (suc n) part has some long on want ended = omega arith

front_part : (n : ℕ) (ys post : List ℕ) → n ≤ length ys → take n (ys ++ post) ≡ take n ys
front_part n ys post le = take-append-le n ys post le

pub put_front : (at n : ℕ) (xs ys : List ℕ) → at ≤ length xs → n ≤ length ys → take (at + n) (put_mid at (length xs - at) xs ys) ≡ take at xs ++ take n ys
put_front at n xs ys within le =
    let len : length (take at xs) ≡ at = length-take at xs ∙ omega arith in
    ap (λ (k : ℕ). take (k + n) (take at xs ++ (ys ++ post_of at (length xs - at) xs))) (sym len)
    ∙ take-append-add (take at xs) (ys ++ post_of at (length xs - at) xs) n
    ∙ ap (λ (zs : List ℕ). take at xs ++ zs) (front_part n ys (post_of at (length xs - at) xs) le)

pub mid_length : (at : ℕ) (xs : List ℕ) → length (mid_of at (length xs - at) xs) ≡ length xs - at
mid_length at xs = length-take (length xs - at) (drop at xs) ∙ (let l : length (drop at xs) ≡ length xs - at = length-drop at xs in omega arith)

-- one more part was read into the buffer
pub fill_step : (r s t : ReadingState) (at n : ℕ) (buf part : List ℕ) (x y z : Shelved) → at ≤ length buf → HasRoom s (length buf - at) → ReadsMore r s (take at buf) → Leaves x y → length part ≡ length (mid_of at (length buf - at) buf) → n ≤ length part → ReadsOn s t (take n part) → IsLater s t → t.end ≡ None → Stays y z
    → (at + n ≤ length (put_mid at (length buf - at) buf part)) × HasRoom t (length (put_mid at (length buf - at) buf part) - (at + n)) × ReadsMore r t (take (at + n) (put_mid at (length buf - at) buf part)) × Leaves x z
fill_step r s t at n buf part x y z within has reads leaves len le on later going stays =
    let part_len : length part ≡ length buf - at = len ∙ mid_length at buf in
    let all : length (put_mid at (length buf - at) buf part) ≡ length buf = same_len_mid at (length buf - at) buf part len in
    let more : ReadsMore s t (take n part) = record { on = on; going = going; later = later } in
    let size : length (take n part) ≡ n = length-take n part ∙ omega arith in (
      omega (arith, all, part_len),
      room_more s t (length buf - at) (length (put_mid at (length buf - at) buf part) - (at + n)) (take n part) has more (omega (arith, all, part_len, size)),
      subst (λ (zs : List ℕ). ReadsMore r t zs) (sym (put_front at n buf part within le)) (reads_joined r s t (take at buf) (take n part) reads more),
      leaves_joined x y z leaves (leaves_stays y z stays),
    )

-- some more bytes were passed over
pub skip_step : (r s t : ReadingState) (left n count : ℕ) (xs ys : List ℕ) (x y z : Shelved) → HasRoom s left → length xs + left ≡ count → ReadsMore r s xs → Leaves x y → length ys ≡ n → n ≤ left → ReadsMore s t ys → Leaves y z
    → HasRoom t (left - n) × ((more : List ℕ) × (length more + (left - n) ≡ count) × ReadsMore r t more) × Leaves x z
skip_step r s t left n count xs ys x y z has sum reads leaves len le more later =
    let all = length-append xs ys in (
      room_more s t left (left - n) ys has more (omega (arith, len)),
      (xs ++ ys, omega (arith, all, len, sum), reads_joined r s t xs ys reads more),
      leaves_joined x y z leaves later,
    )

-- the rest of the body: one more part was read
pub out_step : (r s t : ReadingState) (read n : ℕ) (xs part : List ℕ) (d : HashAndSize) (x y z : Shelved) → HasCount s read → ReadsMore r s xs → s.want ≡ d → Leaves x y → n ≤ length part → ReadsOn s t (take n part) → IsLater s t → t.end ≡ None → 0 < length part → Stays y z
    → HasCount t (read + n) × ((more : List ℕ) × ReadsMore r t more) × (t.want ≡ d) × (0 < length part) × Leaves x z
out_step r s t read n xs part d x y z has reads is leaves le on later going some stays =
    let more : ReadsMore s t (take n part) = record { on = on; going = going; later = later } in
    let size : length (take n part) ≡ n = length-take n part ∙ omega arith in (
      subst (λ (k : ℕ). HasCount t (read + k)) size (count_more s t read (take n part) has more),
      (xs ++ take n part, reads_joined r s t xs (take n part) reads more),
      later.want ∙ is,
      some,
      leaves_joined x y z leaves (leaves_stays y z stays),
    )

-- ---- a piece of a range

pub piece_room : (p : Place) (s t : ReadingState) (more : List ℕ) (n : ℕ) → HasCount s p.read → p.read ≤ p.next → IsRange p → s.want ≡ p.digest → ReadsMore s t more → length more ≡ p.next - p.read → n ≤ p.stop - p.next → HasRoom t n
piece_room p s t more n has ahead range want reads len le = record {
  count = p.read + length more;
  has = count_more s t p.read more has reads;
  fits = omega (arith, range.from, range.within, ap (λ (d : HashAndSize). d.size) (reads.later.want ∙ want), len, le, ahead);
}

pub piece_given : (p : Place) (s t u : ReadingState) (more piece : List ℕ) → p.read ≤ p.next → IsRange p → ReadsMore s t more → length more ≡ p.next - p.read → ReadsMore t u piece → length piece ≡ min (p.stop - p.next) max_piece → GivesPiece p s u piece
piece_given p s t u more piece ahead range reads len then size = record {
  more = more ++ piece;
  reads = reads_joined s t u more piece reads then;
  all = omega (arith, length-append more piece, len, size, ahead, range.from);
  piece_is = sym (drop_at more piece (p.next - p.read) len);
}

-- the whole of a buffer
pub whole_buf : (n : ℕ) (buf rest : List ℕ) → length buf ≡ n → take n (buf ++ rest) ≡ buf
whole_buf n buf rest len = take-append-le n buf rest (omega (arith, len)) ∙ take_all n buf (omega (arith, len))
