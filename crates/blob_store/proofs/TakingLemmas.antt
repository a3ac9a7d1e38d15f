-- Pieces of a body that are taken one behind another.
use Rattle.std.proofs.Common.{◌≡◌, ◌+◌, ◌≤◌, ◌^◌, ℕ, List, length, take, drop, ◌++◌, Option, Some, None, IfSome, Result, Ok, Err, OnErr, sym, ap, subst, ◌∙◌, arith}
use Rattle.std.proofs.Math.Seq.{take-add}
use Rattle.std.proofs.lemmas.List.{length-append, length-take-le, take-append-le, take_all}
use Rattle.digest_types.specs.Name.{HashAndSize}
use Rattle.digest_types.specs.Digest.{digest_of}
use Rattle.digest_types.specs.Hasher.{Holds}
use Rattle.digest_types.specs.declared.hasher.Hasher.{Hasher}
use Rattle.blob_store.specs.Bodies.{ReadingState, Explains, limit_of}
use Rattle.blob_store.specs.declared.reading.ReadingEnd.TheVariants.{Damaged}
use Rattle.blob_store.specs.Taking.{IsPlace, TakesPiece, TakesPart}

-- the first bytes, and then those at their end
joined : (all read piece : List ℕ) (at n : ℕ) → read ≡ take at all → piece ≡ take n (drop at all) → length read ≡ at → length piece ≡ n → read ++ piece ≡ take (length (read ++ piece)) all
joined all read piece at n front next a b =
    let len : length (read ++ piece) ≡ at + n = omega (arith, length-append read piece) in
    rw len (ap (λ (x : List ℕ). x ++ piece) front ∙ ap (λ (x : List ℕ). take at all ++ x) next ∙ sym (take-add at n all))

-- the same of a body that tells its bytes or not
front_more : (told : Option (List ℕ)) (read piece : List ℕ) (at n : ℕ) → IfSome told (λ all. read ≡ take (length read) all) → IfSome told (λ all. piece ≡ take n (drop at all)) → length read ≡ at → length piece ≡ n → IfSome told (λ all. read ++ piece ≡ take (length (read ++ piece)) all)
front_more None read piece at n front next a b = tt
front_more (Some all) read piece at n front next a b = joined all read piece at n (front ∙ ap (λ (k : ℕ). take k all) a) next a b

-- what a read gives at the place is the next piece
pub takes_piece : (want : HashAndSize) (old new : Hasher) (told : Option (List ℕ)) (at n : ℕ) (buf : List ℕ) → IsPlace want old told at → n ≤ length buf → IfSome told (λ all. take n buf ≡ take n (drop at all)) → ((read : List ℕ) → Holds old read → Holds new (read ++ take n buf)) → TakesPiece old new told (take n buf)
takes_piece want old new told at n buf place bound next hash read taken =
    let a : length read ≡ at = sym taken.hash.len ∙ place.taken.hash.len ∙ place.len in
    record { hash = hash read taken.hash; front = front_more told read (take n buf) at n taken.front next a (length-take-le n buf bound) }

-- a piece that stands in front of the bytes is a part of them
takes_part : (old new : Hasher) (told : Option (List ℕ)) (n : ℕ) (front rest : List ℕ) → n ≤ length front → TakesPiece old new told (take n front) → TakesPart old new told (front ++ rest)
takes_part old new told n front rest bound takes =
    (n, omega (arith, length-append front rest), λ read taken. rw take-append-le (takes read taken))

-- where a call is refused, the piece that it took stands in front of its buffer
pub takes_part_err : {T E : Type 0} (r : Result T E) (old new : Hasher) (told : Option (List ℕ)) (n : ℕ) (front rest : List ℕ) → n ≤ length front → TakesPiece old new told (take n front) → OnErr r (TakesPart old new told (front ++ rest))
takes_part_err (Ok x) old new told n front rest bound takes = tt
takes_part_err (Err e) old new told n front rest bound takes = takes_part old new told n front rest bound takes

-- bytes that have the digest that is wanted are as many as it says
pub fits_by_digest : (want : HashAndSize) (hasher : Hasher) (told : Option (List ℕ)) (at : ℕ) → IsPlace want hasher told at → ((read : List ℕ) → Holds hasher read → digest_of read ≡ want) → at ≤ want.size
unfolding digest_of
fits_by_digest want hasher told at place same =
    let size : length place.read ≡ want.size = ap (λ (d : HashAndSize). d.size) (same place.read place.taken.hash) in
    omega (arith, place.len)

-- a body that tells bytes of the digest that is wanted isn't damaged
pub told_end_well : (reading : ReadingState) (bytes : List ℕ) (want got : HashAndSize) → reading.told ≡ Some bytes → digest_of bytes ≡ reading.want → reading.want.size ≤ 2 ^ 60 → Explains reading (Damaged want got) → ⊥
unfolding digest_of
told_end_well reading bytes want got told same size damage =
    let count : length bytes ≡ reading.want.size = ap (λ (d : HashAndSize). d.size) same in
    let whole : take (limit_of reading.want) bytes ≡ bytes = take_all (limit_of reading.want) bytes (omega arith) in
    let read : got ≡ digest_of (take (limit_of reading.want) bytes) = subst (λ (o : Option (List ℕ)). IfSome o (λ all. got ≡ digest_of (take (limit_of reading.want) all))) told damage.all in
    damage.other (read ∙ ap digest_of whole ∙ same ∙ sym damage.same)
