-- The bytes of a body that was found, as they are read.
use Rattle.std.proofs.Common.{◌≡◌, ◌⊎◌, ◌+◌, ◌-◌, ◌<◌, ◌≤◌, ℕ, List, [], length, take, drop, ◌++◌, Option, Some, None, IfSome, refl, sym, ap, subst, ◌∙◌, arith, ⊎_elim}
use Rattle.std.proofs.Math.Seq.{take-add}
use Rattle.std.proofs.lemmas.List.{length-append, length-take-le, take_all}
use Rattle.digest_types.specs.Name.{HashAndSize}
use Rattle.digest_types.specs.Digest.{digest_of}
use Rattle.digest_types.specs.Hasher.{Holds}
use Rattle.digest_types.specs.declared.hasher.Hasher.{Hasher}
use Rattle.directory_canon.specs.declared.node.Edge.{Edge}
use Rattle.directory_canon.specs.Links.{links}
use Rattle.blob_store.specs.Bodies.{copied, copy_of}
use Rattle.blob_store.specs.Loading.{IsScan}
use Rattle.blob_store.proofs.FillingLemmas.{copied_more}

none_yet : (told : Option (List ℕ)) → IfSome told (λ all. [] ≡ take 0 all)
none_yet None = tt
none_yet (Some all) = refl

-- no bytes were read yet
pub scan_none : (hasher : Hasher) (told : Option (List ℕ)) → Holds hasher [] → IsScan hasher (Some []) 0 told
scan_none hasher told hash = record { bytes = []; hash = hash; copy_is = refl; len = refl; front = none_yet told }

front_more : (told : Option (List ℕ)) (read piece : List ℕ) (at n : ℕ) → IfSome told (λ all. read ≡ take at all) → IfSome told (λ all. piece ≡ take n (drop at all)) → IfSome told (λ all. read ++ piece ≡ take (at + n) all)
front_more None read piece at n front next = tt
front_more (Some all) read piece at n front next = (λ i. front i ++ next i) ∙ sym (take-add at n all)

-- one piece more was read
pub scan_more : (old new : Hasher) (copy copy_now : Option (List ℕ)) (size size_now n : ℕ) (told : Option (List ℕ)) (buf : List ℕ) → IsScan old copy size told → n ≤ length buf → IfSome told (λ all. take n buf ≡ take n (drop size all))
    → ((bytes : List ℕ) → Holds old bytes → Holds new (bytes ++ take n buf)) → copy_now ≡ copied copy (take n buf) → size_now ≡ size + length (take n buf) → IsScan new copy_now size_now told
scan_more old new copy copy_now size size_now n told buf scan bound next hash copy_is size_is =
    let count = length-take-le n buf bound in
    let sum : size_now ≡ size + n = omega (arith, size_is, count) in record {
      bytes = scan.bytes ++ take n buf;
      hash = hash scan.bytes scan.hash;
      copy_is = copy_is ∙ copied_more copy scan.bytes (take n buf) scan.copy_is;
      len = omega (arith, length-append scan.bytes (take n buf), scan.len, size_is);
      front = subst (λ (k : ℕ). IfSome told (λ all. scan.bytes ++ take n buf ≡ take k all)) (sym sum) (front_more told scan.bytes (take n buf) size n scan.front next);
    }

-- how many bytes the hasher has
pub scan_len : (hasher : Hasher) (copy : Option (List ℕ)) (size : ℕ) (told : Option (List ℕ)) → IsScan hasher copy size told → size ≡ hasher.size
scan_len hasher copy size told scan = sym (scan.hash.len ∙ scan.len)

-- there are more bytes than there is room for
pub scan_long : (told : Option (List ℕ)) (room size n : ℕ) → room - size < n → IfSome told (λ all. size + n ≤ length all ⊎ (n ≡ 0)) → IfSome told (λ all. room < length all)
scan_long None room size n many some = tt
scan_long (Some all) room size n many some = ⊎_elim (λ within. omega (arith, within, many)) (λ none. absurd (omega (arith, none, many))) some

-- the digest and the links are those of the body's bytes, where it tells them
pub scan_all : (hasher : Hasher) (copy : Option (List ℕ)) (size : ℕ) (told : Option (List ℕ)) (d : HashAndSize) (edges : Option (List Edge)) → IsScan hasher copy size told → IfSome told (λ all. length all ≤ size)
    → ((bytes : List ℕ) → Holds hasher bytes → d ≡ digest_of bytes) → ((bytes : List ℕ) → copy ≡ copy_of bytes → edges ≡ links bytes) → IfSome told (λ bytes. (d ≡ digest_of bytes) × (edges ≡ links bytes))
scan_all hasher copy size None d edges scan all digest links_are = tt
scan_all hasher copy size (Some bytes) d edges scan all digest links_are =
    let same : scan.bytes ≡ bytes = scan.front ∙ take_all size bytes all in
    (digest scan.bytes scan.hash ∙ ap digest_of same, links_are scan.bytes scan.copy_is ∙ ap links same)
