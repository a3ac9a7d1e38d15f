-- The bytes that were added to a blob, the copy that is kept of them, and the links that are read from it.
use Rattle.std.proofs.Common.{◌≡◌, ◌+◌, ℕ, nat_lt, Bool, true, false, length, List, ◌++◌, Option, Some, None, IfSome, refl, sym, ap, ◌∙◌, lt-ltb, ltb-true, arith}
use Rattle.std.specs.Prelude.{if◌then◌else◌}
use Rattle.std.proofs.lemmas.Bool.{cond-true}
use Rattle.std.proofs.lemmas.List.{length-append}
use Rattle.digest_types.specs.Hasher.{Holds, added_len}
use Rattle.directory_canon.specs.Canon.{max_len}
use Rattle.directory_canon.specs.Links.{links, edges_by}
use Rattle.directory_canon.specs.Reading.{canon_of}
use Rattle.blob_store.specs.Shelves.{appended}
use Rattle.blob_store.specs.Bodies.{Filled, HasAdded, AddsOn, copy_of, copied, held_in, held_of}

-- ---- the copy

-- whether bytes are too many for a Directory
abbrev is_long : List ℕ → Bool
is_long bytes = nat_lt max_len (length bytes)

longer : (bytes piece : List ℕ) → is_long bytes ≡ true → is_long (bytes ++ piece) ≡ true
longer bytes piece long = lt-ltb max_len (length (bytes ++ piece)) (omega (arith, ltb-true max_len (length bytes) long, length-append bytes piece))

copied_by : (long : Bool) (bytes piece : List ℕ) → (long ≡ true → is_long (bytes ++ piece) ≡ true) → copied (if long then None else Some bytes) piece ≡ copy_of (bytes ++ piece)
copied_by true bytes piece h = ap (λ (b : Bool). if b then None else Some (bytes ++ piece)) (sym (h refl))
copied_by false bytes piece h = refl

pub copied_more : (copy : Option (List ℕ)) (bytes piece : List ℕ) → copy ≡ copy_of bytes → copied copy piece ≡ copy_of (bytes ++ piece)
copied_more copy bytes piece is = ap (λ (c : Option (List ℕ)). copied c piece) is ∙ copied_by (is_long bytes) bytes piece (longer bytes piece)

held_by : (long : Bool) (bytes : List ℕ) → held_in (if long then None else Some bytes) ≡ (if long then 0 else length bytes)
held_by true bytes = refl
held_by false bytes = refl

-- how many bytes are held
pub held_copy : (copy : Option (List ℕ)) (bytes : List ℕ) → copy ≡ copy_of bytes → held_in copy ≡ held_of (length bytes)
held_copy copy bytes is = ap held_in is ∙ held_by (is_long bytes) bytes

-- ---- the links

none_by : (long : Bool) (bytes : List ℕ) → None ≡ (if long then None else Some bytes) → long ≡ true
none_by true bytes is = refl
none_by false bytes is = absurd cc

-- bytes without a copy are too many for a Directory
pub none_links : (bytes : List ℕ) → None ≡ copy_of bytes → None ≡ links bytes
unfolding links canon_of
none_links bytes is = sym (ap edges_by (cond-true (is_long bytes) _ _ (none_by (is_long bytes) bytes is)))

some_by : (long : Bool) (copy bytes : List ℕ) → Some copy ≡ (if long then None else Some bytes) → copy ≡ bytes
some_by true copy bytes is = absurd cc
some_by false copy bytes is = cc

-- a copy has the links of the bytes
pub some_links : (copy bytes : List ℕ) → Some copy ≡ copy_of bytes → links copy ≡ links bytes
some_links copy bytes is = ap links (some_by (is_long bytes) copy bytes is)

-- ---- one more piece

told_more : (told new : Option (List ℕ)) (bytes piece : List ℕ) → new ≡ appended told piece → IfSome told (λ all. all ≡ bytes) → IfSome new (λ all. all ≡ bytes ++ piece)
told_more None None bytes piece is h = tt
told_more None (Some all) bytes piece is h = absurd cc
told_more (Some before) None bytes piece is h = absurd cc
told_more (Some before) (Some all) bytes piece is h = cc

-- what the hasher, the draft and the copy took
pub adds_on : (old new : Filled) (piece : List ℕ) → ((bytes : List ℕ) → Holds old.hasher bytes → Holds new.hasher (bytes ++ piece)) → new.told ≡ appended old.told piece → new.copy ≡ copied old.copy piece → AddsOn old new piece
adds_on old new piece hash told copy bytes added = record {
  hash = hash bytes added.hash;
  told = told_more old.told new.told bytes piece told added.told;
  copy = copy ∙ copied_more old.copy bytes piece added.copy;
}

-- how many bytes were added
pub adds_size : (old new : Filled) (piece : List ℕ) → (bytes : List ℕ) × HasAdded old bytes → AddsOn old new piece → added_len new.hasher ≡ added_len old.hasher + length piece
adds_size old new piece some adds =
    let more = adds some.0 some.1 in
    omega (arith, some.1.hash.len, more.hash.len, length-append some.0 piece)
