-- The text of a digest: what is printed is parsed, and what is parsed was printed so.
use Rattle.std.proofs.Common.{◌≡◌, ℕ, suc, ◌+◌, ◌<◌, Bool, true, false, not, cond, Bor, take, drop, eqb, List, [], ◌∷◌, ◌++◌, length, Option, Some, None, Ok, refl, sym, ap, subst, ◌∙◌, arith}
use Rattle.std.specs.Prelude.{MatchOption}
use Rattle.std.specs.Fmt.{decimal}
use Rattle.std.specs.List.{list_all, position_or_len, before_first, after_first}
use Rattle.std.proofs.lemmas.Bool.{and_parts, eqb-true, ne_eqb}
use Rattle.std.proofs.lemmas.List.{take_all}
use Rattle.std.proofs.lemmas.Str.Pattern.{IsSplitOnceResult, split_once_first}
use Rattle.hex.specs.Hex.{encode_lower}
use Rattle.digest_types.specs.Name.{HashAndSize}
use Rattle.digest_types.specs.Hex.{is_lower_digit}
use Rattle.digest_types.specs.Digest.{IsDigest, printed}
use Rattle.digest_types.specs.Reading.{hash_of}
use Rattle.digest_types.specs.Parsing.{before_slash, after_slash, size_of, sized, size_in, hashed, parsed}
use Rattle.digest_types.proofs.HexText.{encode_lower-digits, hash_found}
use Rattle.digest_types.proofs.Written.{hash_again}
use Rattle.digest_types.proofs.Decimals.{size_of-decimal, size_of-found}

-- ---- the first slash

no_slash : (c : ℕ) → is_lower_digit c ≡ true → eqb c 47 ≡ false
no_slash c lower = ne_eqb c 47 (λ e. grind arith)

before-again : (hash rest : List ℕ) → list_all is_lower_digit hash ≡ true → before_slash (hash ++ (47 ∷ rest)) ≡ hash
before-again [] rest lower = refl
before-again (c ∷ cs) rest lower =
    let parts = and_parts (is_lower_digit c) (list_all is_lower_digit cs) lower in
    rw (no_slash c parts.0) (ap (λ (x : List ℕ). c ∷ x) (before-again cs rest parts.1))

after-again : (hash rest : List ℕ) → list_all is_lower_digit hash ≡ true → after_slash (hash ++ (47 ∷ rest)) ≡ Some rest
after-again [] rest lower = refl
after-again (c ∷ cs) rest lower =
    let parts = and_parts (is_lower_digit c) (list_all is_lower_digit cs) lower in
    rw (no_slash c parts.0) (after-again cs rest parts.1)

slash_here : (c : ℕ) (cs rest : List ℕ) (b : Bool) → eqb c 47 ≡ b → (after_slash cs ≡ Some rest → before_slash cs ++ (47 ∷ rest) ≡ cs) → cond b (Some cs) (after_slash cs) ≡ Some rest → cond b [] (c ∷ before_slash cs) ++ (47 ∷ rest) ≡ c ∷ cs
slash_here c cs rest true e later h =
    let first : c ≡ 47 = eqb-true c 47 e in
    let same : cs ≡ rest = cc in
    cc
slash_here c cs rest false e later h = ap (λ (x : List ℕ). c ∷ x) (later h)

slash-found : (text rest : List ℕ) → after_slash text ≡ Some rest → before_slash text ++ (47 ∷ rest) ≡ text
slash-found [] rest e = absurd cc
slash-found (c ∷ cs) rest e = slash_here c cs rest (eqb c 47) refl (slash-found cs rest) e

-- the same as `split_once` cuts there
cut_here : (c : ℕ) (cs : List ℕ) (k : ℕ) (b : Bool) → before_slash cs ≡ take k cs → cond b [] (c ∷ before_slash cs) ≡ take (cond (not b) (1 + k) 0) (c ∷ cs)
cut_here c cs k true later = refl
cut_here c cs k false later = let s : 1 + k ≡ suc k = omega arith in rw (s, later) refl

before-cut : (text : List ℕ) → before_slash text ≡ before_first (λ b. eqb b 47) text
before-cut [] = refl
before-cut (c ∷ cs) = cut_here c cs (position_or_len (λ b. eqb b 47) cs) (eqb c 47) (before-cut cs)

cut_after : (c : ℕ) (cs : List ℕ) (k : ℕ) (b : Bool) → (k < length cs → after_slash cs ≡ Some (drop (k + 1) cs)) → cond (not b) (1 + k) 0 < 1 + length cs → cond b (Some cs) (after_slash cs) ≡ Some (drop (cond (not b) (1 + k) 0 + 1) (c ∷ cs))
cut_after c cs k true later lt = refl
cut_after c cs k false later lt = let s : 1 + k + 1 ≡ suc (k + 1) = omega arith in rw s (later (omega arith))

after-cut : (text : List ℕ) → position_or_len (λ b. eqb b 47) text < length text → after_slash text ≡ Some (after_first (λ b. eqb b 47) text)
after-cut [] lt = absurd (omega arith)
after-cut (c ∷ cs) lt = cut_after c cs (position_or_len (λ b. eqb b 47) cs) (eqb c 47) (after-cut cs) (omega arith)

none_here : (cs : List ℕ) (k : ℕ) (b : Bool) → (k ≡ length cs → after_slash cs ≡ None) → cond (not b) (1 + k) 0 ≡ 1 + length cs → cond b (Some cs) (after_slash cs) ≡ None
none_here cs k true later e = absurd (omega arith)
none_here cs k false later e = later (omega arith)

no_cut : (text : List ℕ) → position_or_len (λ b. eqb b 47) text ≡ length text → after_slash text ≡ None
no_cut [] e = refl
no_cut (c ∷ cs) e = none_here cs (position_or_len (λ b. eqb b 47) cs) (eqb c 47) (no_cut cs) (omega arith)

pub split_slash : (text : List ℕ) (r : Option (Bor (List ℕ) × Bor (List ℕ))) → IsSplitOnceResult 47 text r → MatchOption r ((before_slash text ≡ text) × (after_slash text ≡ None)) (λ x. (x.0.now ≡ before_slash text) × (after_slash text ≡ Some x.1.now))
split_slash text (Some x) h =
    let f = split_once_first 47 text (Some x) h (omega arith) in
    (f.1 ∙ sym (before-cut text), after-cut text f.0 ∙ ap (λ (t : List ℕ). Some t) (sym f.2))
split_slash text None h =
    let f = split_once_first 47 text None h (omega arith) in
    (before-cut text ∙ ap (λ (k : ℕ). take k text) f ∙ take_all (length text) text (omega arith), no_cut text f)

-- ---- what is printed is parsed

pub printed-parsed : (d : HashAndSize) → IsDigest d → parsed (printed d) ≡ Ok d
unfolding parsed
printed-parsed d is =
    let lower = encode_lower-digits d.hash is.bytes in
    ap (λ (x : List ℕ). hashed (hash_of x) (printed d)) (before-again (encode_lower d.hash) (decimal d.size) lower)
    ∙ ap (λ (o : Option (List ℕ)). hashed o (printed d)) (hash_again d is)
    ∙ ap (λ (o : Option (List ℕ)). sized d.hash (size_in o)) (after-again (encode_lower d.hash) (decimal d.size) lower)
    ∙ ap (sized d.hash) (size_of-decimal d.size is.size)

-- ---- what is parsed was printed so

sized_is : (hash : List ℕ) (o : Option ℕ) (d : HashAndSize) → sized hash o ≡ Ok d → (size : ℕ) × (o ≡ Some size) × (d ≡ record { hash = hash; size = size })
sized_is hash (Some size) d e = (size, refl, cc)
sized_is hash None d e = absurd cc

hashed_is : (o : Option (List ℕ)) (text : List ℕ) (d : HashAndSize) → hashed o text ≡ Ok d → (hash : List ℕ) × (o ≡ Some hash) × (sized hash (size_in (after_slash text)) ≡ Ok d)
hashed_is (Some hash) text d e = (hash, refl, e)
hashed_is None text d e = absurd cc

size_in_is : (o : Option (List ℕ)) (size : ℕ) → size_in o ≡ Some size → (rest : List ℕ) × (o ≡ Some rest) × (size_of rest ≡ Some size)
size_in_is (Some rest) size e = (rest, refl, e)
size_in_is None size e = absurd cc

pub parsed-found : (text : List ℕ) (d : HashAndSize) → parsed text ≡ Ok d → IsDigest d × (printed d ≡ text)
unfolding parsed
parsed-found text d e =
    let h = hashed_is (hash_of (before_slash text)) text d e in
    let hash = hash_found (before_slash text) h.0 h.1 in
    let s = sized_is h.0 (size_in (after_slash text)) d h.2 in
    let r = size_in_is (after_slash text) s.0 s.1 in
    let size = size_of-found r.0 s.0 r.2 in
    let made : HashAndSize = record { hash = h.0; size = s.0 } in
    let is : IsDigest made = record { len = hash.len; bytes = hash.bytes; size = size.0 } in
    let text_is : printed made ≡ text = rw (hash.text_is, size.1) (slash-found text r.0 r.1) in
    subst (λ (x : HashAndSize). IsDigest x × (printed x ≡ text)) (sym s.2) (is, text_is)
