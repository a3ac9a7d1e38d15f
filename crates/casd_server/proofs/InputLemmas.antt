-- Reading block by block, and looking for the first newline.
use Rattle.std.proofs.Common.{◌≡◌, ℕ, ◌+◌, ◌-◌, ◌^◌, ◌<◌, ◌≤◌, eqb, List, [], ◌∷◌, ◌++◌, length, take, drop, Option, Some, None, refl, sym, ap, subst, ◌∙◌, append_assoc, arith}
use Rattle.std.specs.Prelude.{position}
use Rattle.std.proofs.Math.Seq.{take-add}
use Rattle.std.proofs.lemmas.List.{append-nil, length-append, take-append-drop, take_all, length-drop, length-take, take_at, drop-drop}
use Rattle.casd_base.specs.Streams.{IsEnded}
use Rattle.casd_server.specs.Cut.{NoByte}
use Rattle.casd_server.specs.Record.{max_line}
use Rattle.casd_server.specs.Pending.{Pending}
use Rattle.casd_server.specs.Input.{ReadsBlock, LosesBlock, ReadsMore, LosesSome, IsSpent, Begins}
use Rattle.casd_server.specs.declared.input.Found.TheVariants as found
use Rattle.casd_server.proofs.CutLemmas.{position-none, position-some}
use Rattle.casd_server.proofs.Streams.{Takes-none, Takes-then}

-- no newline stands among the first bytes, and they are no more than a line has
pub record Searched (bytes : List ℕ) (searched : ℕ) : Type 0 where
  pub within : searched ≤ length bytes
  pub no : NoByte 10 (take searched bytes)
  pub few : searched ≤ max_line

pub Searched-none : (bytes : List ℕ) → Searched bytes 0
Searched-none bytes = record { within = omega arith; no = tt; few = omega arith }

pub NoByte-append : (c : ℕ) (a b : List ℕ) → NoByte c a → NoByte c b → NoByte c (a ++ b)
NoByte-append c [] b p q = q
NoByte-append c (x ∷ a) b p q = (p.0, NoByte-append c a b p.1 q)

pub ReadsMore-none : (a : Option (List ℕ)) (p : Pending) → ReadsMore a a p p
ReadsMore-none a p = record { more = []; takes = Takes-none a; bytes = sym (append-nil p.bytes); read = omega arith }

pub ReadsMore-block : (a b c : Option (List ℕ)) (p q r : Pending) (n : ℕ) → ReadsMore a b p q → ReadsBlock b c q r n → ReadsMore a c p r
ReadsMore-block a b c p q r n m k = record {
  more = m.more ++ k.bytes.block;
  takes = Takes-then a b c m.more k.bytes.block m.takes k.bytes.takes;
  bytes = k.bytes.whole ∙ ap (λ (x : List ℕ). x ++ k.bytes.block) m.bytes ∙ append_assoc p.bytes m.more k.bytes.block;
  read = omega (arith, m.read, k.read, k.bytes.len, length-append m.more k.bytes.block);
}

pub LosesSome-block : (a b c : Option (List ℕ)) (p q r : Pending) → ReadsMore a b p q → LosesBlock b c q r → LosesSome a c p r
LosesSome-block a b c p q r m k = record {
  kept = m.more;
  lost = k.loses.lost;
  takes = Takes-then a b c m.more k.loses.lost m.takes k.loses.takes;
  bytes = k.bytes ∙ m.bytes;
  read = k.read ∙ m.read;
  few = omega (arith, k.loses.few, k.bounded, k.read);
}

pub IsSpent-same : (a b c : Option (List ℕ)) (p q r : Pending) → ReadsMore a b p q → (c ≡ b) × (r ≡ q) × (r.read ≡ 2 ^ 50) → IsSpent a c p r
IsSpent-same a b c p q r m same = record {
  reads = subst (λ (o : Option (List ℕ)). ReadsMore a o p r) (sym same.0) (subst (λ (x : Pending). ReadsMore a b p x) (sym same.1) m);
  full = same.2;
}

-- the bytes that were not searched yet
rest-is : (bytes : List ℕ) (i : ℕ) → take (length bytes - i) (drop i bytes) ≡ drop i bytes
rest-is bytes i = take_all (length bytes - i) (drop i bytes) (omega (arith, length-drop i bytes))

-- where the rest has no newline, none of the bytes is one
pub no_newline : (bytes : List ℕ) (i : ℕ) → Searched bytes i → position (λ b. eqb b 10) (take (length bytes - i) (drop i bytes)) ≡ None → NoByte 10 bytes
no_newline bytes i s e =
    let rest : NoByte 10 (drop i bytes) = position-none 10 (drop i bytes) (subst (λ (xs : List ℕ). position (λ b. eqb b 10) xs ≡ None) (rest-is bytes i) e) in
    subst (NoByte 10) (take-append-drop i bytes) (NoByte-append 10 (take i bytes) (drop i bytes) s.no rest)

-- where it has one, that is the first
pub record FirstNewline (bytes : List ℕ) (len : ℕ) : Type 0 where
  pub no : NoByte 10 (take len bytes)
  pub whole : bytes ≡ take len bytes ++ (10 ∷ drop (len + 1) bytes)
  pub within : len < length bytes

pub first_newline : (bytes : List ℕ) (i k : ℕ) → Searched bytes i → position (λ b. eqb b 10) (take (length bytes - i) (drop i bytes)) ≡ Some k → FirstNewline bytes (i + k)
first_newline bytes i k s e =
    let at = position-some 10 (drop i bytes) k (subst (λ (xs : List ℕ). position (λ b. eqb b 10) xs ≡ Some k) (rest-is bytes i) e) in
    let front : take (i + k) bytes ≡ take i bytes ++ take k (drop i bytes) = take-add i k bytes in
    let behind : drop (i + (k + 1)) bytes ≡ drop (k + 1) (drop i bytes) = sym (drop-drop (k + 1) i bytes) in
    let n : i + k + 1 ≡ i + (k + 1) = omega arith in
    let whole : bytes ≡ take (i + k) bytes ++ (10 ∷ drop (i + k + 1) bytes) =
    sym (take-append-drop i bytes) ∙ ap (λ (xs : List ℕ). take i bytes ++ xs) at.1
    ∙ sym (append_assoc (take i bytes) (take k (drop i bytes)) (10 ∷ drop (k + 1) (drop i bytes)))
    ∙ ap (λ (xs : List ℕ). xs ++ (10 ∷ drop (k + 1) (drop i bytes))) (sym front)
    ∙ ap (λ (xs : List ℕ). take (i + k) bytes ++ (10 ∷ xs)) (sym behind ∙ ap (λ (j : ℕ). drop j bytes) (sym n)) in
    record {
      no = subst (NoByte 10) (sym front) (NoByte-append 10 (take i bytes) (take k (drop i bytes)) s.no at.0);
      whole = whole;
      within = within-of bytes (i + k) whole;
    }
  where
    within-of : (bytes : List ℕ) (len : ℕ) → bytes ≡ take len bytes ++ (10 ∷ drop (len + 1) bytes) → len < length bytes
    within-of bytes len whole = omega (arith, ap (λ (xs : List ℕ). length xs) whole, length-append (take len bytes) (10 ∷ drop (len + 1) bytes), length-take len bytes, length-drop (len + 1) bytes)

-- a line at the front
pub begins-line : (bytes : List ℕ) (left : Option (List ℕ)) (len : ℕ) → FirstNewline bytes len → len ≤ max_line → Begins (found.Line len) bytes left
begins-line bytes left len f few = (few, (take len bytes, (drop (len + 1) bytes, f.whole, f.no, omega (arith, length-take len bytes, f.within))))

-- too many bytes in front of the first newline
pub begins-long : (bytes : List ℕ) (left : Option (List ℕ)) (len : ℕ) → FirstNewline bytes len → max_line < len → Begins found.TooLong bytes left
begins-long bytes left len f many = (take len bytes, (drop len bytes, sym (take-append-drop len bytes), f.no, omega (arith, length-take len bytes, f.within)))

-- too many bytes without a newline
pub begins-all_long : (bytes : List ℕ) (left : Option (List ℕ)) → NoByte 10 bytes → max_line < length bytes → Begins found.TooLong bytes left
begins-all_long bytes left clear many = (bytes, ([], sym (append-nil bytes), clear, many))

-- the source has ended
pub begins-end : (before after : Option (List ℕ)) (p q : Pending) (n : ℕ) → NoByte 10 p.bytes → length p.bytes ≤ max_line → ReadsBlock before after p q n → n ≡ 0 → IsEnded after → Begins found.End q.bytes after
begins-end before after p q n clear few r none ended =
    let empty : r.bytes.block ≡ [] = nil-of r.bytes.block (omega (arith, r.bytes.len, none)) in
    let same : q.bytes ≡ p.bytes = r.bytes.whole ∙ ap (λ (xs : List ℕ). p.bytes ++ xs) empty ∙ append-nil p.bytes in
    (subst (NoByte 10) (sym same) clear, omega (arith, ap (λ (xs : List ℕ). length xs) same, few), ended)
  where
    nil-of : (xs : List ℕ) → length xs ≡ 0 → xs ≡ []
    nil-of [] e = refl
    nil-of (x ∷ xs) e = absurd (omega arith)

-- all of what was pending was searched, and a block came behind it
pub Searched-more : (before after : Option (List ℕ)) (p q : Pending) (n : ℕ) → NoByte 10 p.bytes → length p.bytes ≤ max_line → ReadsBlock before after p q n → Searched q.bytes (length p.bytes)
Searched-more before after p q n clear few r =
    let front : take (length p.bytes) q.bytes ≡ p.bytes = ap (λ (xs : List ℕ). take (length p.bytes) xs) r.bytes.whole ∙ take-front p.bytes r.bytes.block in
    record {
      within = omega (arith, ap (λ (xs : List ℕ). length xs) r.bytes.whole, length-append p.bytes r.bytes.block);
      no = subst (NoByte 10) (sym front) clear;
      few = few;
    }
  where
    take-front : (a b : List ℕ) → take (length a) (a ++ b) ≡ a
    take-front a b = take_at a b (length a) refl
