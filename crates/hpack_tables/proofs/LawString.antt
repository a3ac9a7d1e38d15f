-- String literals as a relation and as they are read.
use Rattle.std.proofs.Common.{◌≡◌, ℕ, suc, ◌+◌, ◌<◌, ◌≤◌, inl, inr, false, true, cond, ltb, Ok, Err, Option, Some, None, List, [], ◌∷◌, ◌++◌, length, take, drop, refl, sym, ap, subst, arith, ◌∙◌, append_assoc}
use Rattle.std.proofs.lemmas.Bool.{lt-ltb, le-ltb, ltb-true, ltb-false}
use Rattle.std.proofs.lemmas.List.{length-append, length-take-le, take-append-drop, take_at, drop_at}
use Rattle.proto_wire.proofs.Found.{IsBytes-behind}
use Rattle.proto_wire.proofs.Steps.{bind_ok, chosen, ok_is, passed}
use Rattle.proto_wire.specs.Reading.{IsBytes}
use Rattle.hpack_tables.specs.declared.offence.Offence.TheVariants as offences
use Rattle.hpack_tables.specs.Huffman.{IsHuffman, text_of}
use Rattle.hpack_tables.specs.Integer.{IsInt}
use Rattle.hpack_tables.specs.Block.{IsString}
use Rattle.hpack_tables.specs.Reading.{int_at, text_or_offence, is_coded, string_at}
use Rattle.hpack_tables.proofs.HuffmanLaws.{read as huffman_read, spelled as huffman_spelled}
use Rattle.hpack_tables.proofs.LawInt.{TakesInt, IsHigh, HasFirst, int_takes, int_again, int_first}

-- what stands behind a front of bytes is bytes
pub rest_bytes : (bytes front rest : List ℕ) → bytes ≡ front ++ rest → IsBytes bytes → IsBytes rest
rest_bytes bytes front rest parts fits = IsBytes-behind front rest (subst IsBytes parts fits)

text_ok : (o : Option (List ℕ)) (rest : List ℕ) (x : List ℕ × List ℕ) → text_or_offence o rest ≡ Ok x → (text : List ℕ) × (o ≡ Some text) × ((text, rest) ≡ x)
text_ok None rest x e = absurd cc
text_ok (Some text) rest x e = (text, refl, ok_is (text, rest) x e)

-- what reading a string took from the front
pub record TakesString (bytes text rest : List ℕ) : Type 0 where
  pub front : List ℕ
  pub parts : bytes ≡ front ++ rest
  pub is_string : IsString front text

-- the length, so many bytes, and the rest
parts_of : (bytes front after : List ℕ) (len : ℕ) → bytes ≡ front ++ after → bytes ≡ (front ++ take len after) ++ drop len after
parts_of bytes front after len e = e ∙ (ap (λ (x : List ℕ). front ++ x) (sym (take-append-drop len after)) ∙ sym (append_assoc front (take len after) (drop len after)))

takes_plain : (bytes after : List ℕ) (len : ℕ) → TakesInt 7 0 bytes len after → len ≤ length after → TakesString bytes (take len after) (drop len after)
takes_plain bytes after len i le =
    let is_int : IsInt 7 0 (length (take len after)) i.front = subst (λ (n : ℕ). IsInt 7 0 n i.front) (sym (length-take-le len after le)) i.is_int in
    record { front = i.front ++ take len after; parts = parts_of bytes i.front after len i.parts; is_string = inl (i.front, is_int, refl) }

takes_coded : (bytes after text : List ℕ) (len : ℕ) → TakesInt 7 128 bytes len after → len ≤ length after → text_of (take len after) ≡ Some text → TakesString bytes text (drop len after)
takes_coded bytes after text len i le e =
    let is_int : IsInt 7 128 (length (take len after)) i.front = subst (λ (n : ℕ). IsInt 7 128 n i.front) (sym (length-take-le len after le)) i.is_int in
    record {
      front = i.front ++ take len after;
      parts = parts_of bytes i.front after len i.parts;
      is_string = inr (i.front, take len after, is_int, refl, huffman_read (take len after) text e);
    }

pub string_takes : (bytes : List ℕ) (x : List ℕ × List ℕ) → IsBytes bytes → string_at bytes ≡ Ok x → TakesString bytes x.0 x.1
unfolding string_at int_at
string_takes [] x fits e = absurd cc
string_takes (b ∷ rest) x fits e =
    let h = bind_ok (int_at 7 (b ∷ rest))
    (λ len. cond (ltb (length len.1) len.0) (Err offences.Truncated) (cond (ltb 127 b) (text_or_offence (text_of (take len.0 len.1)) (drop len.0 len.1)) (Ok (take len.0 len.1, drop len.0 len.1)))) x e in
    let len = h.0.0 in
    let after = h.0.1 in
    let p = passed (ltb (length after) len) offences.Truncated (cond (ltb 127 b) (text_or_offence (text_of (take len after)) (drop len after)) (Ok (take len after, drop len after))) x h.2 in
    let le = ltb-false _ _ p.0 in
    elim (chosen (ltb 127 b) (text_or_offence (text_of (take len after)) (drop len after)) (Ok (take len after, drop len after)) (Ok x) p.1) [
      | inl q ↦
          let large = ltb-true _ _ q.0 in
          let byte : b < 256 = fits 0 in
          let i = int_takes 7 128 b rest h.0 (record { whole = omega arith; within = omega arith; few = omega arith }) (λ k. fits (suc k)) h.1 in
          let t = text_ok (text_of (take len after)) (drop len after) x q.1 in
          subst (λ (y : List ℕ × List ℕ). TakesString (b ∷ rest) y.0 y.1) t.2 (takes_coded (b ∷ rest) after t.0 len i le t.1)
      | inr q ↦
          let small = ltb-false _ _ q.0 in
          let i = int_takes 7 0 b rest h.0 (record { whole = omega arith; within = omega arith; few = omega arith }) (λ k. fits (suc k)) h.1 in
          subst (λ (y : List ℕ × List ℕ). TakesString (b ∷ rest) y.0 y.1) (ok_is (take len after, drop len after) x q.1) (takes_plain (b ∷ rest) after len i le)
    ]

high_7_0 : IsHigh 7 0
high_7_0 = record { low = λ v lt. omega arith; some = omega arith }

high_7_128 : IsHigh 7 128
high_7_128 = record { low = λ v lt. omega arith; some = omega arith }

plain_first : (bytes rest : List ℕ) → HasFirst 7 0 bytes → is_coded (bytes ++ rest) ≡ false
plain_first bytes rest h = rw h.first (le-ltb 127 (0 + h.low) (omega (arith, h.small)))

coded_first : (bytes rest : List ℕ) → HasFirst 7 128 bytes → is_coded (bytes ++ rest) ≡ true
coded_first bytes rest h = rw h.first (lt-ltb 127 (128 + h.low) (omega arith))

plain_again : (front text rest : List ℕ) → IsInt 7 0 (length text) front → string_at (front ++ (text ++ rest)) ≡ Ok (text, rest)
unfolding string_at
plain_again front text rest i =
    let long : ltb (length (text ++ rest)) (length text) ≡ false = le-ltb _ _ (omega (arith, length-append text rest)) in
    let read = int_again 7 0 (length text) front (text ++ rest) high_7_0 i in
    let plain = plain_first front (text ++ rest) (int_first 7 0 (length text) front i) in
    rw (read, long, plain, take_at text rest (length text) refl, drop_at text rest (length text) refl) refl

coded_again : (front coded text rest : List ℕ) → IsInt 7 128 (length coded) front → IsHuffman coded text → string_at (front ++ (coded ++ rest)) ≡ Ok (text, rest)
unfolding string_at
coded_again front coded text rest i h =
    let long : ltb (length (coded ++ rest)) (length coded) ≡ false = le-ltb _ _ (omega (arith, length-append coded rest)) in
    let read = int_again 7 128 (length coded) front (coded ++ rest) high_7_128 i in
    let is_coded = coded_first front (coded ++ rest) (int_first 7 128 (length coded) front i) in
    rw (read, long, is_coded, take_at coded rest (length coded) refl, drop_at coded rest (length coded) refl, huffman_spelled coded text h) refl

pub string_again : (bytes text rest : List ℕ) → IsString bytes text → string_at (bytes ++ rest) ≡ Ok (text, rest)
string_again bytes text rest (inl s) =
    let parts : bytes ++ rest ≡ s.0 ++ (text ++ rest) = ap (λ (x : List ℕ). x ++ rest) s.2 ∙ append_assoc s.0 text rest in
    rw parts (plain_again s.0 text rest s.1)
string_again bytes text rest (inr s) =
    let parts : bytes ++ rest ≡ s.0 ++ (s.1 ++ rest) = ap (λ (x : List ℕ). x ++ rest) s.3 ∙ append_assoc s.0 s.1 rest in
    rw parts (coded_again s.0 s.1 text rest s.2 s.4)
