-- A string has the one text by whose codes and a padding it is spelled, and a text has one string.
use Rattle.std.proofs.Common.{◌≡◌, ℕ, zero, suc, ◌*◌, ◌<◌, Bool, true, false, cond, List, [], ◌∷◌, ◌++◌, length, replicate, Option, Some, None, inl, inr, refl, sym, ◌∙◌, ap, arith, append_assoc, append-nil, length-append}
use Rattle.std.specs.Prelude.{flat_map, ◌==◌, nat_lt}
use Rattle.std.specs.List.{list_all}
use Rattle.std.proofs.lemmas.Bool.{and_parts, ltb-true, cases_Bool, eqb-false, ne_eqb}
use Rattle.std.proofs.lemmas.List.{length-replicate}
use Rattle.hpack_tables.specs.Huffman.{Code, IsHuffman, all_codes, code_bits, code_of, code_with, same_bits, number_bits, bits_of, text_behind, text_of, behind_code, before_text, by_code, is_padding}
use Rattle.proto_wire.specs.Reading.{IsBytes}
use Rattle.hpack_tables.proofs.HuffmanBits.{value, length-number_bits, value-number_bits, same_bits-true}
use Rattle.hpack_tables.proofs.HuffmanCode.{IsIn, Found, some, IsCode, is_code, prefix, code_with-Found, code_with-code_bits, code_for}
use Rattle.hpack_tables.proofs.HuffmanText.{text_of-begin}

-- bits that spell a text
record Spells (bits : List Bool) (text : List ℕ) : Type 0 where
  ones : ℕ
  few : ones < 8
  symbols : IsBytes text
  spelled : bits ≡ flat_map code_of text ++ replicate ones true

pub all_true : (bits : List Bool) → list_all (λ bit. bit) bits ≡ true → bits ≡ replicate (length bits) true
all_true [] h = refl
all_true (true ∷ bits) h = ap (λ more. true ∷ more) (all_true bits h)
all_true (false ∷ bits) h = cc

read_end : (taken : List Bool) (text : List ℕ) → cond (is_padding taken) (Some []) None ≡ Some text → Spells (taken ++ []) text
read_end taken text h = elim (cases_Bool (is_padding taken)) [
  | inl t ↦
      (let e : ◌≡◌ {A = Option (List ℕ)} (Some []) (Some text) = rw t at h in
      let nil : [] ≡ text = cc in
      let p = and_parts (nat_lt (length taken) 8) (list_all (λ bit. bit) taken) t in
      rw (← nil, append-nil taken) (record { ones = length taken; few = ltb-true (length taken) 8 p.0; symbols = λ i. omega arith; spelled = all_true taken p.1 }))
  | inr f ↦ (let e : ◌≡◌ {A = Option (List ℕ)} None (Some text) = rw f at h in cc)
]

bytes_cons : (b : ℕ) (bytes : List ℕ) → b < 256 → IsBytes bytes → IsBytes (b ∷ bytes)
bytes_cons b bytes is more zero = is
bytes_cons b bytes is more (suc i) = more i

-- a code before what spells a text
spells_code : (c : Code) (bits : List Bool) (text : List ℕ) → IsCode c → (c.symbol ≡ 256 → ⊥) → Spells bits text → Spells (code_bits c ++ bits) (c.symbol ∷ text)
spells_code c bits text is ne s = record {
  ones = s.ones;
  few = s.few;
  symbols = bytes_cons c.symbol text (omega (arith, is.symbol)) s.symbols;
  spelled =
      ap (λ more. code_bits c ++ more) s.spelled
      ∙ sym (append_assoc (code_bits c) (flat_map code_of text) (replicate s.ones true))
      ∙ ap (λ front. (front ++ flat_map code_of text) ++ replicate s.ones true) (sym is.unique);
}

read_before : (c : Code) (bits : List Bool) (next : Option (List ℕ)) (text : List ℕ) → IsCode c → (c.symbol ≡ 256 → ⊥) → before_text c.symbol next ≡ Some text →
    ((t : List ℕ) → next ≡ Some t → Spells bits t) → Spells (code_bits c ++ bits) text
read_before c bits None text is ne e f = cc
read_before c bits (Some t) text is ne e f =
    let same : c.symbol ∷ t ≡ text = cc in
    rw (← same) (spells_code c bits t is ne (f t refl))

read_code : (c : Code) (bits : List Bool) (next : Option (List ℕ)) (text : List ℕ) → IsCode c → behind_code c next ≡ Some text →
    ((t : List ℕ) → next ≡ Some t → Spells bits t) → Spells (code_bits c ++ bits) text
read_code c bits next text is h f = elim (cases_Bool (c.symbol == 256)) [
  | inl t ↦ (let e : ◌≡◌ {A = Option (List ℕ)} None (Some text) = rw t at h in cc)
  | inr n ↦ (let e : before_text c.symbol next ≡ Some text = rw n at h in read_before c bits next text is (eqb-false c.symbol 256 n) e f)
]

read_step : (o : Option Code) (taken bits : List Bool) (more next : Option (List ℕ)) (text : List ℕ) →
    Found (λ code. same_bits (code_bits code) taken) all_codes o → by_code o more next ≡ Some text →
    (more ≡ Some text → Spells (taken ++ bits) text) → ((t : List ℕ) → next ≡ Some t → Spells bits t) → Spells (taken ++ bits) text
read_step None taken bits more next text f h m n = m h
read_step (Some c) taken bits more next text (some i t) h m n =
    rw (← same_bits-true (code_bits c) taken t) (read_code c bits next text (is_code c i) h n)

read_behind : (bits taken : List Bool) (text : List ℕ) → text_behind taken bits ≡ Some text → Spells (taken ++ bits) text
unfolding text_behind
read_behind [] taken text h = read_end taken text h
read_behind (bit ∷ bits) taken text h =
    rw (append_assoc taken (bit ∷ []) bits) at
    (read_step (code_with (taken ++ bit ∷ [])) (taken ++ bit ∷ []) bits (text_behind (taken ++ bit ∷ []) bits) (text_behind [] bits) text
    (code_with-Found (taken ++ bit ∷ [])) h (read_behind bits (taken ++ bit ∷ []) text) (read_behind bits []))

pub read : (bytes text : List ℕ) → text_of bytes ≡ Some text → IsHuffman bytes text
read bytes text h =
    let s = read_behind (bits_of bytes) [] text (sym (text_of-begin bytes) ∙ h) in
    record { ones = s.ones; few = s.few; symbols = s.symbols; bits = s.spelled }

-- ---- spelled

module _ (c : Code) (i : IsIn c all_codes) (rest : List Bool) where
  not_yet : (taken more : List Bool) (o : Option Code) → taken ++ more ≡ code_bits c → 0 < length more → Found (λ code. same_bits (code_bits code) taken) all_codes o → o ≡ None
  not_yet taken more None e l f = refl
  not_yet taken more (Some d) e l (some j t) =
      let same = same_bits-true (code_bits d) taken t in
      let begins : code_bits c ≡ code_bits d ++ more = sym e ∙ ap (λ front. front ++ more) (sym same) in
      let one = prefix d c more j i begins in
      absurd (omega (arith, ap length begins, length-append (code_bits d) more, ap (λ code. length (code_bits code)) one))

  text_code_from : (bits taken : List Bool) → taken ++ bits ≡ code_bits c → 0 < length bits → text_behind taken (bits ++ rest) ≡ behind_code c (text_behind [] rest)
  unfolding text_behind
  text_code_from [] taken e l = absurd (omega arith)
  text_code_from (b ∷ []) taken e l = rw (e, code_with-code_bits c i) refl
  text_code_from (b ∷ (b' ∷ bits)) taken e l =
      let e' : (taken ++ b ∷ []) ++ (b' ∷ bits) ≡ code_bits c = append_assoc taken (b ∷ []) (b' ∷ bits) ∙ e in
      let no = not_yet (taken ++ b ∷ []) (b' ∷ bits) (code_with (taken ++ b ∷ [])) e' (omega arith) (code_with-Found (taken ++ b ∷ [])) in
      rw no (text_code_from (b' ∷ bits) (taken ++ b ∷ []) e' (omega arith))

  pub text_code : text_behind [] (code_bits c ++ rest) ≡ behind_code c (text_behind [] rest)
  text_code = text_code_from (code_bits c) [] refl (omega (arith, length-number_bits c.len c.number, (is_code c i).some))

pub text_padding : (ones : ℕ) → ones < 8 → text_behind [] (replicate ones true) ≡ Some []
unfolding text_behind code_with all_codes
text_padding zero h = refl
text_padding (suc zero) h = refl
text_padding (suc (suc zero)) h = refl
text_padding (suc (suc (suc zero))) h = refl
text_padding (suc (suc (suc (suc zero)))) h = refl
text_padding (suc (suc (suc (suc (suc zero))))) h = refl
text_padding (suc (suc (suc (suc (suc (suc zero)))))) h = refl
text_padding (suc (suc (suc (suc (suc (suc (suc zero))))))) h = refl
text_padding (suc (suc (suc (suc (suc (suc (suc (suc n)))))))) h = absurd (omega arith)

text_symbol : (s : ℕ) (rest : List Bool) (text : List ℕ) → s < 256 → text_behind [] rest ≡ Some text → text_behind [] (code_of s ++ rest) ≡ Some (s ∷ text)
text_symbol s rest text l h =
    let found = code_for s (omega arith) in
    let c = found.0 in
    let is = is_code c found.1 in
    let of : code_of s ≡ code_bits c = rw found.2 at is.unique in
    let no : c.symbol == 256 ≡ false = ne_eqb c.symbol 256 (λ e. omega (arith, found.2, l)) in
    rw of (text_code c found.1 rest ∙ rw (no, h, found.2) refl)

text_spelled : (text : List ℕ) (ones : ℕ) → IsBytes text → ones < 8 → text_behind [] (flat_map code_of text ++ replicate ones true) ≡ Some text
text_spelled [] ones a h = text_padding ones h
text_spelled (s ∷ text) ones a h =
    rw (append_assoc (code_of s) (flat_map code_of text) (replicate ones true))
    (text_symbol s (flat_map code_of text ++ replicate ones true) text (a 0) (text_spelled text ones (λ i. a (suc i)) h))

pub spelled : (bytes text : List ℕ) → IsHuffman bytes text → text_of bytes ≡ Some text
spelled bytes text h = text_of-begin bytes ∙ ap (text_behind []) h.bits ∙ text_spelled text h.ones h.symbols h.few

-- ---- one string

append_parts : (xs ys more rest : List Bool) → length xs ≡ length ys → xs ++ more ≡ ys ++ rest → (xs ≡ ys) × (more ≡ rest)
append_parts [] [] more rest l e = (refl, e)
append_parts [] (y ∷ ys) more rest l e = absurd (omega arith)
append_parts (x ∷ xs) [] more rest l e = absurd (omega arith)
append_parts (x ∷ xs) (y ∷ ys) more rest l e =
    let p = append_parts xs ys more rest (omega arith) cc in
    (cc, p.1)

length-bits_of : (bytes : List ℕ) → length (bits_of bytes) ≡ 8 * length bytes
length-bits_of [] = refl
length-bits_of (b ∷ bytes) = omega (arith, length-append (number_bits 8 b) (bits_of bytes), length-number_bits 8 b, length-bits_of bytes)

same_byte : (a b : ℕ) → a < 256 → b < 256 → number_bits 8 a ≡ number_bits 8 b → a ≡ b
same_byte a b h k e =
    let v = ap value e in
    omega (arith, value-number_bits 8 a, value-number_bits 8 b, v)

same_bytes : (a b : List ℕ) → IsBytes a → IsBytes b → bits_of a ≡ bits_of b → a ≡ b
same_bytes [] [] h k e = refl
same_bytes [] (y ∷ b) h k e = absurd (omega (arith, ap length e, length-bits_of (y ∷ b)))
same_bytes (x ∷ a) [] h k e = absurd (omega (arith, ap length e, length-bits_of (x ∷ a)))
same_bytes (x ∷ a) (y ∷ b) h k e =
    let p = append_parts (number_bits 8 x) (number_bits 8 y) (bits_of a) (bits_of b) (length-number_bits 8 x ∙ sym (length-number_bits 8 y)) e in
    let q = same_byte x y (h 0) (k 0) p.0 in
    let r = same_bytes a b (λ i. h (suc i)) (λ i. k (suc i)) p.1 in
    cc

pub one : (a b text : List ℕ) → IsBytes a → IsBytes b → IsHuffman a text → IsHuffman b text → a ≡ b
one a b text h k p q =
    let m : p.ones ≡ q.ones = omega (
      arith,
      p.few,
      q.few,
      ap length p.bits,
      ap length q.bits,
      length-bits_of a,
      length-bits_of b,
      length-append (flat_map code_of text) (replicate p.ones true),
      length-append (flat_map code_of text) (replicate q.ones true),
      length-replicate p.ones true,
      length-replicate q.ones true,
    ) in
    same_bytes a b h k (p.bits ∙ ap (λ n. flat_map code_of text ++ replicate n true) m ∙ sym q.bits)
