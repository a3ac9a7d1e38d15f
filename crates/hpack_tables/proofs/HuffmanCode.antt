-- The code: what holds of all its codes, and that none begins with another.
use Rattle.std.proofs.Common.{◌≡◌, ℕ, zero, suc, ◌+◌, ◌-◌, ◌*◌, ◌^◌, ◌<◌, ◌≤◌, Bool, true, false, List, [], ◌∷◌, ◌++◌, length, get_or, Option, Some, None, ◌⊎◌, inl, inr, refl, sym, ◌∙◌, ap, subst, arith, length-append, append-nil}
use Rattle.std.specs.Prelude.{◌==◌, ◌&&◌, nat_lt, find, Contains, sum_by, is_some}
use Rattle.std.specs.List.{list_all}
use Rattle.std.proofs.lemmas.Bool.{false≢true, and_parts, ltb-true, eqb-true, cases_Bool, cases_lt}
use Rattle.std.proofs.lemmas.Nat.{pow_pos, pow-add}
use Rattle.std.proofs.Math.Nat.{mul-le-mul_right, mod-eq_of_lt}
use Rattle.hpack_tables.specs.Huffman.{Code, all_codes, code_bits, code_of, code_with, same_bits}
use Rattle.hpack_tables.proofs.HuffmanBits.{value, value-lt, value-append, length-number_bits, value-number_bits, same_bits-true, same_bits-refl}

-- ---- elements

abbrev pub IsIn : {A : Type 0} → A → List A → Type 0
IsIn x [] = ⊥
IsIn x (y ∷ ys) = (x ≡ y) ⊎ IsIn x ys

pub is_in-at : {A : Type 0} (xs : List A) (k : ℕ) (d : A) → k < length xs → IsIn (get_or xs k d) xs
is_in-at [] k d h = absurd (omega arith)
is_in-at (x ∷ xs) zero d h = inl refl
is_in-at (x ∷ xs) (suc k) d h = inr (is_in-at xs k d (omega arith))

pub is_in-from_Contains : {A : Type 0} (xs : List A) (x : A) → Contains xs x → IsIn x xs
is_in-from_Contains xs x c = subst (λ y. IsIn y xs) c.2 (is_in-at xs c.0 x c.1)

pub contains-from_is_in : {A : Type 0} (xs : List A) (x : A) → IsIn x xs → Contains xs x
contains-from_is_in [] x i = absurd i
contains-from_is_in (y ∷ ys) x (inl e) = (0, omega arith, sym e)
contains-from_is_in (y ∷ ys) x (inr i) =
    let c = contains-from_is_in ys x i in
    (suc c.0, omega (arith, c.1), c.2)

pub all_in : {A : Type 0} (p : A → Bool) (xs : List A) (x : A) → list_all p xs ≡ true → IsIn x xs → p x ≡ true
all_in p [] x h i = absurd i
all_in p (y ∷ ys) x h (inl e) = ap p e ∙ (and_parts (p y) (list_all p ys) h).0
all_in p (y ∷ ys) x h (inr i) = all_in p ys x (and_parts (p y) (list_all p ys) h).1 i

-- what find gives
pub data Found {A : Type 0} (p : A → Bool) (xs : List A) : Option A → Type 0 where
  none : ((x : A) → IsIn x xs → p x ≡ false) → Found p xs None
  some : {x : A} → IsIn x xs → p x ≡ true → Found p xs (Some x)

found-cons : {A : Type 0} (p : A → Bool) (y : A) (ys : List A) (o : Option A) → p y ≡ false → Found p ys o → Found p (y ∷ ys) o
found-cons p y ys None h (none f) = none (λ x i. elim i [ inl e ↦ ap p e ∙ h | inr j ↦ f x j ])
found-cons p y ys (Some x) h (some i t) = some (inr i) t

pub found : {A : Type 0} (p : A → Bool) (xs : List A) → Found p xs (find p xs)
found p [] = none (λ x i. absurd i)
found p (y ∷ ys) = elim (cases_Bool (p y)) [
  | inl t ↦ rw t (some (inl refl) t)
  | inr f ↦ rw f (found-cons p y ys (find p ys) f (found p ys))
]

-- whether a test holds of each number below n
abbrev pub each_below : ℕ → (ℕ → Bool) → Bool
each_below zero p = true
each_below (suc n) p = p n && each_below n p

pub each_below-at : (n k : ℕ) (p : ℕ → Bool) → each_below n p ≡ true → k < n → p k ≡ true
each_below-at zero k p h l = absurd (omega arith)
each_below-at (suc n) k p h l =
    let parts = and_parts (p n) (each_below n p) h in
    elim (cases_lt k n) [
      | inl less ↦ each_below-at n k p parts.1 less
      | inr more ↦ (let e : k ≡ n = omega arith in rw e parts.0)
    ]

-- ---- what holds of each code, by computation

abbrev is_sound : Code → Bool
is_sound c = nat_lt 0 c.len && (nat_lt c.len 31 && (nat_lt c.number (2 ^ c.len) && (nat_lt c.symbol 257 && same_bits (code_of c.symbol) (code_bits c))))

all_sound : list_all is_sound all_codes ≡ true
unfolding all_codes code_of
all_sound = refl

pub record IsCode (c : Code) : Type 0 where
  pub some : 0 < c.len
  pub short : c.len ≤ 30
  pub fits : c.number < 2 ^ c.len
  pub symbol : c.symbol ≤ 256
  pub unique : code_of c.symbol ≡ code_bits c

-- the parts of five tests
five_parts : (a b c d e : Bool) → (a && (b && (c && (d && e)))) ≡ true → (a ≡ true) × (b ≡ true) × (c ≡ true) × (d ≡ true) × (e ≡ true)
five_parts a b c d e h =
    let p = and_parts a (b && (c && (d && e))) h in
    let q = and_parts b (c && (d && e)) p.1 in
    let r = and_parts c (d && e) q.1 in
    let s = and_parts d e r.1 in
    (p.0, q.0, r.0, s.0, s.1)

pub is_code : (c : Code) → IsIn c all_codes → IsCode c
is_code c i =
    let p = five_parts (nat_lt 0 c.len) (nat_lt c.len 31) (nat_lt c.number (2 ^ c.len)) (nat_lt c.symbol 257) (same_bits (code_of c.symbol) (code_bits c)) (all_in is_sound all_codes c all_sound i) in
    let len : c.len < 31 = ltb-true c.len 31 p.1 in
    let symbol : c.symbol < 257 = ltb-true c.symbol 257 p.3 in
    record {
      some = ltb-true 0 c.len p.0;
      short = omega arith;
      fits = ltb-true c.number (2 ^ c.len) p.2;
      symbol = omega arith;
      unique = same_bits-true (code_of c.symbol) (code_bits c) p.4;
    }

-- codes are adjacent intervals of the numbers of 30 bits
abbrev start : Code → ℕ
start c = c.number * 2 ^ (30 - c.len)

abbrev end : Code → ℕ
end c = (c.number + 1) * 2 ^ (30 - c.len)

abbrev are_adjacent : ℕ → List Code → Bool
are_adjacent at [] = true
are_adjacent at (c ∷ cs) = (start c == at) && are_adjacent (end c) cs

all_adjacent : are_adjacent 0 all_codes ≡ true
unfolding all_codes
all_adjacent = refl

pub complete : sum_by (λ code. 2 ^ (30 - code.len)) all_codes ≡ 2 ^ 30
unfolding all_codes
complete = refl

start-le-end : (c : Code) → start c ≤ end c
start-le-end c = omega arith

adjacent-le : (at : ℕ) (cs : List Code) (c : Code) → are_adjacent at cs ≡ true → IsIn c cs → at ≤ start c
adjacent-le at [] c h i = absurd i
adjacent-le at (d ∷ ds) c h (inl e) =
    omega (arith, eqb-true (start d) at (and_parts (start d == at) (are_adjacent (end d) ds) h).0, ap start e)
adjacent-le at (d ∷ ds) c h (inr i) =
    let p = and_parts (start d == at) (are_adjacent (end d) ds) h in
    omega (arith, eqb-true (start d) at p.0, start-le-end d, adjacent-le (end d) ds c p.1 i)

apart : (at : ℕ) (cs : List Code) (a b : Code) → are_adjacent at cs ≡ true → IsIn a cs → IsIn b cs → (a ≡ b) ⊎ ((end a ≤ start b) ⊎ (end b ≤ start a))
apart at [] a b h i j = absurd i
apart at (d ∷ ds) a b h (inl e) (inl f) = inl (e ∙ sym f)
apart at (d ∷ ds) a b h (inl e) (inr j) = inr (inl (omega (arith, ap end e, adjacent-le (end d) ds b (and_parts (start d == at) (are_adjacent (end d) ds) h).1 j)))
apart at (d ∷ ds) a b h (inr i) (inl f) = inr (inr (omega (arith, ap end f, adjacent-le (end d) ds a (and_parts (start d == at) (are_adjacent (end d) ds) h).1 i)))
apart at (d ∷ ds) a b h (inr i) (inr j) = apart (end d) ds a b (and_parts (start d == at) (are_adjacent (end d) ds) h).1 i j

-- the interval of a longer number lies in that of its front
inside : (n r v p : ℕ) → v < r → 0 < p → ((n * r + v) * p < (n + 1) * r * p) × (n * r * p < (n * r + v + 1) * p)
inside n r v p h q = (omega (arith, mul-le-mul_right p h), omega arith)

module _ (a b : Code) (rest : List Bool) (i : IsIn a all_codes) (j : IsIn b all_codes) (e : code_bits b ≡ code_bits a ++ rest) where
  prefix-len : b.len ≡ a.len + length rest
  prefix-len = omega (arith, ap length e, length-append (code_bits a) rest, length-number_bits a.len a.number, length-number_bits b.len b.number)

  prefix-number : b.number ≡ a.number * 2 ^ length rest + value rest
  prefix-number =
      let f = ap value e in
      let g = rw (value-append (code_bits a) rest, value-number_bits a.len a.number, value-number_bits b.len b.number) at f in
      let g' = rw (mod-eq_of_lt (is_code a i).fits, mod-eq_of_lt (is_code b j).fits) at g in g'

  prefix-start : (start b < end a) × (start a < end b)
  prefix-start =
      let l = prefix-len in
      let short = (is_code b j).short in
      let k : 30 - a.len ≡ length rest + (30 - b.len) = omega arith in
      let w = inside a.number (2 ^ length rest) (value rest) (2 ^ (30 - b.len)) (value-lt rest) (pow_pos (30 - b.len)) in
      let p = pow-add 2 (length rest) (30 - b.len) in
      rw (k, p, prefix-number) (omega (arith, w.0), omega (arith, w.1))

  pub prefix : a ≡ b
  prefix = elim (apart 0 all_codes a b all_adjacent i j) [
    | inl same ↦ same
    | inr other ↦ absurd (elim other [ inl h ↦ omega (arith, prefix-start.0) | inr h ↦ omega (arith, prefix-start.1) ])
  ]

-- ---- the code with some bits

pub code_with-Found : (bits : List Bool) → Found (λ code. same_bits (code_bits code) bits) all_codes (code_with bits)
unfolding code_with
code_with-Found bits = found _ all_codes

code_with_found : (c : Code) (o : Option Code) → IsIn c all_codes → Found (λ code. same_bits (code_bits code) (code_bits c)) all_codes o → o ≡ Some c
code_with_found c None i (none f) = absurd (false≢true (sym (f c i) ∙ same_bits-refl (code_bits c)))
code_with_found c (Some d) i (some j t) =
    ap Some (prefix d c [] j i (sym (same_bits-true _ _ t) ∙ sym (append-nil (code_bits d))))

pub code_with-code_bits : (c : Code) → IsIn c all_codes → code_with (code_bits c) ≡ Some c
code_with-code_bits c i = code_with_found c _ i (code_with-Found (code_bits c))

-- ---- the code of a symbol

abbrev has_code : ℕ → Bool
has_code s = is_some (find (λ code. code.symbol == s) all_codes)

each_has_code : each_below 257 has_code ≡ true
unfolding all_codes
each_has_code = refl

some_code : (s : ℕ) (o : Option Code) → is_some o ≡ true → Found (λ code. code.symbol == s) all_codes o → (c : Code) × IsIn c all_codes × (c.symbol ≡ s)
some_code s None h f = absurd (false≢true h)
some_code s (Some c) h (some i t) = (c, i, eqb-true _ _ t)

-- each symbol has a code
pub code_for : (s : ℕ) → s < 257 → (c : Code) × IsIn c all_codes × (c.symbol ≡ s)
code_for s h = some_code s _ (each_below-at 257 s has_code each_has_code h) (found _ all_codes)
