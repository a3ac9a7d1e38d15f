-- Bits and the number that they make.
use Rattle.std.proofs.Common.{◌≡◌, ℕ, zero, suc, ◌+◌, ◌*◌, ◌/◌, ◌%◌, ◌^◌, ◌<◌, Bool, true, false, cond, List, [], ◌∷◌, ◌++◌, length, refl, sym, add-one, ap, arith, length-append}
use Rattle.std.specs.Prelude.{◌==◌}
use Rattle.std.proofs.lemmas.Bool.{false≢true}
use Rattle.std.proofs.lemmas.Nat.{pow_pos, pow-add, mod-pow-add}
use Rattle.std.proofs.Math.Nat.{mod-one, pow-suc}
use Rattle.std.proofs.Math.Pow.{mod-mod-pow}
use Rattle.std.proofs.Math.Arith.{mod-mul}
use Rattle.hpack_tables.specs.Huffman.{number_bits, same_bits}

-- the number of some bits, the highest first
abbrev pub value : List Bool → ℕ
value [] = 0
value (b ∷ bs) = cond b (2 ^ length bs) 0 + value bs

pub pow-one-add : (n : ℕ) → 2 ^ suc n ≡ 2 ^ n + 2 ^ n
pow-one-add n = omega (arith, pow-suc 2 n)

pub value-lt : (bs : List Bool) → value bs < 2 ^ length bs
value-lt [] = omega arith
value-lt (true ∷ bs) = omega (arith, value-lt bs, pow-one-add (length bs))
value-lt (false ∷ bs) = omega (arith, value-lt bs, pow-one-add (length bs))

pub length-number_bits : (n x : ℕ) → length (number_bits n x) ≡ n
length-number_bits zero x = refl
length-number_bits (suc n) x = ap suc (length-number_bits n x)

bit_times : (q p : ℕ) → q < 2 → cond (q == 1) p 0 ≡ q * p
bit_times zero p h = omega arith
bit_times (suc zero) p h = omega arith
bit_times (suc (suc q)) p h = absurd (omega arith)

pub value-number_bits : (n x : ℕ) → value (number_bits n x) ≡ x % 2 ^ n
value-number_bits zero x = sym (mod-one x)
value-number_bits (suc n) x =
    rw (length-number_bits n x, value-number_bits n x)
    (let e = mod-pow-add x 1 n in
    let q : x / 2 ^ n % 2 < 2 = omega arith in
    let b = bit_times (x / 2 ^ n % 2) (2 ^ n) q in
    let one : 1 + n ≡ suc n = omega arith in
    let e' = rw one at e in
    omega (arith, e', b))

pub same_bits-true : (xs ys : List Bool) → same_bits xs ys ≡ true → xs ≡ ys
same_bits-true [] [] h = refl
same_bits-true [] (y ∷ ys) h = absurd (false≢true h)
same_bits-true (x ∷ xs) [] h = absurd (false≢true h)
same_bits-true (true ∷ xs) (true ∷ ys) h = ap (λ zs. true ∷ zs) (same_bits-true xs ys h)
same_bits-true (true ∷ xs) (false ∷ ys) h = absurd (false≢true h)
same_bits-true (false ∷ xs) (true ∷ ys) h = absurd (false≢true h)
same_bits-true (false ∷ xs) (false ∷ ys) h = ap (λ zs. false ∷ zs) (same_bits-true xs ys h)

pub same_bits-refl : (xs : List Bool) → same_bits xs xs ≡ true
same_bits-refl [] = refl
same_bits-refl (true ∷ xs) = same_bits-refl xs
same_bits-refl (false ∷ xs) = same_bits-refl xs

pub bits_equal : (xs ys : List Bool) → length xs ≡ length ys → value xs ≡ value ys → xs ≡ ys
bits_equal [] [] l v = refl
bits_equal [] (y ∷ ys) l v = absurd (omega arith)
bits_equal (x ∷ xs) [] l v = absurd (omega arith)
bits_equal (true ∷ xs) (true ∷ ys) l v =
    let k : length xs ≡ length ys = omega arith in
    let p = ap (λ n. 2 ^ n) k in
    ap (λ zs. true ∷ zs) (bits_equal xs ys k (omega arith))
bits_equal (true ∷ xs) (false ∷ ys) l v =
    let k : length xs ≡ length ys = omega arith in
    let p = ap (λ n. 2 ^ n) k in
    absurd (omega (arith, value-lt ys))
bits_equal (false ∷ xs) (true ∷ ys) l v =
    let k : length xs ≡ length ys = omega arith in
    let p = ap (λ n. 2 ^ n) k in
    absurd (omega (arith, value-lt xs))
bits_equal (false ∷ xs) (false ∷ ys) l v =
    ap (λ zs. false ∷ zs) (bits_equal xs ys (omega arith) (omega arith))

pow-add-two : (m n : ℕ) → 2 ^ (m + n) ≡ 2 ^ m * 2 ^ n
pow-add-two m n = pow-add 2 m n

pub value-append : (xs ys : List Bool) → value (xs ++ ys) ≡ value xs * 2 ^ length ys + value ys
value-append [] ys = omega arith
value-append (true ∷ xs) ys =
    rw (length-append xs ys, pow-add-two (length xs) (length ys)) (omega (arith, value-append xs ys))
value-append (false ∷ xs) ys = omega (arith, value-append xs ys)

mod_more : (n x d : ℕ) → d < 2 → (2 * x + d) % 2 ^ (n + 1) ≡ (x % 2 ^ n) * 2 + d
mod_more n x d h =
    rw (add-one, pow-suc)
    (let e = mod-mul (2 * x + d) {m = 2 ^ n} {c = 2} (pow_pos n) (omega arith) in
    let q : (2 * x + d) / 2 ≡ x = omega arith in
    let e' = rw q at e in
    omega (arith, e'))

bit_lt : (b : Bool) → cond b 1 0 < 2
bit_lt true = omega arith
bit_lt false = omega arith

-- one bit more
pub number_bits-more : (n x : ℕ) (b : Bool) → number_bits (n + 1) (2 * x + cond b 1 0) ≡ number_bits n x ++ b ∷ []
number_bits-more n x b =
    bits_equal _ _
    (omega (arith, length-number_bits (n + 1) (2 * x + cond b 1 0), length-append (number_bits n x) (b ∷ []), length-number_bits n x))
    (rw (value-number_bits (n + 1) (2 * x + cond b 1 0), value-append (number_bits n x) (b ∷ []), value-number_bits n x)
    (omega (arith, mod_more n x (cond b 1 0) (bit_lt b))))

-- the bits of a number of more bits
pub number_bits-add : (m n x : ℕ) → number_bits (m + n) x ≡ number_bits m (x / 2 ^ n) ++ number_bits n x
number_bits-add m n x =
    bits_equal _ _
    (omega (arith, length-number_bits (m + n) x, length-append (number_bits m (x / 2 ^ n)) (number_bits n x), length-number_bits m (x / 2 ^ n), length-number_bits n x))
    (rw (value-number_bits (m + n) x, value-append (number_bits m (x / 2 ^ n)) (number_bits n x), value-number_bits m (x / 2 ^ n), value-number_bits n x, length-number_bits n x) (mod-pow-add x m n))

-- higher bits don't count
pub number_bits-mod : (j k x : ℕ) → number_bits k (x % 2 ^ (j + k)) ≡ number_bits k x
number_bits-mod j k x =
    bits_equal _ _
    (omega (arith, length-number_bits k (x % 2 ^ (j + k)), length-number_bits k x))
    (rw (value-number_bits k (x % 2 ^ (j + k)), value-number_bits k x) (mod-mod-pow x j k))
