-- Integers as a relation and as they are read.
use Rattle.std.proofs.Common.{◌≡◌, ℕ, zero, suc, ◌+◌, ◌-◌, ◌*◌, ◌/◌, ◌%◌, ◌^◌, ◌<◌, ◌≤◌, inl, inr, false, true, ltb, Ok, List, [], ◌∷◌, ◌++◌, length, refl, sym, ap, subst, arith}
use Rattle.std.proofs.lemmas.Bool.{cases_lt, lt-ltb, le-ltb, ltb-true, ltb-false}
use Rattle.std.proofs.Math.Nat.{pow-succ'}
use Rattle.proto_wire.specs.Wire.{Groups}
use Rattle.proto_wire.specs.Steps.{◌>>=◌}
use Rattle.proto_wire.proofs.Steps.{bind_ok, chosen, held_ok, ok_is}
use Rattle.hpack_tables.specs.declared.offence.Offence.TheVariants as offences
use Rattle.hpack_tables.specs.Integer.{IsInt, filled, groups_of, int_spelled}
use Rattle.proto_wire.specs.Reading.{IsBytes}
use Rattle.hpack_tables.specs.Reading.{groups_at, small_int, int_at}

-- ---- groups

-- what reading groups took from the front
record TakesGroups (more : ℕ) (text : List ℕ) (n : ℕ) (rest : List ℕ) : Type 0 where
  pub front : List ℕ
  pub parts : text ≡ front ++ rest
  pub groups : Groups front n
  pub short : length front ≤ more

takes_last : (more b : ℕ) (rest : List ℕ) → b < 128 → TakesGroups (suc more) (b ∷ rest) b rest
takes_last more b rest lt = record { front = b ∷ []; parts = refl; groups = (lt, refl); short = omega arith }

groups_more : (b high : ℕ) (front : List ℕ) → 128 ≤ b → b < 256 → Groups front high → Groups (b ∷ front) (b - 128 + 128 * high)
groups_more b high [] le lt g = absurd g
groups_more b high (c ∷ cs) le lt g = (le, lt, (high, omega arith, g))

takes_more : (more b high : ℕ) (rest after : List ℕ) → 128 ≤ b → b < 256 → TakesGroups more rest high after → TakesGroups (suc more) (b ∷ rest) (b - 128 + 128 * high) after
takes_more more b high rest after le byte t = record {
  front = b ∷ t.front;
  parts = ap (λ (x : List ℕ). b ∷ x) t.parts;
  groups = groups_more b high t.front le byte t.groups;
  short = omega (arith, t.short);
}

groups_take : (more : ℕ) (text : List ℕ) (x : ℕ × List ℕ) → IsBytes text → groups_at more text ≡ Ok x → TakesGroups more text x.0 x.1
unfolding groups_at
groups_take more [] x fits e = absurd cc
groups_take zero (b ∷ rest) x fits e = absurd cc
groups_take (suc more) (b ∷ rest) x fits e =
    elim (chosen (ltb b 128) (Ok (b, rest)) (groups_at more rest >>= λ high. Ok (b - 128 + 128 * high.0, high.1)) (Ok x) e) [
      | inl q ↦
          let small = ltb-true _ _ q.0 in
          subst (λ (y : ℕ × List ℕ). TakesGroups (suc more) (b ∷ rest) y.0 y.1) (ok_is (b, rest) x q.1) (takes_last more b rest small)
      | inr q ↦
          let le = ltb-false _ _ q.0 in
          let h = bind_ok (groups_at more rest) (λ high. Ok (b - 128 + 128 * high.0, high.1)) x q.1 in
          let t = groups_take more rest h.0 (λ k. fits (suc k)) h.1 in
          subst (λ (y : ℕ × List ℕ). TakesGroups (suc more) (b ∷ rest) y.0 y.1) (ok_is (b - 128 + 128 * h.0.0, h.0.1) x h.2) (takes_more more b h.0.0 rest h.0.1 le (fits 0) t)
    ]

groups_again : (more : ℕ) (front rest : List ℕ) (n : ℕ) → Groups front n → length front ≤ more → groups_at more (front ++ rest) ≡ Ok (n, rest)
unfolding groups_at
groups_again more [] rest n g short = absurd g
groups_again zero (b ∷ bs) rest n g short = absurd (omega arith)
groups_again (suc more) (b ∷ []) rest n g short = rw (lt-ltb b 128 g.0, g.1) refl
groups_again (suc more) (b ∷ c ∷ bs) rest n g short =
    let high = g.2.0 in
    let again = groups_again more (c ∷ bs) rest high g.2.2 (omega arith) in
    let value : b - 128 + 128 * high ≡ n = omega (arith, g.2.1, g.0) in
    rw (le-ltb b 128 g.0, again, value) refl

-- ---- integers

-- what reading an integer took from the front
pub record TakesInt (bits high : ℕ) (text : List ℕ) (n : ℕ) (rest : List ℕ) : Type 0 where
  pub front : List ℕ
  pub parts : text ≡ front ++ rest
  pub is_int : IsInt bits high n front

-- a first byte of these higher bits
pub record HasHigh (bits high b : ℕ) : Type 0 where
  pub whole : high + b % 2 ^ bits ≡ b
  pub within : b % 2 ^ bits < 2 ^ bits
  pub few : 2 ^ bits ≤ 256

takes_short : (bits high b : ℕ) (rest : List ℕ) → HasHigh bits high b → b % 2 ^ bits < filled bits → TakesInt bits high (b ∷ rest) (b % 2 ^ bits) rest
takes_short bits high b rest h lt = record {
  front = b ∷ [];
  parts = refl;
  is_int = record { small = omega (arith, h.within, h.few); spelled = inl (lt, ap (λ (x : ℕ). x ∷ []) (sym h.whole)) };
}

takes_long : (bits high b more : ℕ) (rest after : List ℕ) → HasHigh bits high b → filled bits ≤ b % 2 ^ bits → filled bits + more < 2 ^ 32
    → TakesGroups 5 rest more after → TakesInt bits high (b ∷ rest) (filled bits + more) after
takes_long bits high b more rest after h le small t =
    let first : b ≡ high + filled bits = omega (arith, h.whole, h.within) in
    record {
      front = b ∷ t.front;
      parts = ap (λ (x : List ℕ). b ∷ x) t.parts;
      is_int = record { small = small; spelled = inr (more, t.front, refl, ap (λ (x : ℕ). x ∷ t.front) first, t.short, t.groups) };
    }

pub int_takes : (bits high b : ℕ) (rest : List ℕ) (x : ℕ × List ℕ) → HasHigh bits high b → IsBytes rest → int_at bits (b ∷ rest) ≡ Ok x → TakesInt bits high (b ∷ rest) x.0 x.1
unfolding int_at
int_takes bits high b rest x h fits e =
    elim (chosen (ltb (b % 2 ^ bits) (filled bits)) (Ok (b % 2 ^ bits, rest)) (groups_at 5 rest >>= λ more. small_int (filled bits + more.0, more.1)) (Ok x) e) [
      | inl p ↦ subst (λ (y : ℕ × List ℕ). TakesInt bits high (b ∷ rest) y.0 y.1) (ok_is (b % 2 ^ bits, rest) x p.1) (takes_short bits high b rest h (ltb-true _ _ p.0))
      | inr p ↦
          let g = bind_ok (groups_at 5 rest) (λ more. small_int (filled bits + more.0, more.1)) x p.1 in
          let s = held_ok (ltb (filled bits + g.0.0) (2 ^ 32)) offences.Int (filled bits + g.0.0, g.0.1) x g.2 in
          subst (λ (y : ℕ × List ℕ). TakesInt bits high (b ∷ rest) y.0 y.1) s.1
          (takes_long bits high b g.0.0 rest g.0.1 h (ltb-false _ _ p.0) (ltb-true _ _ s.0) (groups_take 5 rest g.0 fits g.1))
    ]

-- higher bits above a prefix of so many
pub record IsHigh (bits high : ℕ) : Type 0 where
  pub low : (v : ℕ) → v < 2 ^ bits → (high + v) % 2 ^ bits ≡ v
  pub some : 0 < 2 ^ bits

pub int_again : (bits high value : ℕ) (front rest : List ℕ) → IsHigh bits high → IsInt bits high value front → int_at bits (front ++ rest) ≡ Ok (value, rest)
unfolding int_at
int_again bits high value front rest h i =
    elim i.spelled [
      | inl p ↦
          let low : (high + value) % 2 ^ bits ≡ value = h.low value (omega (arith, p.0)) in
          rw (p.1, low, lt-ltb value (filled bits) p.0) refl
      | inr p ↦
          let more = p.0 in
          let low : (high + filled bits) % 2 ^ bits ≡ filled bits = h.low (filled bits) (omega (arith, h.some)) in
          let same : ltb (filled bits) (filled bits) ≡ false = le-ltb (filled bits) (filled bits) (omega arith) in
          let small : ltb (filled bits + more) (2 ^ 32) ≡ true = lt-ltb _ _ (omega (arith, i.small, p.2)) in
          rw (p.3, low, same, groups_again 5 p.1 rest more p.5 p.4, small, p.2) refl
    ]

-- an integer has a byte
pub int_some : (bits high value : ℕ) (bytes : List ℕ) → IsInt bits high value bytes → 0 < length bytes
int_some bits high value bytes i =
    elim i.spelled [
      | inl p ↦ omega (arith, ap length p.1)
      | inr p ↦ omega (arith, ap length p.3)
    ]

-- ---- the shortest spelling

groups_spell : (few most n : ℕ) → few ≤ most → n < 128 ^ few * 128 → Groups (groups_of (suc most) n) n × (length (groups_of (suc most) n) ≤ suc few)
groups_spell zero most n le lt = rw (lt-ltb n 128 (omega arith)) ((omega arith, refl), omega arith)
groups_spell (suc few) zero n le lt = absurd (omega arith)
groups_spell (suc few) (suc most) n le lt =
    elim (cases_lt n 128) [
      | inl small ↦ rw (lt-ltb n 128 small) ((small, refl), omega arith)
      | inr large ↦
          let high = groups_spell few most (n / 128) (omega arith) (omega (arith, pow-succ' 128 few)) in
          let value : n % 128 + 128 - 128 + 128 * (n / 128) ≡ n = omega arith in
          let others = groups_of (suc most) (n / 128) in
          let all = groups_more (n % 128 + 128) (n / 128) others (omega arith) (omega arith) high.0 in
          rw (le-ltb n 128 large) (subst (λ k. Groups ((n % 128 + 128) ∷ others) k) value all, omega (arith, high.1))
    ]

-- what is written is the integer
pub int_spells : (bits high value : ℕ) → value < 2 ^ 32 → IsInt bits high value (int_spelled bits high value)
unfolding int_spelled
int_spells bits high value small =
    elim (cases_lt value (filled bits)) [
      | inl lt ↦ rw (lt-ltb value (filled bits) lt) (record { small = small; spelled = inl (lt, refl) })
      | inr le ↦
          let g = groups_spell 4 9 (value - filled bits) (omega arith) (omega arith) in
          rw (le-ltb value (filled bits) le) (record { small = small; spelled = inr (value - filled bits, groups_of 10 (value - filled bits), omega arith, refl, g.1, g.0) })
    ]

-- the first byte of an integer
pub record HasFirst (bits high : ℕ) (bytes : List ℕ) : Type 0 where
  pub low : ℕ
  pub others : List ℕ
  pub small : low ≤ filled bits
  pub first : bytes ≡ (high + low) ∷ others

pub int_first : (bits high value : ℕ) (bytes : List ℕ) → IsInt bits high value bytes → HasFirst bits high bytes
int_first bits high value bytes i =
    elim i.spelled [
      | inl p ↦ record { low = value; others = []; small = omega (arith, p.0); first = p.1 }
      | inr p ↦ record { low = filled bits; others = p.1; small = omega arith; first = p.3 }
    ]

pub first_append : (bits high : ℕ) (front back : List ℕ) → HasFirst bits high front → HasFirst bits high (front ++ back)
first_append bits high front back h = record { low = h.low; others = h.others ++ back; small = h.small; first = ap (λ (x : List ℕ). x ++ back) h.first }
