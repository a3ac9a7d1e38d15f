-- Varints as a relation and as they are read.
use Rattle.std.proofs.Common.{◌≡◌, ℕ, zero, suc, ◌+◌, ◌-◌, ◌*◌, ◌/◌, ◌%◌, ◌<◌, ◌≤◌, inl, inr, cond, ltb, leb, Ok, Err, List, [], ◌∷◌, ◌++◌, length, take, drop, refl, sym, ap, subst, arith}
use Rattle.std.proofs.lemmas.Bool.{cases_lt, lt-ltb, le-ltb, le-leb, lt-leb, ltb-true, ltb-false, leb-false}
use Rattle.std.proofs.lemmas.List.{get_or-drop, take_rest}
use Rattle.proto_wire.specs.declared.fault.WireError.TheVariants as errors
use Rattle.proto_wire.specs.Wire.{Groups}
use Rattle.proto_wire.specs.Steps.{◌>>=◌}
use Rattle.proto_wire.specs.Reading.{IsBytes, varint_at}
use Rattle.proto_wire.specs.Spelling.{bound, groups_of}
use Rattle.proto_wire.proofs.Bounds.{bound_step, bound_small, bound_low, bound_more, groups_end, groups_step}
use Rattle.proto_wire.proofs.Steps.{bind_ok, guard_ok, chosen, ok_is}

pub IsBytes-drop : (n : ℕ) (text : List ℕ) → IsBytes text → IsBytes (drop n text)
IsBytes-drop n text h i = rw get_or-drop (h (n + i))

-- the rest behind the first byte, as a pattern binds it
pub IsBytes-rest : (text : List ℕ) → IsBytes text → IsBytes (take (length text - 1) (drop 1 text))
IsBytes-rest text h = subst IsBytes (sym (take_rest text 1)) (IsBytes-drop 1 text h)

-- what reading a varint took from the front
pub record TakesVarint (more : ℕ) (text : List ℕ) (n : ℕ) (rest : List ℕ) : Type 0 where
  pub front : List ℕ
  pub parts : text ≡ front ++ rest
  pub groups : Groups front n
  pub short : length front ≤ more
  pub small : n < bound more

takes_last : (more b : ℕ) (rest : List ℕ) → 1 ≤ more → b < 128 → b < bound more → TakesVarint more (b ∷ rest) b rest
takes_last more b rest low lt small = record { front = b ∷ []; parts = refl; groups = (lt, refl); short = omega arith; small = small }

groups_more : (b high : ℕ) (front : List ℕ) → 128 ≤ b → b < 256 → Groups front high → Groups (b ∷ front) (b - 128 + 128 * high)
groups_more b high [] le lt g = absurd g
groups_more b high (c ∷ cs) le lt g = (le, lt, (high, omega arith, g))

takes_more : (more b high : ℕ) (rest after : List ℕ) → 1 < more → 128 ≤ b → b < 256 → TakesVarint (more - 1) rest high after → TakesVarint more (b ∷ rest) (b - 128 + 128 * high) after
takes_more more b high rest after lt le byte t = record {
  front = b ∷ t.front;
  parts = ap (λ (x : List ℕ). b ∷ x) t.parts;
  groups = groups_more b high t.front le byte t.groups;
  short = omega (arith, t.short);
  small = bound_more more b high lt byte t.small;
}

pub varint_takes : (at more : ℕ) (text : List ℕ) (x : ℕ × List ℕ) → IsBytes text → 1 ≤ more → varint_at at more text ≡ Ok x → TakesVarint more text x.0 x.1
unfolding varint_at
varint_takes at more [] x fits low e = absurd cc
varint_takes at more (b ∷ rest) x fits low e =
    elim (chosen (leb more 1) (cond (ltb 1 b) (Err (errors.BadVarint at)) (Ok (b, rest))) (cond (ltb b 128) (Ok (b, rest)) (varint_at at (more - 1) rest >>= λ high. Ok (b - 128 + 128 * high.0, high.1))) (Ok x) e) [
      | inl p ↦
          let g = guard_ok (ltb 1 b) (errors.BadVarint at) (b, rest) x p.1 in
          let small = ltb-false _ _ g.0 in
          subst (λ (y : ℕ × List ℕ). TakesVarint more (b ∷ rest) y.0 y.1) g.1 (takes_last more b rest low (omega arith) (omega (arith, bound_low more low)))
      | inr p ↦
          let lt = leb-false _ _ p.0 in
          elim (chosen (ltb b 128) (Ok (b, rest)) (varint_at at (more - 1) rest >>= λ high. Ok (b - 128 + 128 * high.0, high.1)) (Ok x) p.1) [
            | inl q ↦
                let small = ltb-true _ _ q.0 in
                subst (λ (y : ℕ × List ℕ). TakesVarint more (b ∷ rest) y.0 y.1) (ok_is (b, rest) x q.1) (takes_last more b rest low small (omega (arith, bound_step more lt, bound_low (more - 1) (omega arith))))
            | inr q ↦
                let le = ltb-false _ _ q.0 in
                let h = bind_ok (varint_at at (more - 1) rest) (λ high. Ok (b - 128 + 128 * high.0, high.1)) x q.1 in
                let t = varint_takes at (more - 1) rest h.0 (λ i. fits (suc i)) (omega arith) h.1 in
                subst (λ (y : ℕ × List ℕ). TakesVarint more (b ∷ rest) y.0 y.1) (ok_is (b - 128 + 128 * h.0.0, h.0.1) x h.2) (takes_more more b h.0.0 rest h.0.1 lt le (fits 0) t)
          ]
    ]

pub varint_again : (at more : ℕ) (front rest : List ℕ) (n : ℕ) → Groups front n → length front ≤ more → n < bound more → varint_at at more (front ++ rest) ≡ Ok (n, rest)
unfolding varint_at
varint_again at more [] rest n g short small = absurd g
varint_again at more (b ∷ []) rest n g short small =
    elim (cases_lt 1 more) [
      | inl lt ↦ rw (lt-leb more 1 lt, lt-ltb b 128 g.0, g.1) refl
      | inr le ↦
          let low : b ≤ 1 = omega (arith, bound_small more le, g.1) in
          rw (le-leb more 1 le, le-ltb 1 b low, g.1) refl
    ]
varint_again at more (b ∷ c ∷ bs) rest n g short small =
    let lt : 1 < more = omega arith in
    let high = g.2.0 in
    let again = varint_again at (more - 1) (c ∷ bs) rest high g.2.2 (omega arith) (omega (arith, g.2.1, g.0, bound_step more lt)) in
    let value : b - 128 + 128 * high ≡ n = omega (arith, g.2.1, g.0) in
    rw (lt-leb more 1 lt, le-ltb b 128 g.0, again, value) refl

pub groups_spell : (more n : ℕ) → 1 ≤ more → n < bound more → Groups (groups_of more n) n × (length (groups_of more n) ≤ more)
groups_spell zero n low small = absurd (omega arith)
groups_spell (suc more) n low small =
    elim (cases_lt 1 (suc more)) [
      | inl lt ↦
          elim (cases_lt n 128) [
            | inl less ↦ rw (groups_end (suc more) n (inr less)) ((less, refl), omega arith)
            | inr large ↦
                let less : suc more - 1 ≡ more = omega arith in
                let step = bound_step (suc more) lt in
                let high = groups_spell more (n / 128) (omega arith) (omega (arith, rw less at step)) in
                let value : n % 128 + 128 - 128 + 128 * (n / 128) ≡ n = omega arith in
                rw (groups_step (suc more) n lt large, less) (subst (λ k. Groups ((n % 128 + 128) ∷ groups_of more (n / 128)) k) value (groups_more (n % 128 + 128) (n / 128) (groups_of more (n / 128)) (omega arith) (omega arith) high.0), omega (arith, high.1))
          ]
      | inr le ↦ rw (groups_end (suc more) n (inl le)) ((omega (arith, bound_small (suc more) le), refl), omega arith)
    ]

-- no spelling is shorter
pub groups_least : (more n : ℕ) (text : List ℕ) → Groups text n → length (groups_of more n) ≤ length text
groups_least more n [] g = absurd g
groups_least more n (b ∷ []) g = rw (groups_end more n (inr (omega (arith, g.0, g.1)))) (omega arith)
groups_least more n (b ∷ c ∷ bs) g =
    elim (cases_lt 1 more) [
      | inl lt ↦
          elim (cases_lt n 128) [
            | inl small ↦ rw (groups_end more n (inr small)) (omega arith)
            | inr large ↦
                let high : n / 128 ≡ g.2.0 = omega (arith, g.2.1, g.0, g.1) in
                rw (groups_step more n lt large, high) (omega (arith, groups_least (more - 1) g.2.0 (c ∷ bs) g.2.2))
          ]
      | inr le ↦ rw (groups_end more n (inl le)) (omega arith)
    ]
