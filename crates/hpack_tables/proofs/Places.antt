-- The first place in a list that is seen by a view, and the places of two lists that are joined.
use Rattle.std.proofs.Common.{◌≡◌, ℕ, zero, suc, ◌+◌, ◌-◌, ◌<◌, ◌≤◌, Bool, List, [], ◌∷◌, ◌++◌, length, map, Some, None, refl, ap, sym, ◌∙◌, arith}
use Rattle.std.specs.List.{position, prefix_len, slice_get}
use Rattle.std.proofs.lemmas.List.{length-map}
use Rattle.std.proofs.lemmas.List.Quantifiers.{position-Some}
use Rattle.hpack_tables.specs.declared.header.Header.{Header}
use Rattle.hpack_tables.specs.Table.{HeaderTable, entry_of, static_entries, header_at}

prefix_map : {X Y : Type 0} (p : Y → Bool) (v : X → Y) (xs : List X) → prefix_len p (map v xs) ≡ prefix_len (λ x. p (v x)) xs
prefix_map p v [] = refl
prefix_map p v (x ∷ xs) = rw (prefix_map p v xs) refl

position_map : {X Y : Type 0} (p : Y → Bool) (v : X → Y) (xs : List X) → position p (map v xs) ≡ position (λ x. p (v x)) xs
position_map p v xs = simp (length-map, prefix_map)

-- the first place in a list that is another, seen by a view
pub position_seen : {X Y : Type 0} (p : Y → Bool) (v : X → Y) (xs : List X) (ys : List Y) → map v xs ≡ ys → position (λ x. p (v x)) xs ≡ position p ys
position_seen p v xs ys e = sym (position_map p v xs) ∙ ap (position p) e

-- a place in the first of two lists
pub slice_get_left : {X : Type 0} (xs ys : List X) (i : ℕ) → i < length xs → slice_get (xs ++ ys) i ≡ slice_get xs i
slice_get_left [] ys i h = absurd (omega arith)
slice_get_left (x ∷ xs) ys zero h = refl
slice_get_left (x ∷ xs) ys (suc i) h = slice_get_left xs ys i (omega arith)

-- a place in the second of two lists
pub slice_get_right : {X : Type 0} (xs ys : List X) (i k : ℕ) → i ≡ length xs + k → slice_get (xs ++ ys) i ≡ slice_get ys k
slice_get_right [] ys i k h = ap (slice_get ys) (omega arith)
slice_get_right (x ∷ xs) ys zero k h = absurd (omega arith)
slice_get_right (x ∷ xs) ys (suc i) k h = slice_get_right xs ys i k (omega arith)

pub static_len : length static_entries ≡ 61
unfolding static_entries
static_len = refl

pub header_at_zero : (t : HeaderTable) → header_at t 0 ≡ None
unfolding header_at
header_at_zero t = refl

-- an index of the static table
pub header_at_static : (t : HeaderTable) (index : ℕ) → 0 < index → index ≤ 61 → header_at t index ≡ slice_get static_entries (index - 1)
unfolding header_at
header_at_static t zero low high = absurd (omega arith)
header_at_static t (suc place) low high =
    let e : suc place - 1 ≡ place = omega arith in
    rw e (slice_get_left static_entries t.entries place (omega (arith, static_len)))

-- an index of the dynamic table
pub header_at_dynamic : (t : HeaderTable) (index place : ℕ) → index ≡ 62 + place → header_at t index ≡ slice_get t.entries place
unfolding header_at
header_at_dynamic t zero place h = absurd (omega arith)
header_at_dynamic t (suc n) place h = slice_get_right static_entries t.entries n place (omega (arith, static_len))

-- a place of the static table is small
pub place_small : (p : Header → Bool) (place : ℕ) → Some place ≡ position p static_entries → place < 61
place_small p place e = omega (arith, static_len, (position-Some p static_entries place (entry_of [] []) (sym e)).0)
