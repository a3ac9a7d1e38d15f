-- Lists cut at separators.
use Rattle.std.proofs.Common.{◌≡◌, ◌≢◌, not, ℕ, suc, ◌+◌, ◌<◌, ◌≤◌, Bool, true, false, cond, eqb, ltb, List, [], ◌∷◌, ◌++◌, length, take, drop, Option, Some, None, refl, sym, ap, subst, ◌∙◌, arith, inl, inr}
use Rattle.std.specs.Prelude.{position}
use Rattle.std.specs.List.{slice_split, position_or_len, join_with_byte, onto_first as onto_first_part}
use Rattle.std.specs.Option.{option_map}
use Rattle.std.proofs.lemmas.Bool.{eqb-true, eqb-false, ne_eqb, eq-eqb, cases_Bool}
use Rattle.std.proofs.lemmas.List.Splits.{join_with_byte-slice_split}
use Rattle.casd_server.specs.Cut.{cut_at, onto_first, pieces_of, lines_of, NoByte}

-- an element before what stands before a separator
abbrev pub onto_front : ℕ → Option (List ℕ × List ℕ) → Option (List ℕ × List ℕ)
onto_front b None = None
onto_front b (Some c) = Some (b ∷ c.0, c.1)

-- a cut at a place, where there is one
abbrev cut_here : List ℕ → Bool → ℕ → Option (List ℕ × List ℕ)
cut_here xs t i = option_map (λ k. (take k xs, drop (k + 1) xs)) (cond t (Some i) None)

cut_here-front : (b i : ℕ) (t : Bool) (bs : List ℕ) → cut_here (b ∷ bs) t (suc i) ≡ onto_front b (cut_here bs t i)
cut_here-front b i true bs =
    let e : suc i + 1 ≡ suc (i + 1) = omega arith in
    ap (λ (k : ℕ). Some (b ∷ take i bs, drop k (b ∷ bs))) e
cut_here-front b i false bs = refl

ltb-suc : (i n : ℕ) → ltb (suc i) (suc n) ≡ ltb i n
ltb-suc i n = grind (arith)

cut_at-here : (c b : ℕ) (bs : List ℕ) → eqb b c ≡ true → cut_at c (b ∷ bs) ≡ Some ([], bs)
cut_at-here c b bs e =
    let p : ℕ = position_or_len (λ x. eqb x c) bs in
    let first : ltb 0 (suc (length bs)) ≡ true = grind (arith) in
    ap (λ (t : Bool). cut_here (b ∷ bs) (ltb (cond (not t) (1 + p) 0) (suc (length bs))) (cond (not t) (1 + p) 0)) e
    ∙ ap (λ (t : Bool). cut_here (b ∷ bs) t 0) first

cut_at-later : (c b : ℕ) (bs : List ℕ) → eqb b c ≡ false → cut_at c (b ∷ bs) ≡ onto_front b (cut_at c bs)
cut_at-later c b bs e =
    let p : ℕ = position_or_len (λ x. eqb x c) bs in
    let one : 1 + p ≡ suc p = omega arith in
    ap (λ (t : Bool). cut_here (b ∷ bs) (ltb (cond (not t) (1 + p) 0) (suc (length bs))) (cond (not t) (1 + p) 0)) e
    ∙ ap (λ (k : ℕ). cut_here (b ∷ bs) (ltb k (suc (length bs))) k) one
    ∙ ap (λ (t : Bool). cut_here (b ∷ bs) t (suc p)) (ltb-suc p (length bs))
    ∙ cut_here-front b p (ltb p (length bs)) bs

-- what is cut at a separator
pub record Cuts (c : ℕ) (xs : List ℕ) (parts : List ℕ × List ℕ) : Type 0 where
  pub whole : xs ≡ parts.0 ++ (c ∷ parts.1)
  pub front : NoByte c parts.0

-- what a cut says
abbrev Says : ℕ → List ℕ → Option (List ℕ × List ℕ) → Type 0
Says c xs None = NoByte c xs
Says c xs (Some parts) = Cuts c xs parts

says-later : (c b : ℕ) (bs : List ℕ) (o : Option (List ℕ × List ℕ)) → b ≢ c → Says c bs o → Says c (b ∷ bs) (onto_front b o)
says-later c b bs None ne says = (ne, says)
says-later c b bs (Some parts) ne says = record { whole = ap (λ (x : List ℕ). b ∷ x) says.whole; front = (ne, says.front) }

cut_at-says : (c : ℕ) (xs : List ℕ) → Says c xs (cut_at c xs)
cut_at-says c [] = tt
cut_at-says c (b ∷ bs) =
    elim (cases_Bool (eqb b c)) [
      | inl here ↦
          let e : b ≡ c = eqb-true b c here in
          subst (Says c (b ∷ bs)) (sym (cut_at-here c b bs here)) (record { whole = ap (λ (x : ℕ). x ∷ bs) e; front = tt })
      | inr later ↦
          subst (Says c (b ∷ bs)) (sym (cut_at-later c b bs later)) (says-later c b bs (cut_at c bs) (eqb-false b c later) (cut_at-says c bs))
    ]

-- where there is no cut, there is no separator
pub cut_at-none : (c : ℕ) (xs : List ℕ) → cut_at c xs ≡ None → NoByte c xs
cut_at-none c xs e = subst (Says c xs) e (cut_at-says c xs)

-- where there is one, it is at the first separator
pub cut_at-some : (c : ℕ) (xs : List ℕ) (parts : List ℕ × List ℕ) → cut_at c xs ≡ Some parts → Cuts c xs parts
cut_at-some c xs parts e = subst (Says c xs) e (cut_at-says c xs)

-- what is joined by a separator is cut there
pub cut_at-again : (c : ℕ) (front rest : List ℕ) → NoByte c front → cut_at c (front ++ (c ∷ rest)) ≡ Some (front, rest)
cut_at-again c [] rest none = cut_at-here c c rest (eq-eqb c c refl)
cut_at-again c (b ∷ bs) rest none = cut_at-later c b (bs ++ (c ∷ rest)) (ne_eqb b c none.0) ∙ ap (onto_front b) (cut_at-again c bs rest none.1)

-- the first place of a separator
pub position-none : (c : ℕ) (xs : List ℕ) → position (λ b. eqb b c) xs ≡ None → NoByte c xs
position-none c xs e = cut_at-none c xs (ap (option_map (λ i. (take i xs, drop (i + 1) xs))) e)

pub position-some : (c : ℕ) (xs : List ℕ) (i : ℕ) → position (λ b. eqb b c) xs ≡ Some i → NoByte c (take i xs) × (xs ≡ take i xs ++ (c ∷ drop (i + 1) xs))
position-some c xs i e =
    let cuts = cut_at-some c xs (take i xs, drop (i + 1) xs) (ap (option_map (λ k. (take k xs, drop (k + 1) xs))) e) in
    (cuts.front, cuts.whole)

-- ---- pieces

pieces_of-onto : (c b : ℕ) (bs : List ℕ) → b ≢ c → pieces_of c (b ∷ bs) ≡ onto_first b (pieces_of c bs)
unfolding pieces_of
pieces_of-onto c b bs ne = rw (ne_eqb b c ne) refl

-- where no separator is, all is one piece
pub pieces_of-one : (c : ℕ) (xs : List ℕ) → NoByte c xs → pieces_of c xs ≡ xs ∷ []
unfolding pieces_of
pieces_of-one c [] none = refl
pieces_of-one c (b ∷ bs) none = pieces_of-onto c b bs none.0 ∙ ap (onto_first b) (pieces_of-one c bs none.1)

-- the first piece ends at the first separator
pub pieces_of-first : (c : ℕ) (front rest : List ℕ) → NoByte c front → pieces_of c (front ++ (c ∷ rest)) ≡ front ∷ pieces_of c rest
unfolding pieces_of
pieces_of-first c [] rest none = rw (eq-eqb c c refl) refl
pieces_of-first c (b ∷ bs) rest none = pieces_of-onto c b (bs ++ (c ∷ rest)) none.0 ∙ ap (onto_first b) (pieces_of-first c bs rest none.1)

-- the pieces by a cut
pub pieces_of-none : (c : ℕ) (xs : List ℕ) → cut_at c xs ≡ None → pieces_of c xs ≡ xs ∷ []
pieces_of-none c xs e = pieces_of-one c xs (cut_at-none c xs e)

pub pieces_of-some : (c : ℕ) (xs : List ℕ) (parts : List ℕ × List ℕ) → cut_at c xs ≡ Some parts → pieces_of c xs ≡ parts.0 ∷ pieces_of c parts.1
pieces_of-some c xs parts e =
    let cuts = cut_at-some c xs parts e in
    ap (pieces_of c) cuts.whole ∙ pieces_of-first c parts.0 parts.1 cuts.front

same_onto_first : (b : ℕ) (ps : List (List ℕ)) → onto_first b ps ≡ onto_first_part b ps
same_onto_first b [] = refl
same_onto_first b (p ∷ ps) = refl

pieces_of-split : (c : ℕ) (xs : List ℕ) → pieces_of c xs ≡ slice_split (λ b. eqb b c) xs
unfolding pieces_of
pieces_of-split c [] = refl
pieces_of-split c (b ∷ bs) = ap (λ (ps : List (List ℕ)). cond (eqb b c) ([] ∷ ps) (onto_first b ps)) (pieces_of-split c bs) ∙ ap (cond (eqb b c) ([] ∷ slice_split (λ x. eqb x c) bs)) (same_onto_first b (slice_split (λ x. eqb x c) bs))

-- the pieces, joined by the separator, are all again
pub join-pieces_of : (c : ℕ) (xs : List ℕ) → join_with_byte c (pieces_of c xs) ≡ xs
join-pieces_of c xs = ap (join_with_byte c) (pieces_of-split c xs) ∙ join_with_byte-slice_split c xs

-- ---- lines

lines_of-onto : (b : ℕ) (bs : List ℕ) → b ≢ 10 → lines_of (b ∷ bs) ≡ onto_first b (lines_of bs)
unfolding lines_of
lines_of-onto b bs ne = rw (ne_eqb b 10 ne) refl

-- the first line ends at the first newline
pub lines_of-cut : (line rest : List ℕ) → NoByte 10 line → lines_of (line ++ 10 ∷ rest) ≡ line ∷ lines_of rest
unfolding lines_of
lines_of-cut [] rest none = refl
lines_of-cut (b ∷ bs) rest none = lines_of-onto b (bs ++ 10 ∷ rest) none.0 ∙ ap (onto_first b) (lines_of-cut bs rest none.1)

-- bytes without a newline are one line, where there are any
pub lines_of-last : (b : ℕ) (bs : List ℕ) → NoByte 10 (b ∷ bs) → lines_of (b ∷ bs) ≡ (b ∷ bs) ∷ []
unfolding lines_of
lines_of-last b [] none = lines_of-onto b [] none.0
lines_of-last b (d ∷ ds) none = lines_of-onto b (d ∷ ds) none.0 ∙ ap (onto_first b) (lines_of-last d ds none.1)

-- the first line begins with these bytes, and it is no shorter
record Begins (b : ℕ) (bs : List ℕ) (lines : List (List ℕ)) : Type 0 where
  tail : List ℕ
  others : List (List ℕ)
  are : lines ≡ (b ∷ tail) ∷ others
  long : length bs ≤ length tail

begins-onto : (b : ℕ) (lines : List (List ℕ)) → Begins b [] (onto_first b lines)
begins-onto b [] = record { tail = []; others = []; are = refl; long = omega arith }
begins-onto b (line ∷ lines) = record { tail = line; others = lines; are = refl; long = omega arith }

begins : (b : ℕ) (bs more : List ℕ) → NoByte 10 (b ∷ bs) → Begins b bs (lines_of ((b ∷ bs) ++ more))
begins b [] more none = subst (Begins b []) (sym (lines_of-onto b more none.0)) (begins-onto b (lines_of more))
begins b (d ∷ ds) more none =
    let ih = begins d ds more none.1 in
    record {
      tail = d ∷ ih.tail;
      others = ih.others;
      are = lines_of-onto b ((d ∷ ds) ++ more) none.0 ∙ ap (onto_first b) ih.are;
      long = omega (arith, ih.long);
    }

-- bytes without a newline begin a line that is no shorter
pub lines_of-long : (front more : List ℕ) (n : ℕ) → NoByte 10 front → n < length front → (first : List ℕ) × ((others : List (List ℕ)) × (lines_of (front ++ more) ≡ first ∷ others) × (n < length first))
lines_of-long [] more n none lt = absurd (omega arith)
lines_of-long (b ∷ bs) more n none lt =
    let begin = begins b bs more none in
    (b ∷ begin.tail, (begin.others, begin.are, omega (arith, begin.long)))
