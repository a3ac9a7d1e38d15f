-- Rows beside marks of the same number: those that are marked, and the first victims among the others.
use Rattle.std.proofs.Common.{◌≡◌, ℕ, zero, suc, ◌+◌, ◌-◌, ◌<◌, ◌≤◌, Bool, true, false, cond, not, List, [], ◌∷◌, ◌++◌, length, map, take, append_assoc, append-nil, inl, inr, refl, sym, ap, ◌∙◌, arith}
use Rattle.std.specs.Prelude.{filter, nat_le, ◌⊎◌}
use Rattle.std.proofs.lemmas.Bool.{cond-true, cond-false, le-leb, lt-leb}
use Rattle.std.proofs.lemmas.List.Sums.{sum_by-cons}
use Rattle.digest_types.specs.Name.{HashAndSize}
use Rattle.store_core.specs.declared.state.Row.{Row}
use Rattle.store_core.specs.State.{State, digests, total, sizes, used}
use Rattle.store_core.specs.Pass.{least, frees, victims, guarded, gone, is_guarded}
use Rattle.store_core.specs.Marks.{guard_marks}

-- the rows that are marked
abbrev pub rows_marked : List Row → List Bool → List Row
rows_marked [] marks = []
rows_marked (row ∷ rows) [] = []
rows_marked (row ∷ rows) (mark ∷ marks) = cond mark (row ∷ rows_marked rows marks) (rows_marked rows marks)

-- the digests of those that aren't
abbrev pub digests_unmarked : List Row → List Bool → List HashAndSize
digests_unmarked [] marks = []
digests_unmarked (row ∷ rows) [] = []
digests_unmarked (row ∷ rows) (mark ∷ marks) = cond mark (digests_unmarked rows marks) (row.digest ∷ digests_unmarked rows marks)

marked_by : (g : HashAndSize → Bool) (rows : List Row) → rows_marked rows (map (λ row. g row.digest) rows) ≡ filter (λ row. g row.digest) rows
marked_by g [] = refl
marked_by g (row ∷ rows) = ap (λ xs. cond (g row.digest) (row ∷ xs) xs) (marked_by g rows)

turned : {X : Type 0} (b : Bool) (x y : X) → cond b x y ≡ cond (not b) y x
turned true x y = refl
turned false x y = refl

unmarked_by : (g : HashAndSize → Bool) (rows : List Row) → digests_unmarked rows (map (λ row. g row.digest) rows) ≡ filter (λ d. not (g d)) (digests rows)
unmarked_by g [] = refl
unmarked_by g (row ∷ rows) = ap (λ xs. cond (g row.digest) xs (row.digest ∷ xs)) (unmarked_by g rows) ∙ turned (g row.digest) _ _

-- ---- a sum over the marked ones

pub nothing_marked : (rows : List Row) (marks : List Bool) → (rows ≡ []) ⊎ (marks ≡ []) → rows_marked rows marks ≡ []
nothing_marked [] marks end = refl
nothing_marked (row ∷ rows) [] end = refl
nothing_marked (row ∷ rows) (mark ∷ marks) (inl e) = absurd cc
nothing_marked (row ∷ rows) (mark ∷ marks) (inr e) = absurd cc

fits_by : (mark : Bool) (row : Row) (rows some : List Row) → sizes some ≤ sizes rows → sizes (cond mark (row ∷ some) some) ≤ sizes (row ∷ rows)
fits_by true row rows some h = omega (arith, sum_by-cons (λ (r : Row). r.digest.size) row rows, sum_by-cons (λ (r : Row). r.digest.size) row some)
fits_by false row rows some h = omega (arith, sum_by-cons (λ (r : Row). r.digest.size) row rows)

marked_fit : (rows : List Row) (marks : List Bool) → sizes (rows_marked rows marks) ≤ sizes rows
marked_fit [] marks = omega arith
marked_fit (row ∷ rows) [] = omega arith
marked_fit (row ∷ rows) (mark ∷ marks) = fits_by mark row rows (rows_marked rows marks) (marked_fit rows marks)

-- the sum so far with that of the rest is that of all
pub record Sums (bytes : ℕ) (rest : List Row) (rest_marks : List Bool) (rows : List Row) (marks : List Bool) : Type 0 where
  pub all : bytes + sizes (rows_marked rest rest_marks) ≡ sizes (rows_marked rows marks)

pub sums_none : (rest rows : List Row) (rest_marks marks : List Bool) → rest ≡ rows → rest_marks ≡ marks → Sums 0 rest rest_marks rows marks
sums_none rest rows rest_marks marks e f = record { all = omega (arith, ap (λ (xs : List Row). sizes (rows_marked xs rest_marks)) e, ap (λ (ms : List Bool). sizes (rows_marked rows ms)) f) }

more_by : (bytes : ℕ) (row : Row) (some : List Row) (mark : Bool) → mark ≡ true → bytes + sizes (cond mark (row ∷ some) some) ≡ (bytes + row.digest.size) + sizes some
more_by bytes row some true e = omega (arith, sum_by-cons (λ (r : Row). r.digest.size) row some)
more_by bytes row some false e = absurd cc

pub sums_marked : (bytes size : ℕ) (row : Row) (mark : Bool) (rest next rows : List Row) (rest_marks next_marks marks : List Bool) → mark ≡ true → size ≡ row.digest.size → rest ≡ row ∷ next → rest_marks ≡ mark ∷ next_marks
    → Sums bytes rest rest_marks rows marks → Sums (bytes + size) next next_marks rows marks
sums_marked bytes size row mark rest next rows rest_marks next_marks marks is count e f s =
    let here : sizes (rows_marked rest rest_marks) ≡ sizes (rows_marked (row ∷ next) (mark ∷ next_marks)) = ap (λ (xs : List Row). sizes (rows_marked xs rest_marks)) e ∙ ap (λ (ms : List Bool). sizes (rows_marked (row ∷ next) ms)) f in
    record { all = omega (arith, here, s.all, more_by bytes row (rows_marked next next_marks) mark is) }

pub sums_other : (bytes : ℕ) (row : Row) (mark : Bool) (rest next rows : List Row) (rest_marks next_marks marks : List Bool) → mark ≡ false → rest ≡ row ∷ next → rest_marks ≡ mark ∷ next_marks
    → Sums bytes rest rest_marks rows marks → Sums bytes next next_marks rows marks
sums_other bytes row mark rest next rows rest_marks next_marks marks is e f s =
    let here : sizes (rows_marked rest rest_marks) ≡ sizes (rows_marked (row ∷ next) (mark ∷ next_marks)) = ap (λ (xs : List Row). sizes (rows_marked xs rest_marks)) e ∙ ap (λ (ms : List Bool). sizes (rows_marked (row ∷ next) ms)) f in
    let skip : sizes (rows_marked (row ∷ next) (mark ∷ next_marks)) ≡ sizes (rows_marked next next_marks) = ap sizes (cond-false mark (row ∷ rows_marked next next_marks) (rows_marked next next_marks) is) in
    record { all = omega (arith, here, skip, s.all) }

pub sums_fit : (bytes size : ℕ) (row : Row) (mark : Bool) (rest next rows : List Row) (rest_marks next_marks marks : List Bool) → mark ≡ true → size ≡ row.digest.size → rest ≡ row ∷ next → rest_marks ≡ mark ∷ next_marks
    → Sums bytes rest rest_marks rows marks → bytes + size ≤ sizes rows
sums_fit bytes size row mark rest next rows rest_marks next_marks marks is count e f s =
    let t = sums_marked bytes size row mark rest next rows rest_marks next_marks marks is count e f s in
    omega (arith, t.all, marked_fit rows marks)

pub sums_all : (bytes : ℕ) (rest rows : List Row) (rest_marks marks : List Bool) (s : State) → (rest ≡ []) ⊎ (rest_marks ≡ []) → rows ≡ s.rows → marks ≡ guard_marks s → Sums bytes rest rest_marks rows marks → bytes ≡ guarded s
sums_all bytes rest rows rest_marks marks s end e f t =
    let none : sizes (rows_marked rest rest_marks) ≡ 0 = ap sizes (nothing_marked rest rest_marks end) in
    let all : sizes (rows_marked rows marks) ≡ guarded s =
    ap (λ (xs : List Row). sizes (rows_marked xs marks)) e ∙ ap (λ (ms : List Bool). sizes (rows_marked s.rows ms)) f ∙ ap sizes (marked_by (is_guarded s) s.rows) in
    omega (arith, none, all, t.all)

-- ---- the first victims of the others

least_same : (p q : ℕ → Bool) (n : ℕ) → ((k : ℕ) → p k ≡ q k) → least p n ≡ least q n
unfolding least
least_same p q zero h = refl
least_same p q (suc n) h = ap (λ b. cond b 0 (suc (least (λ k. p (suc k)) n))) (h 0) ∙ ap (λ m. cond (q 0) 0 (suc m)) (least_same (λ k. p (suc k)) (λ k. q (suc k)) n (λ k. h (suc k)))

-- the digests that go of these, where so many bytes are used
abbrev pub going : List HashAndSize → ℕ → ℕ → List HashAndSize
going ds bytes target = take (victims ds bytes target) ds

pub going_none : (ds : List HashAndSize) (bytes target : ℕ) → bytes ≤ target → going ds bytes target ≡ []
unfolding victims least
going_none [] bytes target low = refl
going_none (d ∷ ds) bytes target low =
    ap (λ b. take (cond b 0 (suc (least (λ k. frees (d ∷ ds) bytes target (suc k)) (length ds)))) (d ∷ ds)) (le-leb (bytes - 0) target (omega arith))

pub frees_later : (d : HashAndSize) (ds : List HashAndSize) (bytes target k : ℕ) → frees (d ∷ ds) bytes target (suc k) ≡ frees ds (bytes - d.size) target k
frees_later d ds bytes target k =
    let left : bytes - total (d ∷ take k ds) ≡ bytes - d.size - total (take k ds) = omega (arith, sum_by-cons (λ (x : HashAndSize). x.size) d (take k ds)) in
    ap (λ (n : ℕ). nat_le n target) left

pub going_first : (d : HashAndSize) (ds : List HashAndSize) (bytes target : ℕ) → target < bytes → going (d ∷ ds) bytes target ≡ d ∷ going ds (bytes - d.size) target
unfolding victims least
going_first d ds bytes target high =
    ap (λ b. take (cond b 0 (suc (least (λ k. frees (d ∷ ds) bytes target (suc k)) (length ds)))) (d ∷ ds)) (lt-leb (bytes - 0) target (omega arith))
    ∙ ap (λ n. d ∷ take n ds) (least_same (λ k. frees (d ∷ ds) bytes target (suc k)) (frees ds (bytes - d.size) target) (length ds) (frees_later d ds bytes target))

-- those so far and those of the rest that go are all that go, and the bytes of the rest are still counted
pub record Goes (so_far : List HashAndSize) (left target : ℕ) (rest : List Row) (rest_marks : List Bool) (bytes : ℕ) (rows : List Row) (marks : List Bool) : Type 0 where
  pub all : so_far ++ going (digests_unmarked rest rest_marks) left target ≡ going (digests_unmarked rows marks) bytes target
  pub counted : sizes rest ≤ left

pub goes_none : (so_far : List HashAndSize) (target : ℕ) (rest : List Row) (rest_marks : List Bool) (bytes : ℕ) (rows : List Row) (marks : List Bool) → so_far ≡ [] → rest ≡ rows → rest_marks ≡ marks → bytes ≡ sizes rows
    → Goes so_far bytes target rest rest_marks bytes rows marks
goes_none so_far target rest rest_marks bytes rows marks none e f count = record {
  all = ap (λ (ds : List HashAndSize). ds ++ going (digests_unmarked rest rest_marks) bytes target) none
      ∙ ap (λ (xs : List Row). going (digests_unmarked xs rest_marks) bytes target) e ∙ ap (λ (ms : List Bool). going (digests_unmarked rows ms) bytes target) f;
  counted = omega (arith, ap sizes e);
}

module _ (so_far : List HashAndSize) (left target : ℕ) (rest : List Row) (rest_marks : List Bool) (bytes : ℕ) (rows : List Row) (marks : List Bool) (row : Row) (mark : Bool) (next : List Row) (next_marks : List Bool)
    (e : rest ≡ row ∷ next) (f : rest_marks ≡ mark ∷ next_marks) (goes : Goes so_far left target rest rest_marks bytes rows marks) where
  here : digests_unmarked rest rest_marks ≡ cond mark (digests_unmarked next next_marks) (row.digest ∷ digests_unmarked next next_marks)
  here = ap (λ (xs : List Row). digests_unmarked xs rest_marks) e ∙ ap (λ (ms : List Bool). digests_unmarked (row ∷ next) ms) f

  bytes_here : sizes rest ≡ row.digest.size + sizes next
  bytes_here = ap sizes e ∙ sum_by-cons (λ (r : Row). r.digest.size) row next

  -- a marked row stays
  pub goes_past : mark ≡ true → Goes so_far left target next next_marks bytes rows marks
  goes_past is = record {
    all = ap (λ (ds : List HashAndSize). so_far ++ going ds left target) (sym (here ∙ cond-true mark _ _ is)) ∙ goes.all;
    counted = omega (arith, bytes_here, goes.counted);
  }

  -- the size of the next row is counted
  pub size_counted : (size : ℕ) → size ≡ row.digest.size → size ≤ left
  size_counted size count = omega (arith, bytes_here, goes.counted)

  -- another row goes
  pub goes_more : (size : ℕ) (more : List HashAndSize) → size ≡ row.digest.size → mark ≡ false → target < left → more ≡ so_far ++ row.digest ∷ [] → Goes more (left - size) target next next_marks bytes rows marks
  goes_more size more count other high is =
      let ds = digests_unmarked next next_marks in
      record {
        all = ap (λ (xs : List HashAndSize). xs ++ going ds (left - size) target) is
            ∙ append_assoc so_far (row.digest ∷ []) (going ds (left - size) target)
            ∙ ap (λ (n : ℕ). so_far ++ row.digest ∷ going ds (left - n) target) count
            ∙ ap (λ (xs : List HashAndSize). so_far ++ xs) (sym (ap (λ (xs : List HashAndSize). going xs left target) (here ∙ cond-false mark _ _ other) ∙ going_first row.digest ds left target high))
            ∙ goes.all;
        counted = omega (arith, bytes_here, goes.counted);
      }

nothing_unmarked : (rows : List Row) (marks : List Bool) → (rows ≡ []) ⊎ (marks ≡ []) → digests_unmarked rows marks ≡ []
nothing_unmarked [] marks end = refl
nothing_unmarked (row ∷ rows) [] end = refl
nothing_unmarked (row ∷ rows) (mark ∷ marks) (inl e) = absurd cc
nothing_unmarked (row ∷ rows) (mark ∷ marks) (inr e) = absurd cc

nothing_goes : (bytes target : ℕ) → going [] bytes target ≡ []
unfolding victims least
nothing_goes bytes target = refl

going_all : (rows : List Row) (marks : List Bool) (bytes target : ℕ) (s : State) → rows ≡ s.rows → marks ≡ guard_marks s → bytes ≡ sizes rows → going (digests_unmarked rows marks) bytes target ≡ gone s target
going_all rows marks bytes target s e f count =
    ap (λ (n : ℕ). going (digests_unmarked rows marks) n target) (count ∙ ap sizes e)
    ∙ ap (λ (xs : List Row). going (digests_unmarked xs marks) (used s) target) e ∙ ap (λ (ms : List Bool). going (digests_unmarked s.rows ms) (used s) target) f
    ∙ ap (λ (ds : List HashAndSize). going ds (used s) target) (unmarked_by (is_guarded s) s.rows)

-- no row is left
pub goes_all : (so_far : List HashAndSize) (left target : ℕ) (rest : List Row) (rest_marks : List Bool) (bytes : ℕ) (rows : List Row) (marks : List Bool) (s : State) → (rest ≡ []) ⊎ (rest_marks ≡ []) → rows ≡ s.rows → marks ≡ guard_marks s → bytes ≡ sizes rows
    → Goes so_far left target rest rest_marks bytes rows marks → so_far ≡ gone s target
goes_all so_far left target rest rest_marks bytes rows marks s end e f count goes =
    sym (append-nil so_far)
    ∙ ap (λ (xs : List HashAndSize). so_far ++ xs) (sym (ap (λ (ds : List HashAndSize). going ds left target) (nothing_unmarked rest rest_marks end) ∙ nothing_goes left target))
    ∙ goes.all ∙ going_all rows marks bytes target s e f count

-- no more bytes are left than the target
pub goes_enough : (so_far : List HashAndSize) (left target : ℕ) (rest : List Row) (rest_marks : List Bool) (bytes : ℕ) (rows : List Row) (marks : List Bool) (s : State) → left ≤ target → rows ≡ s.rows → marks ≡ guard_marks s → bytes ≡ sizes rows
    → Goes so_far left target rest rest_marks bytes rows marks → so_far ≡ gone s target
goes_enough so_far left target rest rest_marks bytes rows marks s low e f count goes =
    sym (append-nil so_far)
    ∙ ap (λ (xs : List HashAndSize). so_far ++ xs) (sym (going_none (digests_unmarked rest rest_marks) left target low))
    ∙ goes.all ∙ going_all rows marks bytes target s e f count
