-- The changes that the code makes, in the words of a step.
use Rattle.std.proofs.Common.{◌≡◌, ◌≢◌, ℕ, ◌+◌, ◌-◌, ◌^◌, ◌≤◌, Bool, true, false, cond, not, max, min, List, [], ◌∷◌, ◌++◌, length, length-append, Option, Some, None, refl, sym, ap, subst, ◌∙◌, arith}
use Rattle.std.specs.Prelude.{nat_lt, is_some, if◌then◌else◌, Result, Ok, Err, OnOk, OnErr}
use Rattle.std.proofs.lemmas.Bool.{cond_both, cond-true, cond-false, le-ltb, not_from_false}
use Rattle.std.proofs.lemmas.List.Elements.{filter-append}
use Rattle.std.proofs.lemmas.List.Sums.{sum_by_push}
use Rattle.digest_types.specs.Name.{HashAndSize}
use Rattle.digest_types.specs.Digest.{digest_of}
use Rattle.directory_canon.specs.declared.node.Edge.{Edge}
use Rattle.store_core.specs.declared.state.Row.{Row}
use Rattle.store_core.specs.declared.event.Reply.{Reply}
use Rattle.store_core.specs.declared.event.Reply.TheVariants as replies
use Rattle.store_core.specs.State.{State, Holds, Valid, IsKept, is_empty, is_among, row_of, has_row, others, digests, sizes, used}
use Rattle.store_core.specs.Pass.{is_guarded, guarded, unguarded, victims, gone, without, pass}
use Rattle.store_core.specs.Step.{with_room, with_row, is_open, put_over, put, read, touched, is_here, tells_there, holds_after, holding}
use Rattle.store_core.proofs.Elements.{every_filter, every_has, every_map, every_take, filter_all}
use Rattle.store_core.proofs.HeldRows.{has_last}
use Rattle.store_core.proofs.Kept.{Follows, follows_again, follows_added, follows_pass, valid_after_use}
use Rattle.store_core.proofs.OwnerLaws.{open_has}
use Rattle.store_core.proofs.Passes.{not_among}
use Rattle.store_core.proofs.RowLaws.{absent, sizes_filter}
use Rattle.store_core.proofs.Same.{other_from_not_same}

pub kept_follows : (s t : State) → Follows s t → IsKept s → IsKept t
kept_follows s t f k = record {
  valid = f.valid k.valid;
  within = let most = max s.high (2 ^ 60) in let kept = f.within most k.valid (omega arith) k.within in omega (arith, kept, f.high);
}

-- ---- holds

-- a hold is added where the reply says that the blob is there
pub used_is : (t : State) (owner : ℕ) (d : HashAndSize) (reply : Reply) (holds : List Holds) → tells_there reply ≡ true → holds ≡ holds_after t.guard owner d t.holds
    → (reply, record t { holds = holds }) ≡ holding owner d (reply, t)
used_is t owner d reply holds there e =
    let after : State = record t { holds = holds_after t.guard owner d t.holds } in
    ap (λ (xs : List Holds). (reply, record t { holds = xs })) e ∙ ap (λ (u : State). (reply, u)) (sym (cond-true (tells_there reply) after t there))

-- and none where it doesn't
pub unused_is : (t : State) (owner : ℕ) (d : HashAndSize) (reply : Reply) → tells_there reply ≡ false → (reply, t) ≡ holding owner d (reply, t)
unused_is t owner d reply absent =
    let after : State = record t { holds = holds_after t.guard owner d t.holds } in
    ap (λ (u : State). (reply, u)) (sym (cond-false (tells_there reply) after t absent))

told_by : (b : Bool) → tells_there (cond b replies.Present replies.Repaired) ≡ true
told_by true = refl
told_by false = refl

-- a blob with a row that is put with the hold there already
pub again_used : (s : State) (owner : ℕ) (d : HashAndSize) (edges : Option (List Edge)) (o : Option Row) → is_some o ≡ true
    → put_over (record s { holds = holds_after s.guard owner d s.holds }) d edges o ≡ holding owner d (put_over s d edges o)
again_used s owner d edges None there = absurd cc
again_used s owner d edges (Some row) there =
    let reply = cond row.sound replies.Present replies.Repaired in
    let after = with_row (record s { rows = others d s.rows }) (record row { sound = true }) in
    used_is after owner d reply (holds_after s.guard owner d s.holds) (told_by row.sound) refl

-- and one that is read so
pub read_used : (s : State) (owner : ℕ) (d : HashAndSize) → is_here s.rows d ≡ true → read (record s { holds = holds_after s.guard owner d s.holds }) d ≡ holding owner d (read s d)
read_used s owner d here =
    let held : State = record s { holds = holds_after s.guard owner d s.holds } in
    let found : Reply × State = (replies.Found, record s { rows = touched d s.rows }) in
    cond-true (is_here s.rows d) (replies.Found, record held { rows = touched d s.rows }) (replies.Absent, held) here
    ∙ ap (holding owner d) (sym (cond-true (is_here s.rows d) found (replies.Absent, s) here))

pub used_keeps : (t : State) (owner : ℕ) (d : HashAndSize) (holds : List Holds) → is_open t owner ≡ true → (is_empty d ≡ false → has_row t.rows d ≡ true) → holds ≡ holds_after t.guard owner d t.holds → IsKept t
    → IsKept (record t { holds = holds })
used_keeps t owner d holds there row e kept =
    let valid : Valid (record t { holds = holds_after t.guard owner d t.holds }) = valid_after_use t owner d (open_has t owner there) row kept.valid in
    subst (λ (xs : List Holds). IsKept (record t { holds = xs })) (sym e) (record { valid = valid; within = kept.within })

-- the same by the outcome
pub held_keeps : {E : Type 0} (s : State) (owner : ℕ) (d : HashAndSize) (r : Result (Unit {0}) E) (holds : List Holds) → is_open s owner ≡ true → (is_empty d ≡ false → has_row s.rows d ≡ true)
    → OnOk r (holds ≡ holds_after s.guard owner d s.holds) → OnErr r (holds ≡ s.holds) → IsKept s → IsKept (record s { holds = holds })
held_keeps s owner d (Ok tt) holds there row ok err kept = used_keeps s owner d holds there row ok kept
held_keeps s owner d (Err e) holds there row ok err kept = subst (λ (xs : List Holds). IsKept (record s { holds = xs })) (sym err) kept

-- In each, `now` is the state that contracts see, and s the same by the fields.

-- ---- a blob with a row

again_by : (s : State) (d : HashAndSize) (edges : Option (List Edge)) (o : Option Row) (row : Row) (reply : Reply) → o ≡ Some row → reply ≡ cond row.sound replies.Present replies.Repaired
    → (reply, record s { rows = others d s.rows ++ record row { sound = true } ∷ [] }) ≡ put_over s d edges o
again_by s d edges o row reply e said =
    let name : (reply, record s { rows = others d s.rows ++ record row { sound = true } ∷ [] }) ≡ put_over s d edges (Some row) =
    ap (λ (r : Reply). (r, record s { rows = others d s.rows ++ record row { sound = true } ∷ [] })) said in
    name ∙ ap (put_over s d edges) (sym e)

pub again_is : (s now : State) (d : HashAndSize) (edges : Option (List Edge)) (row : Row) (reply : Reply) (rows : List Row) → s ≡ now → row_of d s.rows ≡ Some row → reply ≡ cond row.sound replies.Present replies.Repaired
    → rows ≡ others d s.rows ++ record row { sound = true } ∷ [] → (reply, record s { rows = rows }) ≡ put_over now d edges (row_of d now.rows)
again_is s now d edges row reply rows e there said moved =
    ap (λ (xs : List Row). (reply, record s { rows = xs })) moved
    ∙ again_by s d edges (row_of d s.rows) row reply there said
    ∙ ap (λ (t : State). put_over t d edges (row_of d t.rows)) e

pub again_keeps : (s : State) (d : HashAndSize) (row : Row) (rows : List Row) → row_of d s.rows ≡ Some row → rows ≡ others d s.rows ++ record row { sound = true } ∷ [] → IsKept s → IsKept (record s { rows = rows })
again_keeps s d row rows there moved kept =
    subst (λ (xs : List Row). IsKept (record s { rows = xs })) (sym moved) (kept_follows s (with_row (record s { rows = others d s.rows }) (record row { sound = true })) (follows_again s d row there) kept)

-- ---- a pass

pub guarded_within : (s : State) → guarded s ≤ used s
guarded_within s = sizes_filter (λ row. is_guarded s row.digest) s.rows

pub pass_keeps : (s : State) (target : ℕ) (ds : List HashAndSize) (rows : List Row) → ds ≡ gone s target → rows ≡ without ds s.rows → IsKept s → IsKept (record s { rows = rows })
pass_keeps s target ds rows goes left kept =
    subst (λ (xs : List Row). IsKept (record s { rows = xs })) (sym (left ∙ ap (λ (es : List HashAndSize). without es s.rows) goes)) (kept_follows s (pass s target) (follows_pass s target) kept)

-- ---- a blob with no row

-- the digests that go for so many bytes
abbrev pub room_of : State → ℕ → List HashAndSize
room_of s size = if nat_lt s.high (used s + size) then gone s (min s.low (s.high - size)) else []

abbrev pub new_row : HashAndSize → Option (List Edge) → Row
new_row d edges = record { digest = d; edges = edges; sound = true }

room_by : (s : State) (target : ℕ) (b : Bool) → cond b (pass s target) s ≡ record s { rows = without (cond b (gone s target) []) s.rows }
room_by s target true = refl
room_by s target false =
    ap (λ (rows : List Row). record s { rows = rows }) (sym (filter_all (λ row. not (is_among [] row.digest)) s.rows (every_has (λ row. not (is_among [] row.digest) ≡ true) s.rows (λ row has. refl))))

-- room changes the rows alone
room_is : (s : State) (size : ℕ) → with_room s size ≡ record s { rows = without (room_of s size) s.rows }
room_is s size = room_by s (min s.low (s.high - size)) (nat_lt s.high (used s + size))

-- a digest without a row isn't among those that go
gone_other : (s : State) (target : ℕ) (d : HashAndSize) → row_of d s.rows ≡ None → is_among (gone s target) d ≡ false
gone_other s target d none =
    not_among (gone s target) d
    (every_take (λ x. x ≢ d) (victims (unguarded s) (used s) target) (unguarded s)
    (every_filter (λ x. x ≢ d) (λ x. not (is_guarded s x)) (digests s.rows)
    (every_map (λ (row : Row). row.digest ≢ d) (λ x. x ≢ d) (λ (row : Row). row.digest) (λ row n. n) s.rows (absent d s.rows none))))

room_other : (s : State) (size : ℕ) (d : HashAndSize) → row_of d s.rows ≡ None → is_among (room_of s size) d ≡ false
room_other s size d none =
    cond_both (nat_lt s.high (used s + size)) (gone s (min s.low (s.high - size))) [] (λ ds. is_among ds d ≡ false) (λ _. gone_other s (min s.low (s.high - size)) d none) (λ _. refl)

pub without_last : (ds : List HashAndSize) (rows : List Row) (row : Row) → is_among ds row.digest ≡ false → without ds (rows ++ row ∷ []) ≡ without ds rows ++ row ∷ []
without_last ds rows row other =
    filter-append (λ (r : Row). not (is_among ds r.digest)) rows (row ∷ [])
    ∙ ap (λ (xs : List Row). without ds rows ++ xs) (cond-true (not (is_among ds row.digest)) (row ∷ []) [] (not_from_false (is_among ds row.digest) other))

stored_is : (m n b c : ℕ) (s t : State) → m ≡ n → b ≡ c → s ≡ t → ◌≡◌ {A = Reply × State} (replies.Stored m b, s) (replies.Stored n c, t)
stored_is m n b c s t e f g = cc

-- a put of a new blob that fits beside the guarded ones
fits_is : (s : State) (d : HashAndSize) (edges : Option (List Edge)) → nat_lt s.high (guarded s + d.size) ≡ false
    → (replies.Stored (length s.rows - length (with_room s d.size).rows) (used (with_room s d.size) + d.size), with_row (with_room s d.size) (new_row d edges)) ≡ put_over s d edges None
fits_is s d edges fits = sym (cond-false (nat_lt s.high (guarded s + d.size)) (replies.NoSpace (guarded s) d.size s.high, s) _ fits)

-- a row was added, and those of the digests went for it
pub record Adds (s : State) (d : HashAndSize) (edges : Option (List Edge)) (ds : List HashAndSize) (pushed rows : List Row) : Type 0 where
  pub none : row_of d s.rows ≡ None
  pub filled : is_empty d ≡ false
  pub small : guarded s + d.size ≤ s.high
  pub goes : ds ≡ room_of s d.size
  pub last : pushed ≡ s.rows ++ new_row d edges ∷ []
  pub left : rows ≡ without ds pushed

pub adds_from : (s now : State) (d : HashAndSize) (edges : Option (List Edge)) (bytes size : ℕ) (room ds : List HashAndSize) (row : Row) (pushed rows : List Row) → s ≡ now → IsKept s → row_of d now.rows ≡ None → is_empty d ≡ false
    → bytes ≡ guarded s → size ≡ d.size → bytes + size ≤ s.high → room ≡ room_of now size → ds ≡ room → row ≡ new_row d edges → pushed ≡ s.rows ++ row ∷ [] → rows ≡ without ds pushed
    → Adds s d edges ds pushed rows
adds_from s now d edges bytes size room ds row pushed rows e kept none filled counted is fits made held row_is last left = record {
  none = ap (λ (t : State). row_of d t.rows) e ∙ none;
  filled = filled;
  small = omega arith;
  goes = held ∙ made ∙ ap (room_of now) is ∙ ap (λ (t : State). room_of t d.size) (sym e);
  last = last ∙ ap (λ (r : Row). s.rows ++ r ∷ []) row_is;
  left = left;
}

module _ (s : State) (d : HashAndSize) (edges : Option (List Edge)) (ds : List HashAndSize) (pushed rows : List Row) (a : Adds s d edges ds pushed rows) where
  added_state : record s { rows = rows } ≡ with_row (with_room s d.size) (new_row d edges)
  added_state =
      let row = new_row d edges in
      let room = room_of s d.size in
      let is : rows ≡ without room s.rows ++ row ∷ [] =
      a.left ∙ ap (without ds) a.last ∙ ap (λ (es : List HashAndSize). without es (s.rows ++ row ∷ [])) a.goes ∙ without_last room s.rows row (room_other s d.size d a.none) in
      ap (λ (xs : List Row). record s { rows = xs }) is ∙ ap (λ (t : State). with_row t row) (sym (room_is s d.size))

  pub added_keeps : IsKept s → IsKept (record s { rows = rows })
  added_keeps kept =
      let row = new_row d edges in
      subst IsKept (sym added_state) (kept_follows s (with_row (with_room s d.size) row) (follows_added s row a.none (other_from_not_same d (digest_of []) a.filled) a.small) kept)

  pub added_row : has_row rows d ≡ true
  added_row = ap (λ (t : State). has_row t.rows d) added_state ∙ has_last d (with_room s d.size).rows (new_row d edges) refl

  -- the rows that were removed, and the bytes that are used
  added_counts : (removed bytes : ℕ) → removed ≡ length pushed - length rows → bytes ≡ sizes rows
      → (removed ≡ length s.rows - length (with_room s d.size).rows) × (bytes ≡ used (with_room s d.size) + d.size)
  added_counts removed bytes count counted =
      let row = new_row d edges in
      let t = with_room s d.size in
      let is : rows ≡ t.rows ++ row ∷ [] = ap (λ (u : State). u.rows) added_state in (
        omega (arith, ap length is, ap length a.last, length-append s.rows (row ∷ []), length-append t.rows (row ∷ [])),
        counted ∙ ap sizes is ∙ sum_by_push (λ (r : Row). r.digest.size) t.rows row,
      )

  pub added_is : (now : State) (removed bytes : ℕ) → s ≡ now → removed ≡ length pushed - length rows → bytes ≡ sizes rows → (replies.Stored removed bytes, record s { rows = rows }) ≡ put_over now d edges None
  added_is now removed bytes e count counted =
      let counts = added_counts removed bytes count counted in
      let fits : nat_lt s.high (guarded s + d.size) ≡ false = le-ltb _ _ a.small in
      stored_is removed (length s.rows - length (with_room s d.size).rows) bytes (used (with_room s d.size) + d.size) (record s { rows = rows }) (with_row (with_room s d.size) (new_row d edges)) counts.0 counts.1 added_state
      ∙ fits_is s d edges fits
      ∙ ap (λ (u : State). put_over u d edges None) e

pub put_new_is : (s : State) (d : HashAndSize) (edges : Option (List Edge)) → is_empty d ≡ false → row_of d s.rows ≡ None → put_over s d edges None ≡ put s d edges
unfolding put
put_new_is s d edges filled absent =
    ap (put_over s d edges) (sym absent) ∙ sym (cond-false (is_empty d) (replies.Present, s) (put_over s d edges (row_of d s.rows)) filled)
