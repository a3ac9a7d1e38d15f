-- Rows of an index that are kept, and one that is added.
use Rattle.std.proofs.Common.{◌≡◌, ◌≢◌, ℕ, ◌+◌, ◌≤◌, ◌^◌, Bool, true, false, cond, not, ◌&&◌, ◌||◌, List, [], ◌∷◌, ◌++◌, map, Option, Some, None, refl, sym, ap, subst, ◌∙◌, arith}
use Rattle.std.specs.Prelude.{filter, find, is_some, unwrap_or}
use Rattle.std.specs.List.{AllByRecursion, list_any}
use Rattle.std.proofs.lemmas.Bool.{cond-true, cond-false, not_from_false, or_parts}
use Rattle.std.proofs.lemmas.List.{map-append}
use Rattle.std.proofs.lemmas.List.Elements.{filter-append, filter_passes, recursion_from_All}
use Rattle.std.proofs.lemmas.List.Folds.{list_any-append}
use Rattle.std.proofs.lemmas.List.Sums.{sum_by_push}
use Rattle.std.proofs.lemmas.Map.Views.{any-filter_same}
use Rattle.digest_types.specs.Name.{HashAndSize}
use Rattle.directory_canon.specs.declared.node.Edge.{Edge}
use Rattle.store_core.specs.declared.state.Row.{Row}
use Rattle.store_core.specs.State.{same, is_among, sizes, total, has_row}
use Rattle.store_core.specs.Pass.{without}
use Rattle.store_core.specs.Reach.{Linked}
use Rattle.store_core.proofs.Elements.{every_weaker, filter_of_map, find_kept}
use Rattle.store_core.proofs.ReachLaws.{every}
use Rattle.store_core.proofs.Same.{equal_from_same, not_same_from_other, same_itself}
use Rattle.store_core.proofs.Guarding.{same_swap}
use Rattle.store_core.proofs.Changes.{new_row}
use Rattle.lease_table.specs.Table as table
use Rattle.lease_table.specs.Table.{is_blob, other_digests}
use Rattle.lease_table.proofs.OrderLaws.{apart, distinct_kept, distinct_more}
use Rattle.lease_table.proofs.RowLaws as blob_laws
use Rattle.lease_table.proofs.RowLaws.{distinct_filter, distinct_push}
use Rattle.indexed_core.specs.Joined.{Soundness, IsJoined, edges_if, edges_in, row_in, rows_in, sound_in, with_flag, kept_flags}
use Rattle.indexed_core.specs.Parts.{Parts, Guards}
use Rattle.indexed_core.proofs.HeldLaws.{among_kept, kept_total, rows_total, total_kept}
use Rattle.indexed_core.proofs.JoinedLaws.{row_among}

-- ---- rows that are kept

-- in each, `keep` says which digests stay

blobs_kept : (keep : HashAndSize → Bool) (there : List Linked) (d : HashAndSize) → list_any (is_blob d) (filter (λ blob. keep blob.digest) there) ≡ (keep d && list_any (is_blob d) there)
blobs_kept keep there d = any-filter_same (is_blob d) (λ (blob : Linked). keep blob.digest) (keep d) (λ blob e. ap keep (equal_from_same blob.digest d e)) there

flags_kept : (keep : HashAndSize → Bool) (flags : Soundness) (d : HashAndSize) → is_some (kept_flags keep flags d) ≡ (keep d && is_some (flags d))
flags_kept keep flags d = by (keep d)
  where
    by : (b : Bool) → is_some (cond b (flags d) None) ≡ (b && is_some (flags d))
    by true = refl
    by false = refl

sound_kept : (keep : HashAndSize → Bool) (flags : Soundness) (d : HashAndSize) → keep d ≡ true → sound_in (kept_flags keep flags) d ≡ sound_in flags d
sound_kept keep flags d stays = ap (λ (b : Bool). unwrap_or (cond b (flags d) None) false) stays

edges_kept : (keep : HashAndSize → Bool) (there : List Linked) (d : HashAndSize) → keep d ≡ true → edges_in (filter (λ blob. keep blob.digest) there) d ≡ edges_in there d
edges_kept keep there d stays =
    ap edges_if (find_kept (is_blob d) (λ blob. keep blob.digest) there
    (every (λ (blob : Linked). is_blob d blob ≡ true → keep blob.digest ≡ true) (λ blob e. ap keep (equal_from_same blob.digest d e) ∙ stays) there))

row_by : (d : HashAndSize) (edges next : Option (List Edge)) (sound now : Bool) → edges ≡ next → sound ≡ now
    → ◌≡◌ {A = Row} (record { digest = d; edges = edges; sound = sound }) (record { digest = d; edges = next; sound = now })
row_by d edges next sound now e f = cc

rows_by : (ds : List HashAndSize) (f g : HashAndSize → Row) → AllByRecursion (λ d. f d ≡ g d) ds → map f ds ≡ map g ds
rows_by [] f g h = refl
rows_by (d ∷ ds) f g h = let first = h.0 in let rest = rows_by ds f g h.1 in cc

-- the rows of what is kept
pub rows_kept : (keep : HashAndSize → Bool) (order : List HashAndSize) (there : List Linked) (flags : Soundness)
    → rows_in (filter keep order) (filter (λ blob. keep blob.digest) there) (kept_flags keep flags) ≡ filter (λ row. keep row.digest) (rows_in order there flags)
rows_kept keep order there flags =
    rows_by (filter keep order) (row_in (filter (λ blob. keep blob.digest) there) (kept_flags keep flags)) (row_in there flags)
    (every_weaker (λ d. keep d ≡ true) _ (λ d stays. row_by d _ _ _ _ (edges_kept keep there d stays) (sound_kept keep flags d stays)) (filter keep order)
    (recursion_from_All (λ d. keep d ≡ true) (filter keep order) (filter_passes keep order)))
    ∙ sym (filter_of_map (row_in there flags) (λ (row : Row). keep row.digest) order)

-- what is kept goes together
pub joined_kept : (keep : HashAndSize → Bool) (order : List HashAndSize) (there : List Linked) (flags : Soundness) (used : ℕ) → IsJoined order there flags used
    → IsJoined (filter keep order) (filter (λ blob. keep blob.digest) there) (kept_flags keep flags) (total (filter keep order))
joined_kept keep order there flags used joined = record {
  distinct = distinct_kept keep order joined.distinct;
  distinct_blobs = distinct_filter (λ blob. keep blob.digest) there joined.distinct_blobs;
  has_blobs = λ d. blobs_kept keep there d ∙ ap (λ (b : Bool). keep d && b) (joined.has_blobs d) ∙ sym (among_kept keep order d);
  has_flags = λ d. flags_kept keep flags d ∙ ap (λ (b : Bool). keep d && b) (joined.has_flags d) ∙ sym (among_kept keep order d);
  sum = refl;
  small = let less = total_kept keep order in let sum = joined.sum in let small = joined.small in omega arith;
}

-- ---- one row more

abbrev pub blob_of : HashAndSize → Option (List Edge) → Linked
blob_of d edges = record { digest = d; edges = edges }

find_other : {X : Type 0} (p : X → Bool) (xs : List X) (x : X) → p x ≡ false → find p (xs ++ x ∷ []) ≡ find p xs
find_other p [] x e = cond-false (p x) (Some x) None e
find_other p (first ∷ xs) x e = ap (λ o. cond (p first) (Some first) o) (find_other p xs x e)

find_last : {X : Type 0} (p : X → Bool) (xs : List X) (x : X) → list_any p xs ≡ false → p x ≡ true → find p (xs ++ x ∷ []) ≡ Some x
find_last p [] x none e = cond-true (p x) (Some x) None e
find_last p (first ∷ xs) x none e = let h = or_parts (p first) (list_any p xs) none in cond-false (p first) (Some first) (find p (xs ++ x ∷ [])) h.0 ∙ find_last p xs x h.1 e

-- the row of another digest stays
other_row : (there : List Linked) (flags : Soundness) (d : HashAndSize) (edges : Option (List Edge)) (x : HashAndSize) → x ≢ d
    → row_in (there ++ blob_of d edges ∷ []) (with_flag d flags) x ≡ row_in there flags x
other_row there flags d edges x other =
    let differs = not_same_from_other d x (λ e. other (sym e)) in
    row_by x _ _ _ _
    (ap edges_if (find_other (is_blob x) there (blob_of d edges) differs))
    (ap (λ (b : Bool). unwrap_or (cond b (Some true) (flags x)) false) differs)

-- the new one is sound
own_row : (there : List Linked) (flags : Soundness) (d : HashAndSize) (edges : Option (List Edge)) → list_any (is_blob d) there ≡ false
    → row_in (there ++ blob_of d edges ∷ []) (with_flag d flags) d ≡ new_row d edges
own_row there flags d edges none =
    row_by d _ _ _ _
    (ap edges_if (find_last (is_blob d) there (blob_of d edges) none (same_itself d)))
    (ap (λ (b : Bool). unwrap_or (cond b (Some true) (flags d)) false) (same_itself d))

-- the rows with one more
rows_more : (order : List HashAndSize) (there : List Linked) (flags : Soundness) (d : HashAndSize) (edges : Option (List Edge)) → is_among order d ≡ false → list_any (is_blob d) there ≡ false
    → rows_in (order ++ d ∷ []) (there ++ blob_of d edges ∷ []) (with_flag d flags) ≡ rows_in order there flags ++ new_row d edges ∷ []
rows_more order there flags d edges none no_blob =
    let row = row_in (there ++ blob_of d edges ∷ []) (with_flag d flags) in
    map-append row order (d ∷ [])
    ∙ ap (λ (rows : List Row). rows ++ row d ∷ []) (rows_by order row (row_in there flags) (every_weaker (λ x. x ≢ d) (λ x. row x ≡ row_in there flags x) (λ x other. other_row there flags d edges x other) order (apart d order none)))
    ∙ ap (λ (r : Row). rows_in order there flags ++ r ∷ []) (own_row there flags d edges no_blob)

any_more : (e d : HashAndSize) (a b : Bool) → a ≡ b → (a || (same d e || false)) ≡ (b || (same e d || false))
any_more e d a b h = ap (λ (x : Bool). x || (same d e || false)) h ∙ ap (λ (x : Bool). b || (x || false)) (same_swap d e)

flag_more : (b : Bool) (o : Option Bool) (m : Bool) → is_some o ≡ m → is_some (cond b (Some true) o) ≡ (m || (b || false))
flag_more true o true h = refl
flag_more true o false h = refl
flag_more false o true h = h
flag_more false o false h = h

-- what goes together does so with one more
joined_more : (order : List HashAndSize) (there : List Linked) (flags : Soundness) (used : ℕ) → IsJoined order there flags used → (d : HashAndSize) (edges : Option (List Edge)) → is_among order d ≡ false → used + d.size ≤ 2 ^ 62
    → IsJoined (order ++ d ∷ []) (there ++ blob_of d edges ∷ []) (with_flag d flags) (total (order ++ d ∷ []))
joined_more order there flags used joined d edges none small = record {
  distinct = distinct_more order d joined.distinct (apart d order none);
  distinct_blobs = distinct_push there (blob_of d edges) joined.distinct_blobs (blob_laws.absent d there (joined.has_blobs d ∙ none));
  has_blobs = λ e. list_any-append (is_blob e) there (blob_of d edges ∷ []) ∙ any_more e d _ _ (joined.has_blobs e) ∙ sym (list_any-append (same e) order (d ∷ []));
  has_flags = λ e. flag_more (same d e) (flags e) (is_among order e) (joined.has_flags e) ∙ ap (λ (b : Bool). is_among order e || (b || false)) (same_swap d e) ∙ sym (list_any-append (same e) order (d ∷ []));
  sum = refl;
  small = let more = sum_by_push (λ (x : HashAndSize). x.size) order d in let sum = joined.sum in omega arith;
}

-- ---- one row comes where others go

-- a last one that stays
last_stays : {X : Type 0} (keep : X → Bool) (xs : List X) (x : X) → keep x ≡ true → filter keep (xs ++ x ∷ []) ≡ filter keep xs ++ x ∷ []
last_stays keep xs x stays = filter-append keep xs (x ∷ []) ∙ ap (λ (ys : List _). filter keep xs ++ ys) (cond-true (keep x) (x ∷ []) [] stays)

-- the order, the blobs and the flags are those of before without some, and with one more
pub record IsChanged (gone : List HashAndSize) (d : HashAndSize) (edges : Option (List Edge)) (order new_order : List HashAndSize) (there new_there : List Linked) (flags new_flags : Soundness) : Type 0 where
  pub order_is : new_order ≡ filter (λ x. not (is_among gone x)) (order ++ d ∷ [])
  pub blobs_are : new_there ≡ table.without gone there ++ blob_of d edges ∷ []
  pub flags_are : new_flags ≡ kept_flags (λ q. not (is_among gone q)) (with_flag d flags)

-- whether a digest stays
abbrev stays : List HashAndSize → HashAndSize → Bool
stays gone x = not (is_among gone x)

pub same_joined : (order new_order : List HashAndSize) (there new_there : List Linked) (flags new_flags : Soundness) (used new_used : ℕ) → new_order ≡ order → new_there ≡ there → new_flags ≡ flags → new_used ≡ used
    → IsJoined order there flags used → IsJoined new_order new_there new_flags new_used
same_joined order new_order there new_there flags new_flags used new_used e f g h joined =
    subst (λ (ds : List HashAndSize). IsJoined ds new_there new_flags new_used) (sym e)
    (subst (λ (bs : List Linked). IsJoined order bs new_flags new_used) (sym f)
    (subst (λ (fs : Soundness). IsJoined order there fs new_used) (sym g)
    (subst (λ (n : ℕ). IsJoined order there flags n) (sym h) joined)))

pub same_rows : (order new_order : List HashAndSize) (there new_there : List Linked) (flags new_flags : Soundness) → new_order ≡ order → new_there ≡ there → new_flags ≡ flags
    → rows_in new_order new_there new_flags ≡ rows_in order there flags
same_rows order new_order there new_there flags new_flags e f g =
    ap (λ (ds : List HashAndSize). rows_in ds new_there new_flags) e
    ∙ ap (λ (bs : List Linked). rows_in order bs new_flags) f
    ∙ ap (λ (fs : Soundness). rows_in order there fs) g

module _ (order : List HashAndSize) (there : List Linked) (flags : Soundness) (used : ℕ) (joined : IsJoined order there flags used) (gone : List HashAndSize) (d : HashAndSize) (edges : Option (List Edge))
    (none : is_among order d ≡ false) (other : is_among gone d ≡ false) where
  -- the bytes of the rows that stay are those of the blobs that do
  pub bytes_left : table.sizes (table.without gone there) ≡ sizes (without gone (rows_in order there flags))
  bytes_left = kept_total order there flags used joined (stays gone)

  pub rows_left : sizes (without gone (rows_in order there flags)) ≡ total (filter (stays gone) order)
  rows_left = ap sizes (filter_of_map (row_in there flags) (λ (row : Row). stays gone row.digest) order) ∙ rows_total (filter (stays gone) order) there flags

  kept_joined : IsJoined (filter (stays gone) order) (table.without gone there) (kept_flags (stays gone) flags) (total (filter (stays gone) order))
  kept_joined = joined_kept (stays gone) order there flags used joined

  kept_none : is_among (filter (stays gone) order) d ≡ false
  kept_none = among_kept (stays gone) order d ∙ ap (λ (b : Bool). stays gone d && b) none ∙ ap (λ (b : Bool). b && false) (not_from_false (is_among gone d) other)

  order_last : filter (stays gone) (order ++ d ∷ []) ≡ filter (stays gone) order ++ d ∷ []
  order_last = last_stays (stays gone) order d (not_from_false (is_among gone d) other)

  flags_last : kept_flags (stays gone) (with_flag d flags) ≡ with_flag d (kept_flags (stays gone) flags)
  flags_last = (λ i q. by q (stays gone q) (same d q) refl refl i)
    where
      by : (q : HashAndSize) (a b : Bool) → stays gone q ≡ a → same d q ≡ b → cond a (cond b (Some true) (flags q)) None ≡ cond b (Some true) (cond a (flags q) None)
      by q true b s t = swap b
        where
          swap : (b : Bool) → cond b (Some true) (flags q) ≡ cond b (Some true) (flags q)
          swap b = refl
      by q false true s t = absurd (let there = ap (stays gone) (equal_from_same d q t) in let here = not_from_false (is_among gone d) other in cc)
      by q false false s t = refl

  pub changed_joined : (new_order : List HashAndSize) (new_there : List Linked) (new_flags : Soundness) (bytes : ℕ) → IsChanged gone d edges order new_order there new_there flags new_flags → bytes ≡ total new_order
      → sizes (without gone (rows_in order there flags)) + d.size ≤ 2 ^ 62 → IsJoined new_order new_there new_flags bytes
  changed_joined new_order new_there new_flags bytes changed counted small =
      let o = changed.order_is ∙ order_last in
      let fits : total (filter (stays gone) order) + d.size ≤ 2 ^ 62 = let e = rows_left in omega arith in
      same_joined _ _ _ _ _ _ _ _ o changed.blobs_are (changed.flags_are ∙ flags_last) (counted ∙ ap total o)
      (joined_more _ _ _ _ kept_joined d edges kept_none fits)

  pub changed_rows : (new_order : List HashAndSize) (new_there : List Linked) (new_flags : Soundness) → IsChanged gone d edges order new_order there new_there flags new_flags
      → rows_in new_order new_there new_flags ≡ without gone (rows_in order there flags) ++ new_row d edges ∷ []
  changed_rows new_order new_there new_flags changed =
      same_rows _ _ _ _ _ _ (changed.order_is ∙ order_last) changed.blobs_are (changed.flags_are ∙ flags_last)
      ∙ rows_more (filter (stays gone) order) (table.without gone there) (kept_flags (stays gone) flags) d edges kept_none (kept_joined.has_blobs d ∙ kept_none)
      ∙ ap (λ (rows : List Row). rows ++ new_row d edges ∷ []) (rows_kept (stays gone) order there flags)

-- ---- what was added goes again

undone : {X : Type 0} (test : X → Bool) (xs : List X) (x : X) → list_any test xs ≡ false → test x ≡ true → filter (λ y. not (test y)) (xs ++ x ∷ []) ≡ xs
undone test [] x none e = cond-false (not (test x)) (x ∷ []) [] (ap not e)
undone test (first ∷ xs) x none e =
    let h = or_parts (test first) (list_any test xs) none in
    cond-true (not (test first)) (first ∷ filter (λ y. not (test y)) (xs ++ x ∷ [])) (filter (λ y. not (test y)) (xs ++ x ∷ [])) (ap not h.0)
    ∙ ap (λ (ys : List _). first ∷ ys) (undone test xs x h.1 e)

pub order_undone : (order : List HashAndSize) (d : HashAndSize) → is_among order d ≡ false → other_digests d (order ++ d ∷ []) ≡ order
order_undone order d none = undone (λ other. same other d) order d (ap (λ (test : HashAndSize → Bool). list_any test order) (λ i x. same_swap x d i) ∙ none) (same_itself d)

pub flags_undone : (flags : Soundness) (d : HashAndSize) → is_some (flags d) ≡ false → kept_flags (λ q. not (same q d)) (with_flag d flags) ≡ flags
flags_undone flags d none = (λ i q. by q (same q d) (same d q) (same_swap q d) refl i)
  where
    nothing : (o : Option Bool) → is_some o ≡ false → None ≡ o
    nothing None e = refl
    nothing (Some x) e = absurd cc

    by : (q : HashAndSize) (a b : Bool) → a ≡ b → same d q ≡ b → cond (not a) (cond b (Some true) (flags q)) None ≡ flags q
    by q true true e t = nothing (flags d) none ∙ ap flags (equal_from_same d q t)
    by q false false e t = refl
    by q true false e t = absurd cc
    by q false true e t = absurd cc

-- ---- rows that are there

-- one with no row isn't in the order
pub not_in_order : (order : List HashAndSize) (there : List Linked) (flags : Soundness) (guards : Guards) (now : Parts) (d : HashAndSize) → record { rows = rows_in order there flags; guards = guards } ≡ now → has_row now.rows d ≡ false
    → is_among order d ≡ false
not_in_order order there flags guards now d is none = sym (row_among order there flags d) ∙ ap (λ (p : Parts). has_row p.rows d) is ∙ none
