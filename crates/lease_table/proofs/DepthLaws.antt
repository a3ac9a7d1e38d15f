-- What is reached in order, and how far it is, by pairs that are followed step by step.
use Rattle.std.proofs.Common.{◌≡◌, ℕ, zero, suc, ◌+◌, ◌-◌, ◌<◌, ◌≤◌, Bool, true, false, not, ◌&&◌, ◌||◌, List, [], ◌∷◌, ◌++◌, length, get_or, take, drop, refl, sym, ap, subst, ◌∙◌, inl, inr, arith}
use Rattle.std.specs.List.{list_any}
use Rattle.std.proofs.lemmas.Bool.{or_cases, or_left, or_right}
use Rattle.std.proofs.lemmas.List.{get_or-drop, length-drop}
use Rattle.directory_canon.specs.declared.node.Edge.{Edge}
use Rattle.store_core.specs.Ascending.{ascending}
use Rattle.store_core.specs.Reach.{Linked, as_dir, is_dir, pair_cmp, within, reaches, is_nearer, reached, is_deep}
use Rattle.store_core.proofs.AscendingLaws.{pair_exact, ascending_is}
use Rattle.store_core.proofs.ReachLaws.{same_tests, some_passes, any_passes, pair_from_Contains, Contains_from_pair, within_root, within_next, within_cases, within_grows}
use Rattle.store_core.proofs.ReachedLaws.{reached_members, reached_sorted}
use Rattle.lease_table.specs.Pairs.{has, leads, lead}
use Rattle.lease_table.proofs.PairSetLaws.{link_from, leads_from, take_all, take_next, one_more}

-- ---- in order

-- the list of what is reached has just that
reached_has : (rows : List Linked) (starts : List Edge) (pair : Edge) → has (reached rows starts) pair ≡ reaches rows starts pair
reached_has rows starts pair =
    let members = reached_members rows starts pair in
    same_tests _ _
    (λ e. members.1 (Contains_from_pair (reached rows starts) pair e))
    (λ e. pair_from_Contains (reached rows starts) pair (members.0 e))

-- pairs that are what is reached, in order
pub reached_ascending : (rows : List Linked) (starts pairs : List Edge) → ((pair : Edge) → has pairs pair ≡ reaches rows starts pair) → ascending pair_cmp pairs ≡ reached rows starts
reached_ascending rows starts pairs h =
    sym (ascending_is pair_cmp pair_exact pairs (reached rows starts) (reached_sorted rows starts) (record {
      there = λ pair c. (reached_members rows starts pair).0 (sym (h pair) ∙ pair_from_Contains pairs pair c);
      back = λ pair c. Contains_from_pair pairs pair (h pair ∙ (reached_members rows starts pair).1 c);
    }))

-- ---- step by step

-- what one more pair leads to
pub lead_next : (rows : List Linked) (ys : List Edge) (n : ℕ) (x pair : Edge) → n < length ys → lead rows (take (n + 1) ys) pair ≡ (lead rows (take n ys) pair || leads rows (get_or ys n x) pair)
lead_next rows ys n x pair lt = ap (λ (xs : List Edge). lead rows xs pair) (ap (λ (k : ℕ). take k ys) (sym (one_more n)) ∙ take_next ys n x lt) ∙ lead_push (take n ys)
  where
    lead_push : (xs : List Edge) → lead rows (xs ++ get_or ys n x ∷ []) pair ≡ (lead rows xs pair || leads rows (get_or ys n x) pair)
    lead_push [] = none (leads rows (get_or ys n x) pair)
      where
        none : (b : Bool) → (b || false) ≡ b
        none true = refl
        none false = refl
    lead_push (z ∷ zs) = ap (λ (b : Bool). leads rows z pair || b) (lead_push zs) ∙ assoc (leads rows z pair) (lead rows zs pair) (leads rows (get_or ys n x) pair)
      where
        assoc : (a b c : Bool) → (a || (b || c)) ≡ ((a || b) || c)
        assoc true b c = refl
        assoc false b c = refl

-- the element at a place within what begins a list
pub begin_at : (old xs : List Edge) (i : ℕ) (d : Edge) → take (length old) xs ≡ old → i < length old → get_or old i d ≡ get_or xs i d
begin_at old xs i d e lt = ap (λ (ys : List Edge). get_or ys i d) (sym e) ∙ taken xs (length old) i lt
  where
    taken : (xs : List Edge) (n i : ℕ) → i < n → get_or (take n xs) i d ≡ get_or xs i d
    taken [] zero i lt = absurd (omega arith)
    taken [] (suc n) i lt = refl
    taken (x ∷ xs) zero i lt = absurd (omega arith)
    taken (x ∷ xs) (suc n) zero lt = refl
    taken (x ∷ xs) (suc n) (suc i) lt = taken xs n i (omega arith)

-- one pair more is followed
pub follow_more : (rows : List Linked) (old before after links : List Edge) (from at : ℕ) (x pair : Edge) → from ≤ at → at < length old → take (length old) before ≡ old → get_or before at x ≡ x
    → ((q : Edge) → has links q ≡ leads rows x q) → ((q : Edge) → has after q ≡ (has before q || has links q)) → ((q : Edge) → has before q ≡ (has old q || lead rows (take (at - from) (drop from old)) q))
    → has after pair ≡ (has old pair || lead rows (take (at + 1 - from) (drop from old)) pair)
follow_more rows old before after links from at x pair le lt begins here links_are adds h =
    let ys = drop from old in
    let len = length-drop from old in
    let there : get_or ys (at - from) x ≡ x = get_or-drop from old (at - from) x ∙ ap (λ (n : ℕ). get_or old n x) (back from at le) ∙ begin_at old before at x begins lt ∙ here in
    adds pair ∙ (λ i. h pair i || links_are pair i)
    ∙ assoc (has old pair) (lead rows (take (at - from) ys) pair) (leads rows x pair)
    ∙ ap (λ (b : Bool). has old pair || b) (
    ap (λ (y : Edge). lead rows (take (at - from) ys) pair || leads rows y pair) (sym there)
    ∙ sym (lead_next rows ys (at - from) x pair (omega (arith, len, le, lt)))
    ∙ ap (λ (n : ℕ). lead rows (take n ys) pair) (next from at le))
  where
    assoc : (a b c : Bool) → ((a || b) || c) ≡ (a || (b || c))
    assoc true b c = refl
    assoc false b c = refl

    back : (from at : ℕ) → from ≤ at → from + (at - from) ≡ at
    back from at le = omega (arith, le)

    next : (from at : ℕ) → from ≤ at → at - from + 1 ≡ at + 1 - from
    next from at le = omega (arith, le)

pub follow_none : (rows : List Linked) (old : List Edge) (from at : ℕ) (pair : Edge) → at ≡ from → has old pair ≡ (has old pair || lead rows (take (at - from) (drop from old)) pair)
follow_none rows old from at pair e = sym (ap (λ (n : ℕ). has old pair || lead rows (take n (drop from old)) pair) zero_left ∙ none (has old pair))
  where
    zero_left : at - from ≡ 0
    zero_left = omega (arith, e)

    none : (b : Bool) → (b || false) ≡ b
    none true = refl
    none false = refl

-- within one step more is what is within as many, and what that leads to
next_by : (rows : List Linked) (starts pairs : List Edge) (n : ℕ) (pair : Edge) → ((q : Edge) → has pairs q ≡ within rows starts n q) → within rows starts (suc n) pair ≡ (has pairs pair || lead rows pairs pair)
next_by rows starts pairs n pair near = same_tests _ _
    (λ e. elim (within_cases rows starts n pair e) [
      | inl root ↦ or_left _ _ (near pair ∙ within_root rows starts n pair root)
      | inr h ↦ or_right _ _ (any_passes (λ x. leads rows x pair) pairs (as_dir h.blob.digest) (Contains_from_pair pairs (as_dir h.blob.digest) (near (as_dir h.blob.digest) ∙ h.passes)) (leads_from rows h.blob pair h.is_there h.has_link))
    ])
    (λ e. elim (or_cases (has pairs pair) (lead rows pairs pair) e) [
      | inl old ↦ within_grows rows starts n pair (sym (near pair) ∙ old)
      | inr new ↦
          let p = some_passes (λ (x : Edge). leads rows x pair) pairs new in
          let link = link_from rows p.element pair p.passes in
          within_next rows starts n pair (record {
            blob = link.row;
            is_there = link.is_there;
            passes = ap (within rows starts n) (sym link.is_from) ∙ sym (near p.element) ∙ pair_from_Contains pairs p.element p.is_there;
            has_link = link.has_link;
          })
    ])

lead_split : (rows : List Linked) (n : ℕ) (xs : List Edge) (pair : Edge) → lead rows xs pair ≡ (lead rows (take n xs) pair || lead rows (drop n xs) pair)
lead_split rows zero xs pair = refl
lead_split rows (suc n) [] pair = refl
lead_split rows (suc n) (x ∷ xs) pair = ap (λ (b : Bool). leads rows x pair || b) (lead_split rows n xs pair) ∙ assoc (leads rows x pair) (lead rows (take n xs) pair) (lead rows (drop n xs) pair)
  where
    assoc : (a b c : Bool) → (a || (b || c)) ≡ ((a || b) || c)
    assoc true b c = refl
    assoc false b c = refl

-- the pairs are what is within so many steps, and what the first so many of them lead to is among them
pub record IsNear (rows : List Linked) (starts pairs : List Edge) (steps from : ℕ) : Type 0 where
  pub near : (pair : Edge) → has pairs pair ≡ within rows starts steps pair
  pub inside : from ≤ length pairs
  pub followed : (pair : Edge) → lead rows (take from pairs) pair ≡ true → has pairs pair ≡ true

-- the roots
pub near_roots : (rows : List Linked) (starts pairs none : List Edge) → none ≡ [] → ((pair : Edge) → has pairs pair ≡ (has none pair || has starts pair)) → IsNear rows starts pairs 0 0
unfolding within
near_roots rows starts pairs none e adds = record {
  near = λ pair. adds pair ∙ ap (λ (xs : List Edge). has xs pair || has starts pair) e;
  inside = omega arith;
  followed = λ pair l. absurd cc;
}

-- what begins a list is no longer
pub longer : (xs ys : List Edge) → take (length xs) ys ≡ xs → length xs ≤ length ys
longer xs ys e = few (length xs) ys (ap length e)
  where
    few : (k : ℕ) (ys : List Edge) → length (take k ys) ≡ k → k ≤ length ys
    few zero ys e = omega arith
    few (suc k) [] e = absurd (omega (arith, e))
    few (suc k) (y ∷ ys) e = let h = few k ys (omega (arith, e)) in omega (arith, h)

-- one step more
pub near_more : (rows : List Linked) (starts before after : List Edge) (steps from to : ℕ) → to ≡ length before → take (length before) after ≡ before
    → ((pair : Edge) → has after pair ≡ (has before pair || lead rows (take (to - from) (drop from before)) pair)) → IsNear rows starts before steps from → IsNear rows starts after (steps + 1) to
near_more rows starts before after steps from to is begins adds h =
    let len = length-drop from before in
    let rest = λ (pair : Edge). adds pair ∙ ap (λ (xs : List Edge). has before pair || lead rows xs pair) (take_all (drop from before) (to - from) (omega (arith, len, is))) in
    let all = λ (pair : Edge). ap (λ (b : Bool). has before pair || b) (lead_split rows from before pair) ∙ by (has before pair) (lead rows (take from before) pair) (lead rows (drop from before) pair) (h.followed pair) ∙ sym (rest pair) in
    record {
      near = λ pair. sym (all pair) ∙ sym (next_by rows starts before steps pair h.near) ∙ ap (λ (n : ℕ). within rows starts n pair) (one_more steps);
      inside = subst (λ (n : ℕ). n ≤ length after) (sym is) (longer before after begins);
      followed = λ pair l. sym (all pair) ∙ or_right _ _ (ap (λ (xs : List Edge). lead rows xs pair) (sym (ap (λ (n : ℕ). take n after) is ∙ begins)) ∙ l);
    }
  where
    by : (a b c : Bool) → (b ≡ true → a ≡ true) → (a || (b || c)) ≡ (a || c)
    by true b c e = refl
    by false true c e = absurd (let f = e refl in cc)
    by false false c e = refl

near_stays : (rows : List Linked) (starts pairs : List Edge) (n k : ℕ) → ((pair : Edge) → has pairs pair ≡ within rows starts n pair) → ((pair : Edge) → lead rows pairs pair ≡ true → has pairs pair ≡ true)
    → (pair : Edge) → has pairs pair ≡ within rows starts (k + n) pair
near_stays rows starts pairs n zero near closed pair = near pair ∙ ap (λ (m : ℕ). within rows starts m pair) zero_plus
  where
    zero_plus : n ≡ 0 + n
    zero_plus = omega arith
near_stays rows starts pairs n (suc k) near closed pair =
    sym (by (has pairs pair) (lead rows pairs pair) (closed pair))
    ∙ sym (next_by rows starts pairs (k + n) pair (near_stays rows starts pairs n k near closed))
    ∙ ap (λ (m : ℕ). within rows starts m pair) suc_plus
  where
    by : (a b : Bool) → (b ≡ true → a ≡ true) → (a || b) ≡ a
    by true b h = refl
    by false true h = absurd (let f = h refl in cc)
    by false false h = refl

    suc_plus : suc (k + n) ≡ suc k + n
    suc_plus = omega arith

-- where all are followed, further steps add none
pub near_settled : (rows : List Linked) (starts pairs : List Edge) (steps from more : ℕ) → length pairs ≤ from → steps ≤ more → IsNear rows starts pairs steps from → (pair : Edge) → has pairs pair ≡ within rows starts more pair
near_settled rows starts pairs steps from more le less h pair =
    near_stays rows starts pairs steps (more - steps) h.near (λ q l. h.followed q (ap (λ (xs : List Edge). lead rows xs q) (take_all pairs from le) ∙ l)) pair
    ∙ ap (λ (n : ℕ). within rows starts n pair) (omega (arith, less))

-- ---- what is deep

-- a test is passed by some of pairs that are the same
same_any : (test : Edge → Bool) (xs ys : List Edge) → ((pair : Edge) → has xs pair ≡ has ys pair) → list_any test xs ≡ list_any test ys
same_any test xs ys h = same_tests _ _
    (λ e. let p = some_passes test xs e in any_passes test ys p.element (Contains_from_pair ys p.element (sym (h p.element) ∙ pair_from_Contains xs p.element p.is_there)) p.passes)
    (λ e. let p = some_passes test ys e in any_passes test xs p.element (Contains_from_pair xs p.element (h p.element ∙ pair_from_Contains ys p.element p.is_there)) p.passes)

-- whether some pair is deep, told by those that are reached and those that are nearer
pub deep_told : (rows : List Linked) (starts pairs near : List Edge) (steps : ℕ) → ((pair : Edge) → has pairs pair ≡ reaches rows starts pair) → ((pair : Edge) → has near pair ≡ is_nearer rows starts steps pair)
    → list_any (λ pair. is_dir pair && not (has near pair)) pairs ≡ is_deep rows starts steps
unfolding is_deep
deep_told rows starts pairs near steps all nearer =
    ap (λ (f : Edge → Bool). list_any (λ pair. is_dir pair && not (f pair)) pairs) (λ i pair. nearer pair i)
    ∙ same_any (λ pair. is_dir pair && not (is_nearer rows starts steps pair)) pairs (reached rows starts) (λ pair. all pair ∙ sym (reached_has rows starts pair))

-- no pair is nearer than no steps
pub none_nearer : (rows : List Linked) (starts near : List Edge) (steps : ℕ) (pair : Edge) → near ≡ [] → steps ≡ 0 → has near pair ≡ is_nearer rows starts steps pair
none_nearer rows starts near zero pair e is = ap (λ (xs : List Edge). has xs pair) e
none_nearer rows starts near (suc steps) pair e is = absurd (omega (arith, is))

-- what is nearer than so many steps is within one less
pub within_nearer : (rows : List Linked) (starts near : List Edge) (steps less : ℕ) (pair : Edge) → (steps ≡ 0 → ⊥) → less ≡ steps - 1 → has near pair ≡ within rows starts less pair → has near pair ≡ is_nearer rows starts steps pair
within_nearer rows starts near zero less pair some is h = absurd (some refl)
within_nearer rows starts near (suc steps) less pair some is h = h ∙ ap (λ (n : ℕ). within rows starts n pair) (omega (arith, is))
