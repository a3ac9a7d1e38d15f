-- What becomes of the bodies that are found on a shelf, one after the other.
use Rattle.std.proofs.Common.{◌≡◌, ◌+◌, ◌-◌, ◌^◌, ℕ, zero, suc, min, List, [], ◌∷◌, length, map, Option, Some, IfSome, refl, sym, ap, subst, ◌∙◌, arith}
use Rattle.digest_types.specs.Name.{HashAndSize}
use Rattle.store_core.specs.declared.state.Row.{Row}
use Rattle.store_core.specs.declared.state.Guard.{Guard}
use Rattle.store_core.specs.State.{DistinctDigests}
use Rattle.store_core.specs.Step.{touched_all}
use Rattle.blob_store.specs.Kept.{Told}
use Rattle.blob_store.specs.Restored.{taken, in_use_order, restored}
use Rattle.blob_store.specs.Shelves.{Shelved, Stays, Fails, Finds, FindsNone, counting, discarding}
use Rattle.blob_store.specs.Loading.{IsGathered, Sifts, Lasts, SiftsTold, Sifted, Loads}
use Rattle.blob_store.proofs.LoadRows.{taken_more}
use Rattle.blob_store.proofs.LoadOrder.{touched_order, touched_length, with_rows}

-- ---- what stays

pub stays_itself : (s : Shelved) → Stays s s
stays_itself s = record { discarded = refl; dropped = refl; may_fail = refl; found = refl; to_find = omega arith; saved = refl; later = omega arith }

pub stays_twice : (a b c : Shelved) → Stays a b → Stays b c → Stays a c
stays_twice a b c x y = record {
  discarded = y.discarded ∙ x.discarded;
  dropped = y.dropped ∙ x.dropped;
  may_fail = y.may_fail ∙ x.may_fail;
  found = y.found ∙ x.found;
  to_find = omega (arith, x.to_find, y.to_find);
  saved = y.saved ∙ x.saved;
  later = omega (arith, x.later, y.later);
}

stays_discarding : (n : ℕ) (a b : Shelved) → Stays a b → Stays (discarding n a) (discarding n b)
stays_discarding n a b x = record { discarded = ap (counting n) x.discarded; dropped = x.dropped; may_fail = x.may_fail; found = x.found; to_find = x.to_find; saved = x.saved; later = x.later }

pub lasts_itself : (s : Shelved) → Lasts s s
lasts_itself s = record { dropped = refl; may_fail = refl; saved = refl; to_find = omega arith; later = omega arith }

pub lasts_twice : (a b c : Shelved) → Lasts a b → Lasts b c → Lasts a c
lasts_twice a b c x y = record {
  dropped = y.dropped ∙ x.dropped;
  may_fail = y.may_fail ∙ x.may_fail;
  saved = y.saved ∙ x.saved;
  to_find = omega (arith, x.to_find, y.to_find);
  later = omega (arith, x.later, y.later);
}

pub lasts_stays : (a b : Shelved) → Stays a b → Lasts a b
lasts_stays a b x = record { dropped = x.dropped; may_fail = x.may_fail; saved = x.saved; to_find = x.to_find; later = x.later }

-- a call that failed after another one
pub fails_later : (a b c : Shelved) → Lasts a b → Fails b c → Fails a c
fails_later a b c x f = (sym x.may_fail ∙ f.0, let rose = f.1 in omega (arith, rose, x.later))

-- ---- one body

pub sifts_kept : (s t : Shelved) (before after : ℕ) → t ≡ s → after ≡ before + 1 → Sifts s t before after
sifts_kept s t before after same more = (0, omega (arith, more), subst (Stays s) (sym same) (stays_itself s))

pub sifts_gone : (s t : Shelved) (before after : ℕ) → Stays (discarding 1 s) t → after ≡ before → Sifts s t before after
sifts_gone s t before after gone same = (1, omega (arith, same), gone)

pub sifts_discarded : (s t : Shelved) (before after : ℕ) → t ≡ discarding 1 s → after ≡ before → Sifts s t before after
sifts_discarded s t before after gone same = sifts_gone s t before after (subst (Stays (discarding 1 s)) (sym gone) (stays_itself (discarding 1 s))) same

-- the body was read before
pub sifts_after : (s m t : Shelved) (before after : ℕ) → Stays s m → Sifts m t before after → Sifts s t before after
sifts_after s m t before after x y = (y.0, y.1, stays_twice (discarding y.0 s) (discarding y.0 m) t (stays_discarding y.0 s m x) y.2)

-- ---- all bodies

counting_twice : (a b n : ℕ) → counting a (counting b n) ≡ counting (b + a) n
counting_twice zero b n = ap (λ (k : ℕ). counting k n) (let e : b ≡ b + 0 = omega arith in e)
counting_twice (suc a) zero n = ap (λ (k : ℕ). counting k n) (let e : suc a ≡ 0 + suc a = omega arith in e)
counting_twice (suc a) (suc b) n =
    let both : min (min (n + suc b) (2 ^ 64 - 1) + suc a) (2 ^ 64 - 1) ≡ min (n + suc (b + suc a)) (2 ^ 64 - 1) = omega arith in
    let next : suc (b + suc a) ≡ suc b + suc a = omega arith in
    both ∙ ap (λ (k : ℕ). counting k n) next

pub sifted_none : (s : Shelved) → Sifted s s []
sifted_none s = record {
  gone = 0;
  discarded = refl;
  lasts = lasts_itself s;
  told = λ bodies is. record { rest = bodies; left_is = is; count = omega arith; same = λ all are. (all, are, refl) };
}

-- what holds of any look for a body
pub record Looks (old new : Shelved) : Type 0 where
  pub lasts : Lasts old new
  pub discarded : new.discarded ≡ old.discarded

parts_of : (all : List (List ℕ)) (first : Option (List ℕ)) (rest : List (Option (List ℕ))) → first ∷ rest ≡ map Some all → (bytes : List ℕ) × (more : List (List ℕ)) × (all ≡ bytes ∷ more) × (first ≡ Some bytes) × (rest ≡ map Some more)
parts_of [] first rest e = absurd cc
parts_of (bytes ∷ more) first rest e = (bytes, more, refl, cc, cc)

told_more : (bodies : List (Option (List ℕ))) (left now : Option (List (Option (List ℕ)))) (gone more : ℕ) (rows new : List Row) (body : Option (List ℕ)) → SiftsTold bodies left gone rows
    → IfSome left (λ bodies. (rest : List (Option (List ℕ))) × (bodies ≡ body ∷ rest) × (now ≡ Some rest)) → more + length new ≡ length rows + 1
    → ((bytes : List ℕ) → body ≡ Some bytes → new ≡ taken rows (bytes ∷ [])) → SiftsTold bodies now (gone + more) new
told_more bodies left now gone more rows new body t finds count rows_are =
    let f = subst (λ (o : Option (List (Option (List ℕ)))). IfSome o (λ bodies. (rest : List (Option (List ℕ))) × (bodies ≡ body ∷ rest) × (now ≡ Some rest))) t.left_is finds in
    let len = ap (λ (bs : List (Option (List ℕ))). length bs) f.1 in record {
      rest = f.0;
      left_is = f.2;
      count = omega (arith, t.count, count, len);
      same = λ all are.
          let m = t.same all are in
          let p = parts_of m.0 body f.0 (sym f.1 ∙ m.1) in
          (p.1, p.4, taken_more rows new p.0 p.1 (rows_are p.0 p.3) ∙ ap (taken rows) (sym p.2) ∙ m.2);
    }

-- one body more was found, and became a row or is gone
pub sifted_more : (old now mid new : Shelved) (rows after : List Row) (body : Option (List ℕ)) → Sifted old now rows → Looks now mid → Finds now mid body → Sifts mid new (length rows) (length after)
    → ((bytes : List ℕ) → body ≡ Some bytes → after ≡ taken rows (bytes ∷ [])) → Sifted old new after
sifted_more old now mid new rows after body s looks finds sifts rows_are = record {
  gone = s.gone + sifts.0;
  discarded = sifts.2.discarded ∙ ap (counting sifts.0) (looks.discarded ∙ s.discarded) ∙ counting_twice sifts.0 s.gone old.discarded;
  lasts = lasts_twice old now new s.lasts (lasts_twice now mid new looks.lasts (record { dropped = sifts.2.dropped; may_fail = sifts.2.may_fail; saved = sifts.2.saved; to_find = sifts.2.to_find; later = sifts.2.later }));
  told = λ bodies is. subst (λ (o : Option (List (Option (List ℕ)))). SiftsTold bodies o (s.gone + sifts.0) after) (sym sifts.2.found) (told_more bodies now.found mid.found s.gone sifts.0 rows after body (s.told bodies is) finds.1 sifts.1 rows_are);
}

-- no body is left
pub sifted_end : (old now new : Shelved) (rows : List Row) → Sifted old now rows → Looks now new → FindsNone now new → Sifted old new rows
sifted_end old now new rows s looks none = record {
  gone = s.gone;
  discarded = looks.discarded ∙ s.discarded;
  lasts = lasts_twice old now new s.lasts looks.lasts;
  told = λ bodies is. subst (λ (o : Option (List (Option (List ℕ)))). SiftsTold bodies o s.gone rows) (sym none.0) (s.told bodies is);
}

-- the saved list was read before
pub sifted_after : (old mid new : Shelved) (rows : List Row) → Stays old mid → Sifted mid new rows → Sifted old new rows
sifted_after old mid new rows x s = record {
  gone = s.gone;
  discarded = s.discarded ∙ ap (counting s.gone) x.discarded;
  lasts = lasts_twice old mid new (lasts_stays old mid x) s.lasts;
  told = λ bodies is. s.told bodies (x.found ∙ is);
}

ended : (left : Option (List (Option (List ℕ)))) (rest : List (Option (List ℕ))) → left ≡ Some rest → IfSome left (λ bodies. bodies ≡ []) → rest ≡ []
ended left rest is none = subst (λ (o : Option (List (Option (List ℕ)))). IfSome o (λ bodies. bodies ≡ [])) is none

pub loads_all : (old new : Shelved) (rows : List Row) (saved : List HashAndSize) → Sifted old new rows → IfSome new.found (λ bodies. bodies ≡ []) → Loads old new (length (touched_all saved rows))
loads_all old new rows saved s none = record {
  gone = s.gone;
  discarded = s.discarded;
  lasts = s.lasts;
  told = λ bodies is.
      let t = s.told bodies is in
      let no_rest = ended new.found t.rest t.left_is none in
      let len = ap (λ (bs : List (Option (List ℕ))). length bs) no_rest in
      (t.left_is ∙ ap Some no_rest, omega (arith, t.count, len, touched_length saved rows));
}

no_more : (more : List (List ℕ)) → [] ≡ map Some more → more ≡ []
no_more [] e = refl
no_more (bytes ∷ more) e = absurd cc

-- where the shelf tells all, the store is the one that is restored
pub loads_restored : (old new : Shelved) (rows : List Row) (sum : ℕ) (bodies : Told) (read saved : List HashAndSize) (found : List (List ℕ)) (low high : ℕ) (guard : Guard) → IsGathered rows sum bodies → Sifted old new rows
    → IfSome new.found (λ bodies. bodies ≡ []) → DistinctDigests read → IfSome old.saved (λ saved. read ≡ saved) → old.saved ≡ Some saved → old.found ≡ Some (map Some found)
    → with_rows low high guard (touched_all read rows) ≡ restored saved found low high guard
loads_restored old new rows sum bodies read saved found low high guard g s none apart list saved_is found_is =
    let t = s.told (map Some found) found_is in
    let m = t.same found refl in
    let no_rest = ended new.found t.rest t.left_is none in
    let rows_are : rows ≡ taken [] found = ap (taken rows) (sym (no_more m.0 (sym no_rest ∙ m.1))) ∙ m.2 in
    let read_is : read ≡ saved = subst (λ (o : Option (List HashAndSize)). IfSome o (λ saved. read ≡ saved)) saved_is list in
    ap (with_rows low high guard) (touched_order read rows apart g.distinct g.sound)
    ∙ (λ i. with_rows low high guard (in_use_order (read_is i) (rows_are i)))
