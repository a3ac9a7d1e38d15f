-- Bodies under their digests.
use Rattle.std.proofs.Common.{◌≡◌, ◌≢◌, ℕ, zero, suc, ◌+◌, ◌-◌, ◌^◌, ◌<◌, min, length, get_or, take, Bool, true, false, cond, ◌||◌, List, [], ◌∷◌, Bor, Option, Some, None, is_some, IfSome, refl, sym, ap, subst, ◌∙◌, arith}
use Rattle.std.specs.Prelude.{map, if◌then◌else◌}
use Rattle.std.specs.List.{AllByRecursion}
use Rattle.std.specs.Map.{lookup, remove_entry}
use Rattle.std.specs.Option.{option_copied, option_map}
use Rattle.std.proofs.lemmas.Map.Made.{lookup-map_values}
use Rattle.digest_types.specs.Name.{HashAndSize}
use Rattle.digest_types.specs.Digest.{digest_of}
use Rattle.indexmap.specs.IndexMap.{insert_entry}
use Rattle.store_core.specs.declared.state.Row.{Row}
use Rattle.store_core.specs.State.{same, is_among}
use Rattle.store_core.proofs.Same.{equal_from_same, not_same_from_other}
use Rattle.store_core.proofs.Guarding.{same_swap}
use Rattle.lease_table.specs.Table.{DistinctDigests}
use Rattle.blob_store.specs.Shelves.{Shelved, counting, discarding}
use Rattle.store_core.specs.State.{has_row}
use Rattle.indexed_core.specs.Removal.{AreRows}
use Rattle.blob_store.specs.Kept.{Told, told_in, AreBodiesOf}

-- the bytes that a body tells are those of a digest
abbrev pub IsBodyOf : Option (List ℕ) → HashAndSize → Type 0
IsBodyOf told d = IfSome told (λ bytes. d ≡ digest_of bytes)

module _ {V : Type 0} where
  -- ---- what the bodies tell
  module _ (told : V → Option (List ℕ)) where
    -- each body tells bytes of its digest
    abbrev pub AreTold : List (HashAndSize × V) → Type 0
    AreTold entries = AllByRecursion (λ entry. IfSome (told entry.1) (λ bytes. entry.0 ≡ digest_of bytes)) entries

    -- the bodies by what they tell
    abbrev pub telling : List (HashAndSize × V) → Told
    telling entries = map (λ entry. (entry.0, told entry.1)) entries

    copied_map : (o : Option (Bor V)) → option_map (λ body. told body.now) o ≡ option_map told (option_copied o)
    copied_map (Some v) = refl
    copied_map None = refl

    -- the body that is found tells what is told of it
    pub got_body : (d : HashAndSize) (entries : List (HashAndSize × V)) (o : Option (Bor V)) → option_copied o ≡ lookup (same d) entries → option_map (λ body. told body.now) o ≡ told_in (telling entries) d
    got_body d entries o e = copied_map o ∙ ap (option_map told) e ∙ sym (lookup-map_values told (same d) entries)

    -- where no body is found none is told of
    pub none_told : (d : HashAndSize) (entries : List (HashAndSize × V)) → lookup (same d) entries ≡ None → is_some (told_in (telling entries) d) ≡ false
    none_told d entries e = ap is_some (lookup-map_values told (same d) entries ∙ ap (option_map told) e)

    set_by : (b : Bool) (w o : Option V) (p : Option (Option (List ℕ))) → option_map told o ≡ p → option_map told (cond b w o) ≡ (if b then option_map told w else p)
    set_by true w o p e = refl
    set_by false w o p e = e

    -- where one body is set or taken out, so is what it tells
    pub set_told : (digest d : HashAndSize) (w : Option V) (old new : List (HashAndSize × V)) → lookup (same d) new ≡ cond (same digest d) w (lookup (same d) old)
        → told_in (telling new) d ≡ (if same digest d then option_map told w else told_in (telling old) d)
    set_told digest d w old new e = lookup-map_values told (same d) new ∙ ap (option_map told) e ∙ set_by (same digest d) w (lookup (same d) old) _ (sym (lookup-map_values told (same d) old))

    turned : (o : Option (List ℕ)) (d e : HashAndSize) → d ≡ e → IsBodyOf o e → IsBodyOf o d
    turned (Some bytes) d e is h = is ∙ h
    turned None d e is h = tt

    looked_by : (d : HashAndSize) (e : HashAndSize × V) (o : Option V) (b : Bool) → (b ≡ true → d ≡ e.0) → IsBodyOf (told e.1) e.0 → IfSome o (λ v. IsBodyOf (told v) d) → IfSome (cond b (Some e.1) o) (λ v. IsBodyOf (told v) d)
    looked_by d e o true is h rest = turned (told e.1) d e.0 (is refl) h
    looked_by d e o false is h rest = rest

    -- the body that is found tells bytes of the digest
    looked_told : (d : HashAndSize) (entries : List (HashAndSize × V)) → AreTold entries → IfSome (lookup (same d) entries) (λ v. IsBodyOf (told v) d)
    looked_told d [] h = tt
    looked_told d (e ∷ es) h = looked_by d e (lookup (same d) es) (same d e.0) (equal_from_same d e.0) h.0 (looked_told d es h.1)

    copied_told : (d : HashAndSize) (o : Option (Bor V)) → IfSome (option_copied o) (λ v. IsBodyOf (told v) d) → IfSome o (λ v. IsBodyOf (told v.now) d)
    copied_told d (Some v) h = h
    copied_told d None h = tt

    pub got_told : (d : HashAndSize) (entries : List (HashAndSize × V)) (o : Option (Bor V)) → AreTold entries → option_copied o ≡ lookup (same d) entries → IfSome o (λ v. IsBodyOf (told v.now) d)
    got_told d entries o h e = copied_told d o (subst (λ (p : Option V). IfSome p (λ v. IsBodyOf (told v) d)) (sym e) (looked_told d entries h))

    inserted_told_by : (d : HashAndSize) (v : V) (e : HashAndSize × V) (es : List (HashAndSize × V)) (b : Bool) → (b ≡ true → d ≡ e.0) → IsBodyOf (told v) d → IsBodyOf (told e.1) e.0 → AreTold es → AreTold (insert_entry same es d v)
        → AreTold (if b then (e.0, v) ∷ es else e ∷ insert_entry same es d v)
    inserted_told_by d v e es true is new h rest more = (turned (told v) e.0 d (sym (is refl)) new, rest)
    inserted_told_by d v e es false is new h rest more = (h, more)

    -- one more body
    pub inserted_told : (d : HashAndSize) (v : V) (entries : List (HashAndSize × V)) → IsBodyOf (told v) d → AreTold entries → AreTold (insert_entry same entries d v)
    inserted_told d v [] new h = (new, tt)
    inserted_told d v (e ∷ es) new h = inserted_told_by d v e es (same d e.0) (equal_from_same d e.0) new h.0 h.1 (inserted_told d v es new h.1)

    removed_told_by : (b : Bool) (d : HashAndSize) (e : HashAndSize × V) (es : List (HashAndSize × V)) → IsBodyOf (told e.1) e.0 → AreTold es → AreTold (remove_entry (same d) es) → AreTold (cond b es (e ∷ remove_entry (same d) es))
    removed_told_by true d e es h rest less = rest
    removed_told_by false d e es h rest less = (h, less)

    -- one less
    pub removed_told : (d : HashAndSize) (entries : List (HashAndSize × V)) → AreTold entries → AreTold (remove_entry (same d) entries)
    removed_told d [] h = tt
    removed_told d (e ∷ es) h = removed_told_by (same d e.0) d e es h.0 h.1 (removed_told d es h.1)

-- ---- bodies that are given up

at_place : (P : HashAndSize → Type 0) (xs : List HashAndSize) (i : ℕ) (d : HashAndSize) → AllByRecursion P xs → i < length xs → d ≡ get_or xs i d → P d
at_place P [] i d h lt here = absurd (omega arith)
at_place P (x ∷ xs) zero d h lt here = subst P (sym here) h.0
at_place P (x ∷ xs) (suc i) d h lt here = at_place P xs i d h.1 (omega arith) here

not_before : (gone : List HashAndSize) (i : ℕ) (d : HashAndSize) → DistinctDigests gone → i < length gone → d ≡ get_or gone i d → is_among (take i gone) d ≡ false
not_before [] i d distinct lt here = absurd (omega arith)
not_before (x ∷ gone) zero d distinct lt here = refl
not_before (x ∷ gone) (suc i) d distinct lt here =
    let later : i < length gone = omega arith in
    ap (λ (b : Bool). b || is_among (take i gone) d) (not_same_from_other d x (at_place (λ other. other ≢ x) gone i d distinct.0 later here))
    ∙ not_before gone i d distinct.1 later here

-- a digest that is to go still has its body, after those before it went
pub still_there : (rows : List Row) (bodies left : Told) (gone : List HashAndSize) (i : ℕ) (d : HashAndSize) → AreBodiesOf rows bodies → AreRows rows gone → i < length gone → d ≡ get_or gone i d
    → told_in left d ≡ (if is_among (take i gone) d then None else told_in bodies d) → is_some (told_in left d) ≡ true
still_there rows bodies left gone i d are gone_rows lt here is =
    ap is_some (is ∙ ap (λ (b : Bool). if b then None else told_in bodies d) (not_before gone i d gone_rows.distinct lt here))
    ∙ are d ∙ at_place (λ e. has_row rows e ≡ true) gone i d gone_rows.there lt here

first_of_two : (a b : Bool) → a ≡ b → (a || false) ≡ b
first_of_two true b e = e
first_of_two false b e = e

joined_or : (a b c e : Bool) → c ≡ (b || e) → (a || c) ≡ ((a || b) || e)
joined_or true b c e h = refl
joined_or false b c e h = h

-- the first ones with one more
among_more : (gone : List HashAndSize) (i : ℕ) (x d : HashAndSize) → i < length gone → x ≡ get_or gone i x → is_among (take (i + 1) gone) d ≡ (is_among (take i gone) d || same d x)
among_more [] i x d lt here = absurd (omega arith)
among_more (g ∷ gone) zero x d lt here = first_of_two (same d g) (same d x) (ap (same d) (sym here))
among_more (g ∷ gone) (suc i) x d lt here =
    let next : suc i + 1 ≡ suc (i + 1) = omega arith in
    ap (λ (k : ℕ). is_among (take k (g ∷ gone)) d) next ∙ joined_or (same d g) (is_among (take i gone) d) (is_among (take (i + 1) gone) d) (same d x) (among_more gone i x d (omega arith) here)

gone_by : {X : Type 0} (b c : Bool) (o : Option X) → (if c then None else (if b then None else o)) ≡ (if b || c then None else o)
gone_by true true o = refl
gone_by true false o = refl
gone_by false true o = refl
gone_by false false o = refl

-- one more body went
pub gone_more : (gone : List HashAndSize) (i : ℕ) (x d : HashAndSize) (bodies left now : Told) → i < length gone → x ≡ get_or gone i x
    → told_in left d ≡ (if is_among (take i gone) d then None else told_in bodies d) → told_in now d ≡ (if same x d then None else told_in left d)
    → told_in now d ≡ (if is_among (take (i + 1) gone) d then None else told_in bodies d)
gone_more gone i x d bodies left now lt here is one =
    one ∙ ap (λ (o : Option (Option (List ℕ))). if same x d then None else o) is
    ∙ ap (λ (b : Bool). if b then None else (if is_among (take i gone) d then None else told_in bodies d)) (same_swap x d)
    ∙ gone_by (is_among (take i gone) d) (same d x) (told_in bodies d)
    ∙ ap (λ (b : Bool). if b then None else told_in bodies d) (sym (among_more gone i x d lt here))

more_counted : (i n : ℕ) → counting 1 (counting i n) ≡ counting (i + 1) n
more_counted zero n = refl
more_counted (suc i) n =
    let one : min (min (n + suc i) (2 ^ 64 - 1) + 1) (2 ^ 64 - 1) ≡ min (n + suc (suc i)) (2 ^ 64 - 1) = omega arith in
    let next : suc (suc i) ≡ suc i + 1 = omega arith in
    one ∙ ap (λ (k : ℕ). counting k n) next

-- one more body is given up
pub one_more : (i : ℕ) (a b s : Shelved) → b ≡ discarding 1 a → a ≡ discarding i s → b ≡ discarding (i + 1) s
one_more i a b s e h = e ∙ ap (discarding 1) h ∙ ap (λ (n : ℕ). record s { discarded = n }) (more_counted i s.discarded)
