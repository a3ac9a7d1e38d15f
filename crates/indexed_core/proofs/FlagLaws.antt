-- What is told of rows that are sound.
use Rattle.std.proofs.Common.{◌≡◌, Bool, true, false, cond, ◌&&◌, List, [], ◌∷◌, Option, Some, None, refl, sym, ap, ◌∙◌}
use Rattle.std.specs.Prelude.{is_some, unwrap_or}
use Rattle.std.specs.Option.{option_map}
use Rattle.std.specs.Map.{lookup, set_value}
use Rattle.digest_types.specs.Name.{HashAndSize}
use Rattle.store_core.specs.State.{same}
use Rattle.store_core.proofs.Same.{equal_from_same, same_itself}
use Rattle.store_core.proofs.Guarding.{same_swap}
use Rattle.indexed_core.specs.Joined.{Soundness, told, sound_in, set_flag}

-- an entry of the map
abbrev pub Entry : Type 0
Entry = HashAndSize × Bool

-- ---- a flag that is set

-- the same digests have flags
pub set_has : (d e : HashAndSize) (sound : Bool) (flags : Soundness) → is_some (set_flag d sound flags e) ≡ is_some (flags e)
set_has d e sound flags = by (same d e) (flags e)
  where
    by : (b : Bool) (o : Option Bool) → is_some (cond b (option_map (λ _. sound) o) o) ≡ is_some o
    by true None = refl
    by true (Some x) = refl
    by false o = refl

-- the digest is sound as the test says, if it has a flag
pub set_same : (d : HashAndSize) (sound : Bool) (flags : Soundness) → sound_in (set_flag d sound flags) d ≡ (is_some (flags d) && sound)
set_same d sound flags = by (same d d) (flags d) (same_itself d)
  where
    by : (b : Bool) (o : Option Bool) → b ≡ true → unwrap_or (cond b (option_map (λ _. sound) o) o) false ≡ (is_some o && sound)
    by true None e = refl
    by true (Some x) e = refl
    by false o e = absurd cc

-- and another digest as before
pub set_other : (d e : HashAndSize) (sound : Bool) (flags : Soundness) → same e d ≡ false → sound_in (set_flag d sound flags) e ≡ sound_in flags e
set_other d e sound flags other = ap (λ (b : Bool). unwrap_or (cond b (option_map (λ _. sound) (flags e)) (flags e)) false) (same_swap d e ∙ other)

-- a digest that is sound has a flag
pub sound_has : (d : HashAndSize) (flags : Soundness) → (is_some (flags d) && sound_in flags d) ≡ sound_in flags d
sound_has d flags = by (flags d)
  where
    by : (o : Option Bool) → (is_some o && unwrap_or o false) ≡ unwrap_or o false
    by None = refl
    by (Some x) = refl

-- ---- a value that is set

set_at : (d q : HashAndSize) (sound : Bool) (entries : List Entry) → lookup (same q) (set_value (same d) entries sound) ≡ cond (same d q) (option_map (λ _. sound) (lookup (same q) entries)) (lookup (same q) entries)
set_at d q sound [] = by (same d q)
  where
    by : (b : Bool) → None ≡ cond b (option_map (λ (_ : Bool). sound) None) None
    by true = refl
    by false = refl
set_at d q sound (e ∷ es) = by (same d e.0) (same q e.0) (same d q) refl refl refl (set_at d q sound es)
  where
    same_cases : (b : Bool) (x : Bool) (o : Option Bool) → cond b (Some sound) o ≡ cond b (option_map (λ _. sound) (cond b (Some x) o)) (cond b (Some x) o)
    same_cases true x o = refl
    same_cases false x o = refl

    by : (a b c : Bool) → same d e.0 ≡ a → same q e.0 ≡ b → same d q ≡ c
        → lookup (same q) (set_value (same d) es sound) ≡ cond c (option_map (λ _. sound) (lookup (same q) es)) (lookup (same q) es)
        → lookup (same q) (cond a ((e.0, sound) ∷ es) (e ∷ set_value (same d) es sound)) ≡ cond c (option_map (λ _. sound) (cond b (Some e.1) (lookup (same q) es))) (cond b (Some e.1) (lookup (same q) es))
    by true b c s t u h =
        let alike : c ≡ b = sym u ∙ ap (λ (x : HashAndSize). same x q) (equal_from_same d e.0 s) ∙ same_swap e.0 q ∙ t in
        (λ i. cond (t i) (Some sound) (lookup (same q) es))
        ∙ same_cases b e.1 (lookup (same q) es)
        ∙ ap (λ (v : Bool). cond v (option_map (λ _. sound) (cond b (Some e.1) (lookup (same q) es))) (cond b (Some e.1) (lookup (same q) es))) (sym alike)
    by false true c s t u h =
        let other : c ≡ false = sym u ∙ ap (same d) (equal_from_same q e.0 t) ∙ s in
        (λ i. cond (t i) (Some e.1) (lookup (same q) (set_value (same d) es sound)))
        ∙ ap (λ (v : Bool). cond v (option_map (λ (_ : Bool). sound) (Some e.1)) (Some e.1)) (sym other)
    by false false c s t u h = (λ i. cond (t i) (Some e.1) (lookup (same q) (set_value (same d) es sound))) ∙ h

-- what the map tells then
pub flags_set : (d : HashAndSize) (sound : Bool) (entries : List Entry) → told (set_value (same d) entries sound) ≡ set_flag d sound (told entries)
flags_set d sound entries = (λ i q. set_at d q sound entries i)

-- where a digest has none, nothing is set
pub flags_none : (d : HashAndSize) (sound : Bool) (entries : List Entry) → lookup (same d) entries ≡ None → told entries ≡ set_flag d sound (told entries)
flags_none d sound entries e = (λ i q. by q (same d q) refl i)
  where
    by : (q : HashAndSize) (b : Bool) → same d q ≡ b → lookup (same q) entries ≡ cond b (option_map (λ _. sound) (lookup (same q) entries)) (lookup (same q) entries)
    by q true t = let none = ap (λ (x : HashAndSize). lookup (same x) entries) (sym (equal_from_same d q t)) ∙ e in none ∙ ap (option_map (λ _. sound)) (sym none)
    by q false t = refl
