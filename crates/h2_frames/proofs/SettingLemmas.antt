-- Settings one after the other, as a loop reads and writes them.
use Rattle.std.specs.Prelude.{OnErr}
use Rattle.std.proofs.Common.{Result, Ok, Err, subst, ◌≡◌, ℕ, ◌+◌, ◌*◌, ◌^◌, ◌<◌, ◌≤◌, List, [], ◌∷◌, ◌++◌, length, drop, take, get_or, refl, sym, ap, ◌∙◌, append_assoc, arith}
use Rattle.std.specs.List.{flat_map}
use Rattle.std.specs.Int.{w16, from_be_bytes}
use Rattle.std.proofs.lemmas.List.{append-nil, take_all, take_more, take-append-drop}
use Rattle.h2_frames.specs.Layout.{number_at}
use Rattle.h2_frames.specs.Reading.{settings_in}
use Rattle.std.proofs.lemmas.Grind.{flat_map-append}
use Rattle.h2_frames.specs.Spelling.{setting, header_bytes, framed, HasSettings, AddsPart}

-- the first setting, and those behind it
pub settings_step : (rest : List ℕ) → 6 ≤ length rest → settings_in rest ≡ (from_be_bytes w16 (get_or rest 0 0 ∷ get_or rest 1 0 ∷ []), number_at 2 rest) ∷ settings_in (drop 6 rest)
unfolding settings_in
settings_step (a ∷ b ∷ c ∷ d ∷ e ∷ f ∷ rest) h = refl
settings_step [] h = absurd (omega arith)
settings_step (a ∷ []) h = absurd (omega arith)
settings_step (a ∷ b ∷ []) h = absurd (omega arith)
settings_step (a ∷ b ∷ c ∷ []) h = absurd (omega arith)
settings_step (a ∷ b ∷ c ∷ d ∷ []) h = absurd (omega arith)
settings_step (a ∷ b ∷ c ∷ d ∷ e ∷ []) h = absurd (omega arith)

pub settings_end : (rest : List ℕ) → length rest < 6 → settings_in rest ≡ []
unfolding settings_in
settings_end (a ∷ b ∷ c ∷ d ∷ e ∷ f ∷ rest) h = absurd (omega arith)
settings_end [] h = refl
settings_end (a ∷ []) h = refl
settings_end (a ∷ b ∷ []) h = refl
settings_end (a ∷ b ∷ c ∷ []) h = refl
settings_end (a ∷ b ∷ c ∷ d ∷ []) h = refl
settings_end (a ∷ b ∷ c ∷ d ∷ e ∷ []) h = refl

-- one more setting was read
pub settings_more : (items new : List (ℕ × ℕ)) (rest : List ℕ) (all : List (ℕ × ℕ)) (name : ℕ) (value : ℕ) → 6 ≤ length rest → name ≡ from_be_bytes w16 (get_or rest 0 0 ∷ get_or rest 1 0 ∷ []) → value ≡ number_at 2 rest → new ≡ items ++ (name, value) ∷ [] → items ++ settings_in rest ≡ all → new ++ settings_in (drop 6 rest) ≡ all
settings_more items new rest all name value h n v pushed so_far =
    let first : (name, value) ∷ settings_in (drop 6 rest) ≡ settings_in rest = rw (n, v) (sym (settings_step rest h)) in
    ap (λ (xs : List (ℕ × ℕ)). xs ++ settings_in (drop 6 rest)) pushed ∙ append_assoc items ((name, value) ∷ []) (settings_in (drop 6 rest)) ∙ ap (λ (xs : List (ℕ × ℕ)). items ++ xs) first ∙ so_far

-- all settings were read
pub settings_all : (items : List (ℕ × ℕ)) (rest : List ℕ) (all : List (ℕ × ℕ)) → length rest < 6 → items ++ settings_in rest ≡ all → items ≡ all
settings_all items rest all h so_far = sym (append-nil items) ∙ ap (λ (xs : List (ℕ × ℕ)). items ++ xs) (sym (settings_end rest h)) ∙ so_far

-- how long settings are
pub settings_len : (values : List (ℕ × ℕ)) → length (flat_map setting values) ≡ 6 * length values
settings_len [] = refl
settings_len (v ∷ vs) = omega (arith, settings_len vs)

-- all settings were written
pub settings_written : (old new : List ℕ) (values : List (ℕ × ℕ)) (flags i : ℕ) → i ≤ length values → length values ≤ i → new ≡ old ++ (header_bytes (6 * length values) 4 flags 0 0 ++ flat_map setting (take i values)) → new ≡ old ++ framed 4 flags 0 (flat_map setting values)
settings_written old new values flags i low high so_far =
    let whole : take i values ≡ values = take_all i values high in
    let len : 6 * length values ≡ length (flat_map setting values) = sym (settings_len values) in
    so_far
    ∙ ap (λ (vs : List (ℕ × ℕ)). old ++ (header_bytes (6 * length values) 4 flags 0 0 ++ flat_map setting vs)) whole
    ∙ ap (λ (n : ℕ). old ++ (header_bytes n 4 flags 0 0 ++ flat_map setting values)) len

-- some settings were written
pub settings_part : (old before new : List ℕ) (values : List (ℕ × ℕ)) (flags i : ℕ) → before ≡ old ++ (header_bytes (6 * length values) 4 flags 0 0 ++ flat_map setting (take i values)) → new ≡ before → AddsPart old new (framed 4 flags 0 (flat_map setting values))
settings_part old before new values flags i so_far same =
    let parts : flat_map setting (take i values) ++ flat_map setting (drop i values) ≡ flat_map setting values =
    sym (flat_map-append setting (take i values) (drop i values)) ∙ ap (λ (vs : List (ℕ × ℕ)). flat_map setting vs) (take-append-drop i values) in
    let len : 6 * length values ≡ length (flat_map setting values) = sym (settings_len values) in
    record {
      front = header_bytes (6 * length values) 4 flags 0 0 ++ flat_map setting (take i values);
      rest = flat_map setting (drop i values);
      added = same ∙ so_far;
      whole = ap (λ (ys : List ℕ). header_bytes (6 * length values) 4 flags 0 0 ++ ys) parts ∙ ap (λ (n : ℕ). header_bytes n 4 flags 0 0 ++ flat_map setting values) len;
    }

pub on_err : {A E P : Type 0} (r : Result A E) → P → OnErr r P
on_err (Ok x) p = tt
on_err (Err e) p = p

-- each number is one of its type
pub typed_all : (values : List (ℕ × ℕ)) (i : ℕ) → length values ≤ i → HasSettings (take i values) → HasSettings values
typed_all values i high typed = subst HasSettings (take_all i values high) typed

typed_cons : (values : List (ℕ × ℕ)) (s : ℕ × ℕ) → HasSettings values → s.0 < 2 ^ 16 → s.1 < 2 ^ 32 → HasSettings (values ++ s ∷ [])
typed_cons [] s typed name value = (name, value, tt)
typed_cons (v ∷ vs) s typed name value = (typed.0, typed.1, typed_cons vs s typed.2 name value)

pub typed_more : (values : List (ℕ × ℕ)) (i : ℕ) (d : ℕ × ℕ) → i < length values → (get_or values i d).0 < 2 ^ 16 → (get_or values i d).1 < 2 ^ 32 → HasSettings (take i values) → HasSettings (take (i + 1) values)
typed_more values i d inside name value typed =
    let more : take (i + 1) values ≡ take i values ++ get_or values i d ∷ [] = take_more values i d inside in
    subst HasSettings (sym more) (typed_cons (take i values) (get_or values i d) typed name value)
