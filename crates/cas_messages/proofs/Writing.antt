-- Writing values one after the other, as a loop does.
use Rattle.std.proofs.Common.{◌≡◌, ℕ, ◌+◌, ◌<◌, ◌≤◌, ℤ, List, [], ◌∷◌, ◌++◌, length, map, get_or, take, drop, take-append-drop, refl, sym, ap, subst, ◌∙◌, append_assoc}
use Rattle.std.specs.List.{AllByRecursion, flat_map}
use Rattle.std.specs.Result.{OnOk, OnErr}
use Rattle.std.specs.Prelude.{Result, Ok, Err, FitsSigned}
use Rattle.std.specs.Int.{w32, w64, cast_unsigned}
use Rattle.std.proofs.lemmas.List.{append-nil, take_more, take_all, map_more, take-map}
use Rattle.std.proofs.lemmas.List.Concat.{flat_map-append}
use Rattle.proto_wire.specs.Spelling.{varint}
use Rattle.cas_messages.specs.Spelling.{packed_content, AddsPart}
use Rattle.cas_messages.specs.Fits.{Short}

-- what holds anyway holds after a step that may fail
pub on_ok : {T E P : Type 0} (r : Result T E) → P → OnOk r P
on_ok (Ok x) h = h
on_ok (Err e) h = tt

-- one more value is written
pub wrote_more : {X : Type 0} (f : X → List ℕ) (xs : List X) (i : ℕ) (x : X) (start out new : List ℕ) → i < length xs → x ≡ get_or xs i x → out ≡ start ++ flat_map f (take i xs) → new ≡ out ++ f x → new ≡ start ++ flat_map f (take (i + 1) xs)
wrote_more f xs i x start out new lt is so_far step =
    let more : take (i + 1) xs ≡ take i xs ++ x ∷ [] = rw (take_more xs i x lt, ← is) refl in
    let one : flat_map f (take (i + 1) xs) ≡ flat_map f (take i xs) ++ f x = ap (flat_map f) more ∙ flat_map-append f (take i xs) (x ∷ []) ∙ ap (λ (b : List ℕ). flat_map f (take i xs) ++ b) (append-nil (f x)) in
    step ∙ ap (λ (b : List ℕ). b ++ f x) so_far ∙ append_assoc start (flat_map f (take i xs)) (f x) ∙ sym (ap (λ (b : List ℕ). start ++ b) one)

all_push : {X : Type 0} (P : X → Type 0) (xs : List X) (x : X) → AllByRecursion P xs → P x → AllByRecursion P (xs ++ x ∷ [])
all_push P [] x h p = (p, tt)
all_push P (y ∷ ys) x h p = (h.0, all_push P ys x h.1 p)

-- one more value fits
pub fits_more_at : {X : Type 0} (P : X → Type 0) (xs : List X) (i : ℕ) (d : X) → i < length xs → AllByRecursion P (take i xs) → P (get_or xs i d) → AllByRecursion P (take (i + 1) xs)
fits_more_at P xs i d lt so_far p = rw (take_more xs i d lt) (all_push P (take i xs) (get_or xs i d) so_far p)

pub fits_more : {X : Type 0} (P : X → Type 0) (xs : List X) (i : ℕ) (x : X) → i < length xs → x ≡ get_or xs i x → AllByRecursion P (take i xs) → P x → AllByRecursion P (take (i + 1) xs)
fits_more P xs i x lt is so_far p = fits_more_at P xs i x lt so_far (subst P is p)

-- one more number of a packed list is collected
pub number_more : (values : List ℤ) (i : ℕ) (d : ℤ) (n : ℕ) (numbers new : List ℕ) → i < length values → n ≡ cast_unsigned w64 (get_or values i d) → numbers ≡ map (cast_unsigned w64) (take i values) → new ≡ numbers ++ n ∷ []
    → new ≡ map (cast_unsigned w64) (take (i + 1) values)
number_more values i d n numbers new lt is so_far step = step ∙ rw (so_far, is) (sym (map_more (cast_unsigned w64) values i d lt))

-- what a step gives where it succeeds
pub on_ok_from : {T E P Q : Type 0} (r : Result T E) → (P → Q) → OnOk r P → OnOk r Q
on_ok_from (Ok x) f h = f h
on_ok_from (Err e) f h = tt

-- all numbers of a packed list fit, and their content is the one that was written
pub packed_fits : {T E : Type 0} (r : Result T E) (values : List ℤ) (i : ℕ) (numbers content : List ℕ) → length values ≤ i → AllByRecursion (FitsSigned w32) (take i values) → numbers ≡ map (cast_unsigned w64) (take i values)
    → content ≡ flat_map varint numbers → OnOk r (Short content) → OnOk r (AllByRecursion (FitsSigned w32) values × Short (packed_content values))
packed_fits r values i numbers content past fits so_far packed short =
    let all : take i values ≡ values = take_all i values past in
    let whole : content ≡ packed_content values = packed ∙ ap (flat_map varint) (so_far ∙ ap (map (cast_unsigned w64)) all) in
    on_ok_from r (λ s. (subst (AllByRecursion (FitsSigned w32)) all fits, subst Short whole s)) short

-- where a value of a list is refused, a prefix of the list is written
pub list_part : {T E X : Type 0} (r : Result T E) (f : X → List ℕ) (xs : List X) (i : ℕ) (start out new : List ℕ) → out ≡ start ++ flat_map f (take i xs) → new ≡ out → OnErr r (AddsPart start new (flat_map f xs))
list_part (Ok x) f xs i start out new so_far same = tt
list_part (Err e) f xs i start out new so_far same =
    let whole : flat_map f xs ≡ flat_map f (take i xs) ++ flat_map f (drop i xs) = sym (ap (flat_map f) (take-append-drop i xs)) ∙ flat_map-append f (take i xs) (drop i xs) in
    record { part = flat_map f (take i xs); rest = flat_map f (drop i xs); adds = same ∙ so_far; whole = whole }

pub mapped_part : {T E X Y : Type 0} (r : Result T E) (f : Y → List ℕ) (view : X → Y) (xs : List X) (i : ℕ) (start out new : List ℕ) → out ≡ start ++ flat_map f (map view (take i xs)) → new ≡ out → OnErr r (AddsPart start new (flat_map f (map view xs)))
mapped_part r f view xs i start out new so_far same = list_part r f (map view xs) i start out new (so_far ∙ ap (λ ys. start ++ flat_map f ys) (sym (take-map view i xs))) same
