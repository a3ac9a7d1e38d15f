-- What a loop over fields has found, one field on.
use Rattle.std.proofs.Common.{◌≡◌, ℕ, ◌+◌, ◌-◌, ◌<◌, List, [], ◌∷◌, ◌++◌, length, get_or, take, map, Option, Some, None, refl, sym, ap, ◌∙◌, arith}
use Rattle.std.specs.List.{filter_map, concat}
use Rattle.std.proofs.lemmas.List.{append-nil, map_more, get_or_at, length_push, take-map}
use Rattle.std.proofs.lemmas.List.Elements.{filter_map-append}
use Rattle.std.proofs.lemmas.List.Folds.{concat-append}
use Rattle.std.proofs.lemmas.Option.{slice_get-get_or}
use Rattle.proto_wire.specs.Field.{last_of}

kept : {X Y : Type 0} (h : X → Option Y) (x : X) (y : Y) → h x ≡ Some y → filter_map h (x ∷ []) ≡ y ∷ []
kept h x y e = rw e refl

left_out : {X Y : Type 0} (h : X → Option Y) (x : X) → h x ≡ None → filter_map h (x ∷ []) ≡ []
left_out h x e = rw e refl

filtered : {X Y Z : Type 0} (h : Y → Option Z) (v : X → Y) (items : List X) (i : ℕ) (d : X) → i < length items → filter_map h (map v (take (i + 1) items)) ≡ filter_map h (map v (take i items)) ++ filter_map h (v (get_or items i d) ∷ [])
filtered h v items i d lt = ap (filter_map h) (map_more v items i d lt) ∙ filter_map-append h (map v (take i items)) (v (get_or items i d) ∷ [])

pub one_more : {X Y Z : Type 0} (h : Y → Option Z) (v : X → Y) (items : List X) (i : ℕ) (d : X) (z : Z) → i < length items → h (v (get_or items i d)) ≡ Some z → filter_map h (map v (take (i + 1) items)) ≡ filter_map h (map v (take i items)) ++ z ∷ []
one_more h v items i d z lt e = filtered h v items i d lt ∙ ap (λ zs. filter_map h (map v (take i items)) ++ zs) (kept h (v (get_or items i d)) z e)

pub no_more : {X Y Z : Type 0} (h : Y → Option Z) (v : X → Y) (items : List X) (i : ℕ) (d : X) → i < length items → h (v (get_or items i d)) ≡ None → filter_map h (map v (take (i + 1) items)) ≡ filter_map h (map v (take i items))
no_more h v items i d lt e = filtered h v items i d lt ∙ ap (λ zs. filter_map h (map v (take i items)) ++ zs) (left_out h (v (get_or items i d)) e) ∙ append-nil (filter_map h (map v (take i items)))

last_at : {A : Type 0} (xs ys : List A) (y : A) → ys ≡ xs ++ y ∷ [] → last_of ys ≡ Some y
last_at xs ys y e =
    rw e (slice_get-get_or (xs ++ y ∷ []) (length (xs ++ y ∷ []) - 1) y (omega (arith, length_push xs y)) ∙ ap (λ z. Some z) (get_or_at xs y [] y (length (xs ++ y ∷ []) - 1) (omega (arith, length_push xs y))))

-- the last one, where one more was found
pub last_more : {X Y Z : Type 0} (h : Y → Option Z) (v : X → Y) (items : List X) (i : ℕ) (d : X) (z : Z) → i < length items → h (v (get_or items i d)) ≡ Some z → last_of (filter_map h (map v (take (i + 1) items))) ≡ Some z
last_more h v items i d z lt e = last_at (filter_map h (map v (take i items))) (filter_map h (map v (take (i + 1) items))) z (one_more h v items i d z lt e)

-- the parts joined so far, one part on
pub joined_more : {X : Type 0} (v : X → List ℕ) (items : List X) (i : ℕ) (d : X) (old new : List ℕ) → i < length items → new ≡ old ++ v (get_or items i d) → old ≡ concat (take i (map v items)) → new ≡ concat (take (i + 1) (map v items))
joined_more v items i d old new lt added so_far =
    let now : take (i + 1) (map v items) ≡ take i (map v items) ++ v (get_or items i d) ∷ [] = take-map v (i + 1) items ∙ map_more v items i d lt ∙ ap (λ (parts : List (List ℕ)). parts ++ v (get_or items i d) ∷ []) (sym (take-map v i items)) in
    let more : concat (take i (map v items) ++ v (get_or items i d) ∷ []) ≡ concat (take i (map v items)) ++ v (get_or items i d) = concat-append (take i (map v items)) (v (get_or items i d) ∷ []) ∙ ap (λ (x : List ℕ). concat (take i (map v items)) ++ x) (append-nil (v (get_or items i d))) in
    added ∙ ap (λ (x : List ℕ). x ++ v (get_or items i d)) so_far ∙ sym more ∙ ap concat (sym now)
