-- What follows from a reading that gave a value, or failed, step by step. The errors are of any type.
use Rattle.std.proofs.Common.{◌≡◌, ◌++◌, Bool, true, false, cond, List, [], ◌∷◌, ◌⊎◌, inl, inr, Result, Ok, Err, refl, sym, ap, append_assoc}
use Rattle.proto_wire.specs.Steps.{◌>>=◌, Unless, FailsBut, with_front}

-- the value of a step that did not fail
pub bind_ok : {A B E : Type 0} (r : Result A E) (f : A → Result B E) (y : B) → (r >>= f) ≡ Ok y → (x : A) × (r ≡ Ok x) × (f x ≡ Ok y)
bind_ok (Ok x) f y e = (x, refl, e)
bind_ok (Err d) f y e = absurd cc

-- a test that did not fail
pub guard_ok : {A E : Type 0} (b : Bool) (d : E) (x y : A) → cond b (Err d) (Ok x) ≡ Ok y → (b ≡ false) × (x ≡ y)
guard_ok true d x y e = absurd cc
guard_ok false d x y e = (refl, cc)

-- the side of a test, and which way it went
pub chosen : {A : Type 0} (b : Bool) (x y z : A) → cond b x y ≡ z → ((b ≡ true) × (x ≡ z)) ⊎ ((b ≡ false) × (y ≡ z))
chosen true x y z e = inl (refl, e)
chosen false x y z e = inr (refl, e)

-- a test that failed before a value
pub passed : {A E : Type 0} (b : Bool) (d : E) (r : Result A E) (y : A) → cond b (Err d) r ≡ Ok y → (b ≡ false) × (r ≡ Ok y)
passed true d r y e = absurd cc
passed false d r y e = (refl, e)

-- a test that held before a value
pub held : {A E : Type 0} (b : Bool) (d : E) (r : Result A E) (y : A) → cond b r (Err d) ≡ Ok y → (b ≡ true) × (r ≡ Ok y)
held true d r y e = (refl, e)
held false d r y e = absurd cc

-- the same before a value that is there already
pub held_ok : {A E : Type 0} (b : Bool) (d : E) (x y : A) → cond b (Ok x) (Err d) ≡ Ok y → (b ≡ true) × (x ≡ y)
held_ok true d x y e = (refl, cc)
held_ok false d x y e = absurd cc

-- two equal answers have one value
abbrev pub done : (E : Type 0) {A : Type 0} → A → Result A E
done E x = Ok x

pub ok_is : {A E : Type 0} (x y : A) → done E x ≡ done E y → x ≡ y
ok_is x y e = cc

-- two ways to go on that do the same with the value
pub bind_same : {A B E : Type 0} (r : Result A E) (f g : A → Result B E) → ((x : A) → r ≡ Ok x → f x ≡ g x) → (r >>= f) ≡ (r >>= g)
bind_same (Ok x) f g same = same x refl
bind_same (Err d) f g same = refl

-- where a fault of two steps comes from
pub bind_err : {A B E : Type 0} (r : Result A E) (f : A → Result B E) (e : E) → (r >>= f) ≡ Err e → (r ≡ Err e) ⊎ ((x : A) × (r ≡ Ok x) × (f x ≡ Err e))
bind_err (Ok x) f e h = inr (x, refl, h)
bind_err (Err d) f e h = inl cc

unless_along : {X Y : Type 0} (b : Bool) → (X → Y) → Unless b X → Unless b Y
unless_along true along h = tt
unless_along false along h = along h

-- a refusal of one step refuses the whole, where each fault of the step is one of the whole
pub fails_along : {A B E : Type 0} (wants_memory : E → Bool) (e : E) (r : Result A E) (total : Result B E) → (r ≡ Err e → total ≡ Err e) → FailsBut wants_memory e r → FailsBut wants_memory e total
fails_along wants_memory e r total along h = unless_along (wants_memory e) along h

-- ---- what was read before, then what is read now

pub regroup : {A E : Type 0} (front : List A) (x : A) (read : Result (List A) E) → with_front front (read >>= λ xs. Ok (x ∷ xs)) ≡ with_front (front ++ x ∷ []) read
regroup {A = A} {E = E} front x (Ok xs) = ap (done E) (sym (append_assoc front (x ∷ []) xs))
regroup front x (Err e) = refl

pub same : {A E : Type 0} (read : Result (List A) E) → with_front [] read ≡ read
same (Ok xs) = refl
same (Err e) = refl
