-- The steps of a reading, whatever its errors are: how it goes on or stops, and what an answer of the code says of it.
use Rattle.std.specs.Prelude.{◌≡◌, ◌++◌, Bool, true, false, List, Result, Ok, Err}

-- the next step, where the one before gave a value
infixl 10 ◌>>=◌
abbrev pub ◌>>=◌ : {A B E : Type 0} → Result A E → (A → Result B E) → Result B E
(Ok x) >>= f = f x
(Err e) >>= f = Err e

-- a claim that is made only where the test fails
abbrev pub Unless : Bool → Type 0 → Type 0
Unless true X = Unit {0}
Unless false X = X

-- What a refusal of the code says of what reading gives: the same refusal, unless it is want of memory, which says nothing.
abbrev pub FailsBut : {Y E : Type 0} → (E → Bool) → E → Result Y E → Type 0
FailsBut wants_memory e read = Unless (wants_memory e) (read ≡ Err e)

-- What a function of the code returned, seen by view, is what reading gives, unless memory ran out.
abbrev pub GivesBut : {X Y E : Type 0} → (E → Bool) → (X → Y) → Result X E → Result Y E → Type 0
GivesBut wants_memory view (Ok x) read = read ≡ Ok (view x)
GivesBut wants_memory view (Err e) read = FailsBut wants_memory e read

-- what was read before, then what is read now
abbrev pub with_front : {A E : Type 0} → List A → Result (List A) E → Result (List A) E
with_front front read = read >>= λ xs. Ok (front ++ xs)
