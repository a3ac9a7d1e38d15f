-- A script that reads no body, run alone on a store, with memory at hand and a shelf that doesn't fail.
use Rattle.std.specs.Prelude.{◌≡◌, ℕ, List, [], ◌∷◌}
use Rattle.store_core.specs.State.{State}
use Rattle.store_core.specs.Step.{step}
use Rattle.store_core.specs.declared.event.Reply.{Reply}
use Rattle.cas_calls.specs.Script.{Script, End, Make, Room, Ask, Told, Did, Step, Made, Heard, Fit, Broke}

-- what it answers, and the store then
abbrev pub runs : {A : Type 0} → Script A → State → ℕ → A × State
runs (End answer) s owner = (answer, s)
runs (Make event k) s owner = runs (k (step s owner event).0) (step s owner event).1 owner
runs (Room wanting t) s owner = runs t s owner
runs (Ask asked k) s owner = runs (k Did) s owner

-- memory was never wanting
abbrev pub NoneBroke : List Step → Type 0
NoneBroke [] = Unit {0}
NoneBroke (Made event reply ∷ xs) = NoneBroke xs
NoneBroke (Heard asked told ∷ xs) = NoneBroke xs
NoneBroke (Fit ∷ xs) = NoneBroke xs
NoneBroke (Broke ∷ xs) = ⊥

-- the script ends with this answer, whatever the shelf tells
abbrev pub EndsWith : {A : Type 0} → A → Script A → Type 0
EndsWith answer (End a) = a ≡ answer
EndsWith answer (Make event k) = ⊥
EndsWith answer (Room wanting t) = ⊥
EndsWith answer (Ask asked k) = (told : Told) → EndsWith answer (k told)

-- wherever memory is wanting the script ends with this answer
abbrev pub GivesUp : {A : Type 0} → A → Script A → Type 0
GivesUp answer (End a) = Unit {0}
GivesUp answer (Make event k) = (reply : Reply) → GivesUp answer (k reply)
GivesUp answer (Room wanting t) = EndsWith answer wanting × GivesUp answer t
GivesUp answer (Ask asked k) = (told : Told) → GivesUp answer (k told)
