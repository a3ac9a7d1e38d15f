-- A run of a reader: pieces that are fed, and what is given in between.
use Rattle.std.specs.Prelude.{◌≡◌, ℕ, List, [], ◌∷◌, ◌++◌, Some, None, Ok}
use Rattle.h2_frames.specs.declared.frame.Frame.{Frame}
use Rattle.h2_frames.specs.Stream.{Pending, Answers, fed}

-- a piece was fed, a frame was given with its place, or there was none
pub data Event : Type 0 where
  piece : List ℕ → Event
  frame : ℕ × Frame → Event
  waited : Event

-- all bytes that were fed
abbrev pub bytes_of : List Event → List ℕ
bytes_of [] = []
bytes_of (piece bytes ∷ es) = bytes ++ bytes_of es
bytes_of (frame p ∷ es) = bytes_of es
bytes_of (waited ∷ es) = bytes_of es

-- all frames that were given
abbrev pub frames_of : List Event → List (ℕ × Frame)
frames_of [] = []
frames_of (piece bytes ∷ es) = frames_of es
frames_of (frame p ∷ es) = p ∷ frames_of es
frames_of (waited ∷ es) = frames_of es

-- without a refusal, these events lead from one reader to the other
abbrev pub Runs : Pending → List Event → Pending → Type 0
Runs r [] s = r ≡ s
Runs r (piece bytes ∷ es) s = (r.fault ≡ None) × Runs (fed bytes r) es s
Runs r (frame p ∷ es) s = (t : Pending) × Answers r t (Ok (Some p)) × Runs t es s
Runs r (waited ∷ es) s = (t : Pending) × Answers r t (Ok None) × Runs t es s
