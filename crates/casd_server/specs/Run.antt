-- The run of records: the lines of the input in turn, each from what the lines before it left.
use Rattle.std.specs.Prelude.{◌+◌, codes, ℕ, List, [], ◌∷◌, ◌++◌, Option, Some, None}
use Rattle.std.specs.Fmt.{decimal}
use Rattle.casd_server.specs.Cut.{lines_of}
use Rattle.casd_server.specs.Record.{Asked, record_of}
use Rattle.casd_server.specs.Answer.{Seated, new_seated, answer}

-- what a run writes, and its status: 0 where all lines were records, 3 where one was malformed
pub record Outcome : Type 0 where
  pub text : List ℕ
  pub status : ℕ

-- what is written for a malformed line; lines count from 1
abbrev pub malformed_text : ℕ → List ℕ
malformed_text number = codes "malformed line " ++ (decimal number ++ 10 ∷ [])

-- what a line writes, and what is kept after it, where it is a record
abbrev pub line_result : Seated → ℕ → Option Asked → List ℕ × Option Seated
line_result s number None = (malformed_text number, None)
line_result s number (Some r) = ((answer s r).0, Some (answer s r).1)

-- an outcome behind what a first line wrote; a malformed line ends the run
abbrev pub then_run : List ℕ × Option Seated → (Seated → Outcome) → Outcome
then_run (text, None) next = record { text = text; status = 3 }
then_run (text, Some s) next = record { text = text ++ (next s).text; status = (next s).status }

-- the outcome of some lines, the first of which has this number
unfoldable pub outcome : Seated → ℕ → List (List ℕ) → Outcome
outcome s number [] = record { text = []; status = 0 }
outcome s number (line ∷ lines) = then_run (line_result s number (record_of line)) (λ next. outcome next (number + 1) lines)

-- the outcome of an input over an empty store with these marks
abbrev pub run_of : ℕ → ℕ → List ℕ → Outcome
run_of low high input = outcome (new_seated low high) 1 (lines_of input)
