-- What a replay of records reads and writes, by its end.
use Rattle.std.specs.Prelude.{◌≡◌, ◌⊎◌, ◌^◌, ◌≤◌, codes, ℕ, List, [], ◌∷◌, ◌++◌, length, Option}
use Rattle.casd_base.specs.Streams.{Takes, Adds, IsEnded}
use Rattle.casd_server.specs.declared.records.End.{End}
use Rattle.casd_server.specs.declared.records.End.TheVariants as ends
use Rattle.casd_server.specs.Run.{Outcome, run_of}

-- the status of the process
abbrev pub status_of : End → ℕ
status_of ends.Done = 0
status_of ends.Refused = 2
status_of ends.Malformed = 3
status_of ends.ReadFault = 4
status_of ends.WriteFault = 5
status_of ends.OutOfMemory = 6
status_of ends.Spent = 7

-- the marks of a store that is told none
abbrev pub default_low : ℕ
default_low = 1_610_612_736

abbrev pub default_high : ℕ
default_high = 2_147_483_648

-- the outcome of an input over a new store
abbrev pub outcome_of : List ℕ → Outcome
outcome_of input = run_of default_low default_high input

-- the output is a first part of what the input's outcome writes
abbrev pub IsPart : List ℕ → List ℕ → Type 0
IsPart input output = (rest : List ℕ) × ((outcome_of input).text ≡ output ++ rest)

-- whatever stands behind the input changes nothing
abbrev pub IsSettled : List ℕ → Type 0
IsSettled input = (more : List ℕ) → outcome_of (input ++ more) ≡ outcome_of input

-- What the input and the output have to do with each other at an end, where `left` is what the source has left.
abbrev pub Answers : End → List ℕ → List ℕ → Option (List ℕ) → Type 0
-- all lines were answered, and the source has ended
Answers ends.Done input output left = (outcome_of input ≡ record { text = output; status = 0 }) × IsEnded left
-- the words were refused, and nothing was read or written
Answers ends.Refused input output left = (input ≡ []) × (output ≡ [])
-- A line was malformed. It has its newline or is too long, so that no more input changes it, or the source has ended.
Answers ends.Malformed input output left = (outcome_of input ≡ record { text = output; status = 3 }) × (IsSettled input ⊎ IsEnded left)
Answers ends.ReadFault input output left = IsPart input output
Answers ends.WriteFault input output left = IsPart input output
Answers ends.OutOfMemory input output left = IsPart input output
Answers ends.Spent input output left = IsPart input output × (length input ≡ 2 ^ 50)

-- There is an input of at most 2^50 bytes that was taken from the source and an output that was added to the sink, of
-- which all that holds.
pub record Replays (left left' written written' : Option (List ℕ)) (end : End) : Type 0 where
  pub input : List ℕ
  pub output : List ℕ
  pub bounded : length input ≤ 2 ^ 50
  pub takes : Takes left left' input
  pub adds : Adds written written' output
  pub answers : Answers end input output left'

-- the words that ask for a replay of records
abbrev pub AreRecordsWords : List (List ℕ) → Type 0
AreRecordsWords words =
    (words ≡ codes "replay" ∷ codes "records" ∷ []) ⊎ (words ≡ codes "replay" ∷ codes "records" ∷ codes "--" ∷ [])
