-- What holds of a replay between two lines.
use Rattle.std.specs.Prelude.{◌≡◌, ◌+◌, ◌^◌, ◌≤◌, ℕ, List, ◌++◌, length, Option}
use Rattle.casd_base.specs.Streams.{Takes, Adds}
use Rattle.casd_server.specs.Cut.{lines_of}
use Rattle.casd_server.specs.Answer.{Seated}
use Rattle.casd_server.specs.Run.{Outcome, outcome}
use Rattle.casd_server.specs.Pending.{Pending}
use Rattle.casd_server.specs.Replay.{outcome_of}

-- an outcome behind some text that was written before
abbrev pub behind : List ℕ → Outcome → Outcome
behind text o = record { text = text ++ o.text; status = o.status }

-- Since the replay began some input was taken and some output added. Whatever comes next, the outcome of all is the
-- output, and then the outcome of what is pending and comes, from what is kept now.
pub record Going (left left' written written' : Option (List ℕ)) (pending : Pending) (kept : Seated) (number : ℕ) : Type 0 where
  pub input : List ℕ
  pub output : List ℕ
  pub takes : Takes left left' input
  pub adds : Adds written written' output
  pub rest : (more : List ℕ) → outcome_of (input ++ more) ≡ behind output (outcome kept number (lines_of (pending.bytes ++ more)))
  pub read : length input ≡ pending.read
  pub bounded : pending.read ≤ 2 ^ 50
  -- lines are fewer than the bytes that were read
  pub lines : number + length pending.bytes ≤ pending.read + 1
