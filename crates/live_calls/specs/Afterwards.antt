-- What a call may still do of its own accord when a turn has ended.
use Rattle.std.specs.Prelude.{ℕ}
use Rattle.live_calls.specs.declared.outcome.Outcome.TheVariants as outcomes
use Rattle.live_calls.specs.Places.{turns_due}
use Rattle.live_calls.specs.Turns.{Ending}

abbrev pub due_after : Ending → ℕ
due_after (outcomes.Rests place) = turns_due place
due_after (outcomes.Gives message place) = turns_due place
due_after (outcomes.Finishes message status) = 0
due_after outcomes.Vanishes = 0
