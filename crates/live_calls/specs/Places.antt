-- Where a call waits.
use Rattle.std.specs.Prelude.{◌+◌, ◌-◌, ℕ, Bool, true, false, Some, None}
use Rattle.byte_stream.specs.Read.{ReadState}
use Rattle.live_calls.specs.declared.method.Method.{Method}
use Rattle.live_calls.specs.declared.place.Messages.{Messages}
use Rattle.live_calls.specs.declared.place.Kept.{Kept}
use Rattle.live_calls.specs.declared.place.Kept.TheVariants as kept

pub data Waiting : Type 0 where
  -- a call that takes one message, until the peer half-closes
  Unary : Method → Messages → Waiting
  -- a Read that gives its responses
  Reading : ReadState → Waiting
  -- it has its turn
  Away : Waiting

-- what is kept of a call is where it waits
abbrev pub waiting_at : {K A B C : Type 0} → Kept K A B C → Waiting
waiting_at (kept.Unary method messages) = Unary method messages
waiting_at (kept.Reading s) = Reading s
waiting_at kept.Away = Away

-- whether a call that waits so gives responses of its own accord
abbrev pub is_giving : Waiting → Bool
is_giving (Reading s) = true
is_giving _ = false

-- how many turns it may still take of its own accord, at most
abbrev pub turns_due : Waiting → ℕ
turns_due (Reading s) = s.place.stop - s.place.next + 1
turns_due _ = 0
