-- The calls that wait.
use Rattle.live_calls.specs.Places.{Waiting}
use Rattle.casd_connection.specs.declared.live.Live.{Live}

-- a call that waits: its stream, and where it waits
abbrev pub Waiter : Type 0
Waiter = Live Waiting
