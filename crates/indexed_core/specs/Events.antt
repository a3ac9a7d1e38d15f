-- Kinds of events.
use Rattle.std.specs.Prelude.{Bool, true, false}
use Rattle.store_core.specs.declared.event.Event.{Event}
use Rattle.store_core.specs.declared.event.Event.TheVariants as events

-- whether an event may add rows or take some away, and with them bodies
abbrev pub moves_bodies : Event → Bool
moves_bodies events.Open = false
moves_bodies (events.Put d edges) = true
moves_bodies (events.Find ds) = false
moves_bodies (events.Read d) = false
moves_bodies (events.Lease root kind) = false
moves_bodies (events.Confirm id files) = false
moves_bodies (events.Release id) = false
moves_bodies (events.Damage d) = false
moves_bodies events.Pass = true
moves_bodies events.Usage = false
moves_bodies events.Close = false
