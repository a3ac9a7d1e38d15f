-- Which events may find no memory.
use Rattle.std.specs.Prelude.{Bool, true, false}
use Rattle.store_core.specs.declared.state.Guard.{Guard}
use Rattle.store_core.specs.declared.event.Event.{Event}
use Rattle.store_core.specs.declared.event.Event.TheVariants as events
use Rattle.store_core.specs.State.{is_session}

-- Whether an event needs memory to be served: a Read only where it is held.
abbrev pub takes_memory : Guard → Event → Bool
takes_memory guard events.Open = true
takes_memory guard (events.Put d edges) = true
takes_memory guard (events.Find ds) = true
takes_memory guard (events.Read d) = is_session guard
takes_memory guard (events.Lease root kind) = true
takes_memory guard (events.Confirm id files) = true
takes_memory guard (events.Release id) = false
takes_memory guard (events.Damage d) = false
takes_memory guard events.Pass = false
takes_memory guard events.Usage = false
takes_memory guard events.Close = false

-- whether an event has the plain core walk from the roots of the leases, which takes memory
abbrev pub walks : Event → Bool
walks events.Open = false
walks (events.Put d edges) = true
walks (events.Find ds) = false
walks (events.Read d) = false
walks (events.Lease root kind) = false
walks (events.Confirm id files) = true
walks (events.Release id) = false
walks (events.Damage d) = false
walks events.Pass = true
walks events.Usage = true
walks events.Close = false
