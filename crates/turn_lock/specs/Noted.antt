-- Entries as a diary notes them.
use Rattle.std.specs.Prelude.{ℕ}
use Rattle.store_core.specs.declared.event.Event.{Event}
use Rattle.store_core.specs.declared.event.Reply.{Reply}
use Rattle.store_core.specs.History.{Entry}

-- the entry of an owner, what it asked, and what was replied
abbrev pub entry : ℕ → Event → Reply → Entry
entry owner event reply = record { owner = owner; event = event; reply = reply }
