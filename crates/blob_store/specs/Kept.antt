-- A store with the bodies of its rows, and what becomes of them.
use Rattle.std.specs.Prelude.{◌≡◌, ◌&&◌, ℕ, Bool, true, false, List, Option, Some, None, is_some, if◌then◌else◌}
use Rattle.std.specs.Map.{lookup}
use Rattle.digest_types.specs.Name.{HashAndSize}
use Rattle.store_core.specs.declared.state.Row.{Row}
use Rattle.store_core.specs.declared.event.Reply.{Reply}
use Rattle.store_core.specs.declared.event.Reply.TheVariants as replies
use Rattle.store_core.specs.State.{State, same}
use Rattle.store_core.specs.State.{has_row}
use Rattle.blob_store.specs.Bodies.{Sealed}

-- bodies by their digests, each with its bytes where it tells them
abbrev pub Told : Type 0
Told = List (HashAndSize × Option (List ℕ))

-- what the body of a digest tells, if it has one
abbrev pub told_in : Told → HashAndSize → Option (Option (List ℕ))
told_in bodies d = lookup (same d) bodies

-- the bodies that are kept, and for how many more there is room
pub record Kept : Type 0 where
  pub bodies : Told
  pub room : ℕ

-- a store: its state, and the bodies of its rows
pub record Stocked : Type 0 where
  pub state : State
  pub bodies : Told

-- just the rows have bodies
abbrev pub AreBodiesOf : List Row → Told → Type 0
AreBodiesOf rows bodies = (d : HashAndSize) → is_some (told_in bodies d) ≡ has_row rows d

-- the body that a row keeps
abbrev pub kept_in : Stocked → List Row → HashAndSize → Option (Option (List ℕ))
kept_in old rows d = if has_row rows d then told_in old.bodies d else None

-- each row that is still there keeps its body
abbrev pub KeepsBodies : Stocked → Stocked → Type 0
KeepsBodies old new = (d : HashAndSize) → told_in new.bodies d ≡ kept_in old new.state.rows d

-- whether a put with this reply keeps its body
abbrev pub keeps_body : Reply → Bool
keeps_body (replies.Stored removed used) = true
keeps_body replies.Repaired = true
keeps_body _ = false

-- After a put with this reply, its digest has the body of the put where that is kept, and each other row that is still there
-- keeps its own.
abbrev pub PutsBody : Sealed → Reply → Stocked → Stocked → Type 0
PutsBody blob reply old new = (d : HashAndSize) → told_in new.bodies d ≡ (if keeps_body reply && same blob.digest d then Some blob.told else kept_in old new.state.rows d)

-- the same of any event, which has a body where it is a put
abbrev pub MovesBody : Option Sealed → Reply → Stocked → Stocked → Type 0
MovesBody None reply old new = KeepsBodies old new
MovesBody (Some blob) reply old new = PutsBody blob reply old new
