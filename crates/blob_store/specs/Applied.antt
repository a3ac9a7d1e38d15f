-- An event that is applied to the store, with its body, and the bodies that are given up.
use Rattle.std.specs.Prelude.{◌≡◌, ℕ, Option, Some, None, Result, Ok, Err}
use Rattle.store_core.specs.declared.event.Event.{Event}
use Rattle.store_core.specs.declared.event.Event.TheVariants as events
use Rattle.store_core.specs.declared.event.Reply.{Reply}
use Rattle.store_core.specs.declared.event.Reply.TheVariants as replies
use Rattle.blob_store.specs.Bodies.{Sealed}

-- no body
abbrev pub IsBare : Option Sealed → Type 0
IsBare None = Unit {0}
IsBare (Some body) = ⊥

-- a put has the body of its digest and links, and no other event has one
abbrev pub HasBody : Event → Option Sealed → Type 0
HasBody events.Open body = IsBare body
HasBody (events.Put d edges) None = ⊥
HasBody (events.Put d edges) (Some body) = (body.digest ≡ d) × (body.edges ≡ edges)
HasBody (events.Find ds) body = IsBare body
HasBody (events.Read d) body = IsBare body
HasBody (events.Lease root kind) body = IsBare body
HasBody (events.Confirm id files) body = IsBare body
HasBody (events.Release id) body = IsBare body
HasBody (events.Damage d) body = IsBare body
HasBody events.Pass body = IsBare body
HasBody events.Usage body = IsBare body
HasBody events.Close body = IsBare body

-- how many bodies a put gives up: its own where that isn't kept, and those of the rows that go
unfoldable pub replied_gives_up : Reply → ℕ
replied_gives_up (replies.Stored removed used) = removed
replied_gives_up _ = 1

abbrev pub put_gives_up : {E : Type 0} → Result Reply E → ℕ
put_gives_up (Ok reply) = replied_gives_up reply
put_gives_up (Err e) = 1

-- the same, where something else is answered beside the reply
abbrev pub gives_up_in : {A E : Type 0} → Result (Reply × A) E → ℕ
gives_up_in (Ok answer) = replied_gives_up answer.0
gives_up_in (Err e) = 1

-- how many bodies a put gives up beside those of the rows that go
unfoldable pub gives_up_beside : Reply → ℕ
gives_up_beside (replies.Stored removed used) = 0
gives_up_beside _ = 1

-- how many bodies a pass gives up
unfoldable pub passed_gives_up : Reply → ℕ
passed_gives_up (replies.Passed removed used) = removed
passed_gives_up _ = 0

abbrev pub pass_gives_up : {E : Type 0} → Result Reply E → ℕ
pass_gives_up (Ok reply) = passed_gives_up reply
pass_gives_up (Err e) = 0

-- how many bodies an event gives up
abbrev pub gives_up : {E : Type 0} → Event → Result Reply E → ℕ
gives_up events.Open result = 0
gives_up (events.Put d edges) result = put_gives_up result
gives_up (events.Find ds) result = 0
gives_up (events.Read d) result = 0
gives_up (events.Lease root kind) result = 0
gives_up (events.Confirm id files) result = 0
gives_up (events.Release id) result = 0
gives_up (events.Damage d) result = 0
gives_up events.Pass result = pass_gives_up result
gives_up events.Usage result = 0
gives_up events.Close result = 0
