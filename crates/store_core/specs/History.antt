-- Histories: what happened to the store, in order.
use Rattle.std.specs.Prelude.{◌≡◌, ◌≢◌, ◌++◌, not, nat_eq, map, ℕ, List, [], ◌∷◌, filter}
use Rattle.store_core.specs.declared.state.Lease.{Lease}
use Rattle.store_core.specs.declared.event.Event.{Event}
use Rattle.store_core.specs.declared.event.Event.TheVariants as events
use Rattle.store_core.specs.declared.event.Reply.{Reply}
use Rattle.store_core.specs.declared.event.Reply.TheVariants as replies
use Rattle.store_core.specs.State.{State, has_id, is_of_owner}
use Rattle.store_core.specs.Step.{step}

-- what an owner asked, and what was replied; at Open the owner is the one that comes
pub record Entry : Type 0 where
  pub owner : ℕ
  pub event : Event
  pub reply : Reply

-- the state after a history
unfoldable pub state : State → List Entry → State
state s [] = s
state s (entry ∷ entries) = state (step s entry.owner entry.event).1 entries

-- where the reply tells the number of a new owner, it is the entry's owner
abbrev pub IsNumbered : ℕ → Reply → Type 0
IsNumbered owner (replies.Opened number) = owner ≡ number
IsNumbered owner (replies.Stored removed used) = Unit {0}
IsNumbered owner replies.Present = Unit {0}
IsNumbered owner replies.Repaired = Unit {0}
IsNumbered owner (replies.NoSpace guarded size high) = Unit {0}
IsNumbered owner (replies.Missing ds) = Unit {0}
IsNumbered owner replies.Found = Unit {0}
IsNumbered owner replies.Absent = Unit {0}
IsNumbered owner (replies.Leased lease) = Unit {0}
IsNumbered owner (replies.Stands standing) = Unit {0}
IsNumbered owner replies.Released = Unit {0}
IsNumbered owner replies.Marked = Unit {0}
IsNumbered owner (replies.Passed removed used) = Unit {0}
IsNumbered owner (replies.Used usage) = Unit {0}
IsNumbered owner replies.Closed = Unit {0}
IsNumbered owner replies.Refused = Unit {0}

-- an entry that may stand where the store is in this state: its reply is the step's, and isn't Refused
pub record IsLegalAt (s : State) (entry : Entry) : Type 0 where
  pub reply : entry.reply ≡ (step s entry.owner entry.event).0
  pub served : entry.reply ≢ replies.Refused
  pub numbered : IsNumbered entry.owner entry.reply

-- a history each of whose entries may stand where it stands
abbrev pub Legal : State → List Entry → Type 0
Legal s [] = Unit {0}
Legal s (entry ∷ entries) = IsLegalAt s entry × Legal (step s entry.owner entry.event).1 entries

-- the entries of one owner
abbrev pub own : ℕ → List Entry → List Entry
own owner entries = filter (λ entry. nat_eq entry.owner owner) entries

-- ---- the leases of one owner, by its own entries alone

-- the number that a reply tells of a new lease, if it tells one
abbrev pub new_lease : Reply → List ℕ
new_lease (replies.Opened number) = []
new_lease (replies.Stored removed used) = []
new_lease replies.Present = []
new_lease replies.Repaired = []
new_lease (replies.NoSpace guarded size high) = []
new_lease (replies.Missing ds) = []
new_lease replies.Found = []
new_lease replies.Absent = []
new_lease (replies.Leased lease) = lease ∷ []
new_lease (replies.Stands standing) = []
new_lease replies.Released = []
new_lease replies.Marked = []
new_lease (replies.Passed removed used) = []
new_lease (replies.Used usage) = []
new_lease replies.Closed = []
new_lease replies.Refused = []

-- the leases of an owner after an entry of it, from those before: Lease adds one, with the number replied, and Release takes one away
abbrev pub own_after : ℕ → Event → Reply → List Lease → List Lease
own_after owner events.Open reply leases = leases
own_after owner (events.Put d edges) reply leases = leases
own_after owner (events.Find ds) reply leases = leases
own_after owner (events.Read d) reply leases = leases
own_after owner (events.Lease root kind) reply leases = leases ++ map (λ id. record { id = id; owner = owner; root = record { kind = kind; digest = root } }) (new_lease reply)
own_after owner (events.Confirm id files) reply leases = leases
own_after owner (events.Release id) reply leases = filter (λ other. not (has_id id other)) leases
own_after owner (events.Damage d) reply leases = leases
own_after owner events.Pass reply leases = leases
own_after owner events.Usage reply leases = leases
own_after owner events.Close reply leases = leases

-- the leases of an owner after a list of its own entries
abbrev pub own_leases : ℕ → List Lease → List Entry → List Lease
own_leases owner leases [] = leases
own_leases owner leases (entry ∷ entries) = own_leases owner (own_after owner entry.event entry.reply leases) entries

-- the leases of an owner in a state
abbrev pub leases_of : ℕ → State → List Lease
leases_of owner s = filter (is_of_owner owner) s.leases
