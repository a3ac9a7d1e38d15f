-- What the owner of a bench's chosen seat asks of the store alone, and what it is answered.
use Rattle.std.specs.Prelude.{◌≡◌, ℕ, true, List, if◌then◌else◌}
use Rattle.digest_types.specs.Name.{HashAndSize}
use Rattle.store_core.specs.declared.event.Event.{Event}
use Rattle.store_core.specs.declared.event.Event.TheVariants as events
use Rattle.store_core.specs.declared.event.Reply.{Reply}
use Rattle.store_core.specs.declared.event.Reply.TheVariants as replies
use Rattle.store_core.specs.declared.event.Standing.{Standing}
use Rattle.store_core.specs.declared.event.Usage.{Usage}
use Rattle.store_core.specs.State.{State}
use Rattle.store_core.specs.Step.{is_here}
use Rattle.blob_store.specs.View.{View, holds}

-- The event moves no body, its owner neither comes nor goes, and a lease that it names is the owner's.
abbrev pub MayAsk : View → Event → Type 0
MayAsk v events.Open = ⊥
MayAsk v (events.Put d edges) = ⊥
MayAsk v (events.Find ds) = Unit {0}
MayAsk v (events.Read d) = Unit {0}
MayAsk v (events.Lease root kind) = Unit {0}
MayAsk v (events.Confirm id files) = holds v id ≡ true
MayAsk v (events.Release id) = holds v id ≡ true
MayAsk v (events.Damage d) = Unit {0}
MayAsk v events.Pass = ⊥
MayAsk v events.Usage = Unit {0}
MayAsk v events.Close = ⊥

-- the form of the reply to such an event, and whether a Read finds its blob in this state
abbrev pub IsAnswer : State → Event → Reply → Type 0
IsAnswer s events.Open reply = Unit {0}
IsAnswer s (events.Put d edges) reply = Unit {0}
IsAnswer s (events.Find ds) reply = (missing : List HashAndSize) × (reply ≡ replies.Missing missing)
IsAnswer s (events.Read d) reply = reply ≡ (if is_here s.rows d then replies.Found else replies.Absent)
IsAnswer s (events.Lease root kind) reply = (lease : ℕ) × (reply ≡ replies.Leased lease)
IsAnswer s (events.Confirm id files) reply = (standing : Standing) × (reply ≡ replies.Stands standing)
IsAnswer s (events.Release id) reply = reply ≡ replies.Released
IsAnswer s (events.Damage d) reply = reply ≡ replies.Marked
IsAnswer s events.Pass reply = Unit {0}
IsAnswer s events.Usage reply = (usage : Usage) × (reply ≡ replies.Used usage)
IsAnswer s events.Close reply = Unit {0}
