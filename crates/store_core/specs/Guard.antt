-- What guards keep. As long as a lease stands, so do all that it reaches, and their rows; and under the session guard an
-- owner keeps the rows of what it put and read.
use Rattle.std.specs.Prelude.{◌≡◌, ◌&&◌, nat_eq, ℕ, Bool, true, false, List, [], ◌∷◌, Contains, Some, if◌then◌else◌}
use Rattle.digest_types.specs.Name.{HashAndSize}
use Rattle.directory_canon.specs.declared.node.Edge.{Edge}
use Rattle.store_core.specs.declared.state.Row.{Row}
use Rattle.store_core.specs.declared.state.Lease.{Lease}
use Rattle.store_core.specs.declared.event.Event.{Event}
use Rattle.store_core.specs.declared.event.Event.TheVariants as events
use Rattle.store_core.specs.declared.event.Reply.{Reply}
use Rattle.store_core.specs.declared.event.Reply.TheVariants as replies
use Rattle.store_core.specs.State.{State, same, row_of}
use Rattle.store_core.specs.Reach.{blobs, reaches, is_reached}
use Rattle.store_core.specs.Step.{tells_there}
use Rattle.store_core.specs.History.{Entry}

-- whether the event is a Release of this lease
abbrev pub releases : ℕ → Event → Bool
releases lease events.Open = false
releases lease (events.Put d edges) = false
releases lease (events.Find ds) = false
releases lease (events.Read d) = false
releases lease (events.Lease root kind) = false
releases lease (events.Confirm id files) = false
releases lease (events.Release id) = nat_eq id lease
releases lease (events.Damage d) = false
releases lease events.Pass = false
releases lease events.Usage = false
releases lease events.Close = false

-- whether an entry is the Release of this lease by its owner
abbrev pub is_release : Lease → Entry → Bool
is_release lease entry = nat_eq entry.owner lease.owner && releases lease.id entry.event

-- whether the reply is Repaired
abbrev pub is_repaired : Reply → Bool
is_repaired (replies.Opened number) = false
is_repaired (replies.Stored removed used) = false
is_repaired replies.Present = false
is_repaired replies.Repaired = true
is_repaired (replies.NoSpace guarded size high) = false
is_repaired (replies.Missing ds) = false
is_repaired replies.Found = false
is_repaired replies.Absent = false
is_repaired (replies.Leased lease) = false
is_repaired (replies.Stands standing) = false
is_repaired replies.Released = false
is_repaired replies.Marked = false
is_repaired (replies.Passed removed used) = false
is_repaired (replies.Used usage) = false
is_repaired replies.Closed = false
is_repaired replies.Refused = false

-- Whether the row of a digest is sound after an entry, by whether it was before: Damage of it makes it unsound, and a
-- Put of it that answers Repaired sound again.
abbrev pub sound_by : HashAndSize → Event → Reply → Bool → Bool
sound_by digest events.Open reply sound = sound
sound_by digest (events.Put d edges) reply sound = if same d digest && is_repaired reply then true else sound
sound_by digest (events.Find ds) reply sound = sound
sound_by digest (events.Read d) reply sound = sound
sound_by digest (events.Lease root kind) reply sound = sound
sound_by digest (events.Confirm id files) reply sound = sound
sound_by digest (events.Release id) reply sound = sound
sound_by digest (events.Damage d) reply sound = if same d digest then false else sound
sound_by digest events.Pass reply sound = sound
sound_by digest events.Usage reply sound = sound
sound_by digest events.Close reply sound = sound

-- the same after a list of entries
unfoldable pub sound_after : HashAndSize → List Entry → Bool → Bool
sound_after digest [] sound = sound
sound_after digest (entry ∷ entries) sound = sound_after digest entries (sound_by digest entry.event entry.reply sound)

-- What a lease that stands in `before` keeps until `after`, between which these entries stand: it stands; each pair
-- that it reached is reached; and each digest that it reached and that had a row has it, with the same edges, and
-- unsound only by a Damage since.
pub record IsKeptBy (lease : Lease) (entries : List Entry) (before after : State) : Type 0 where
  pub held : Contains after.leases lease
  pub reach : (pair : Edge) → reaches (blobs before.rows) (lease.root ∷ []) pair ≡ true → reaches (blobs after.rows) (lease.root ∷ []) pair ≡ true
  pub rows : (d : HashAndSize) (row : Row) → is_reached (blobs before.rows) (lease.root ∷ []) d ≡ true → row_of d before.rows ≡ Some row
      → row_of d after.rows ≡ Some (record row { sound = sound_after d entries row.sound })

-- ---- holds

-- whether the event puts or reads this blob
abbrev pub asks_for : HashAndSize → Event → Bool
asks_for digest events.Open = false
asks_for digest (events.Put d edges) = same d digest
asks_for digest (events.Find ds) = false
asks_for digest (events.Read d) = same d digest
asks_for digest (events.Lease root kind) = false
asks_for digest (events.Confirm id files) = false
asks_for digest (events.Release id) = false
asks_for digest (events.Damage d) = false
asks_for digest events.Pass = false
asks_for digest events.Usage = false
asks_for digest events.Close = false

-- whether by an entry its owner put or read this blob, and the reply says that it is there
abbrev pub is_use_of : HashAndSize → Entry → Bool
is_use_of digest entry = asks_for digest entry.event && tells_there entry.reply

-- whether the event is Close
abbrev pub closes : Event → Bool
closes events.Open = false
closes (events.Put d edges) = false
closes (events.Find ds) = false
closes (events.Read d) = false
closes (events.Lease root kind) = false
closes (events.Confirm id files) = false
closes (events.Release id) = false
closes (events.Damage d) = false
closes events.Pass = false
closes events.Usage = false
closes events.Close = true

-- whether an entry is the Close of this owner
abbrev pub is_close : ℕ → Entry → Bool
is_close owner entry = nat_eq entry.owner owner && closes entry.event
