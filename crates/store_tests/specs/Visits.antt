-- What the callers of any door make, by the clauses of the door alone.
use Rattle.std.specs.Prelude.{◌≡◌, ◌+◌, ◌≤◌, ◌++◌, ◌⊎◌, ℕ, Bool, true, false, List, [], ◌∷◌, length, Some}
use Rattle.digest_types.specs.Name.{HashAndSize}
use Rattle.directory_canon.specs.declared.node.Kind.TheVariants as kinds
use Rattle.store_core.specs.declared.event.Event.{Event}
use Rattle.store_core.specs.declared.event.Event.TheVariants as events
use Rattle.store_core.specs.declared.event.Reply.{Reply}
use Rattle.store_core.specs.declared.event.Reply.TheVariants as replies
use Rattle.store_core.specs.History.{own}
use Rattle.blob_store.specs.declared.door.PutReply.{PutReply}
use Rattle.blob_store.specs.Bodies.{Sealed}
use Rattle.turn_lock.specs.Views.{Extends}
use Rattle.blob_store.specs.View.{View, by, Turns, own_now}
use Rattle.blob_store.specs.Calls.{put_reply}

-- a blob is put
abbrev pub put_made : Sealed → PutReply → Event × Reply
put_made blob answer = (events.Put blob.digest blob.edges, put_reply answer)

-- a blob is put, and then its digest is found, which says what is missing
abbrev pub PutsAndFinds : View → View → Sealed → List HashAndSize → Type 0
PutsAndFinds old new blob missing = (answer : PutReply) × Turns old new 2 (put_made blob answer ∷ (events.Find (blob.digest ∷ []), replies.Missing missing) ∷ [])

-- a blob is put at most
abbrev pub PutsAtMost : View → View → Sealed → Type 0
PutsAtMost old new blob = Turns old new 2 [] ⊎ ((answer : PutReply) × Turns old new 2 (put_made blob answer ∷ []))

-- a lease is taken
abbrev pub taken : HashAndSize → ℕ → Event × Reply
taken root id = (events.Lease root kinds.Dir, replies.Leased id)

-- a lease is given up
abbrev pub given : ℕ → Event × Reply
given id = (events.Release id, replies.Released)

-- a root is read, which is there or isn't
abbrev pub read_made : HashAndSize → Bool → Event × Reply
read_made root true = (events.Read root, replies.Found)
read_made root false = (events.Read root, replies.Absent)

-- a root is read under a lease on it
abbrev pub read_under : HashAndSize → ℕ → Bool → List (Event × Reply)
read_under root id found = taken root id ∷ read_made root found ∷ given id ∷ []

-- a lease on a root is taken and given up at most
abbrev pub IsHeldAtMost : HashAndSize → List (Event × Reply) → Type 0
IsHeldAtMost root made = (made ≡ []) ⊎ ((id : ℕ) × (made ≡ taken root id ∷ given id ∷ []))

-- A seat's owner came and went: these are its entries between its Open and its Close, and it holds nothing.
pub record Visits (old new : View) (turns : ℕ) (made : List (Event × Reply)) : Type 0 where
  pub number : ℕ
  pub owner : new.owner ≡ Some number
  pub is_out : new.entered ≡ false
  pub mine : new.mine ≡ by number ((events.Open, replies.Opened number) ∷ made ++ (events.Close, replies.Closed) ∷ [])
  pub is_own : own number new.seen ≡ new.mine
  pub start : new.start ≡ old.start
  pub seen : Extends old.seen new.seen
  pub none : own_now new ≡ []
  pub count : new.made ≡ old.made + length made + 2
  pub grant : new.grant ≡ old.grant
  pub identity : new.identity ≡ old.identity
  pub left : new.left ≤ old.left
  pub used : old.left ≤ new.left + turns
