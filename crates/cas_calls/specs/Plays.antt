-- A call that plays its script at a door and a shelf.
use Rattle.std.specs.Prelude.{◌≡◌, ◌+◌, ◌-◌, ◌^◌, ◌≤◌, min, ℕ, true, false, List}
use Rattle.casd_base.specs.Causes.{Rose}
use Rattle.blob_store.specs.View.{View, Turns, IsSeated, own_now}
use Rattle.blob_store.specs.Shelves.{Shelved, counting}
use Rattle.cas_calls.specs.Script.{Script, Step, End, Follows, made, failures, discards, drops}

-- the door is entered, and its owner's entries are its own
pub record IsIn (v : View) : Type 0 where
  pub is_in : v.entered ≡ true
  pub seated : IsSeated v

-- The shelf did what these steps tell: its count of faults rose by each failure, up to its last value, there is none where its
-- calls don't fail, and it gave up as many bodies as they say, and at least as many drafts.
pub record Shelves (old new : Shelved) (steps : List Step) : Type 0 where
  pub faults : min (old.faults + failures steps) (2 ^ 64 - 1) ≤ new.faults
  pub later : old.faults ≤ new.faults
  pub may_fail : new.may_fail ≡ old.may_fail
  pub sure : old.may_fail ≡ false → failures steps ≡ 0
  pub discarded : new.discarded ≡ counting (discards steps) old.discarded
  pub dropped : min (old.dropped + drops steps) (2 ^ 64 - 1) ≤ new.dropped

-- Steps of the script lead from one place to another: its entries were made at the door in at most so many turns, and the shelf
-- did the rest. No lease was taken or given up.
pub record Took {A : Type 0} (s : Script A) (v w : View) (x y : Shelved) (turns : ℕ) (t : Script A) : Type 0 where
  pub steps : List Step
  pub follows : Follows s steps t
  pub entries : Turns v w turns (made steps)
  pub shelf : Shelves x y steps
  pub leases : own_now w ≡ own_now v

-- they lead to this answer
abbrev pub Plays : {A : Type 0} → Script A → View → View → Shelved → Shelved → ℕ → A → Type 0
Plays s v w x y turns answer = Took s v w x y turns (End answer)

-- a call of the shelf that gives no body up, though perhaps a draft
pub record Leaves (old new : Shelved) : Type 0 where
  pub discarded : new.discarded ≡ old.discarded
  pub may_fail : new.may_fail ≡ old.may_fail
  pub later : old.faults ≤ new.faults
  pub dropped : min old.dropped (2 ^ 64 - 1) ≤ new.dropped

-- one that fails besides: its calls may fail, and it was counted
abbrev pub Lapses : Shelved → Shelved → Type 0
Lapses old new = (old.may_fail ≡ true) × Rose old.faults new.faults
