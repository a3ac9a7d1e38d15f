-- What the callers of any door leave of a bench, and a lease that is confirmed there.
use Rattle.std.proofs.Common.{◌≡◌, ◌⊎◌, ◌↔◌, ℕ, Bool, true, List, [], ◌∷◌, length, Result, Ok, Err, IfOk, OnErr, inl, inr, ◌∙◌}
use Rattle.std.specs.Prelude.{IsTrue}
use Rattle.digest_types.specs.Name.{HashAndSize}
use Rattle.directory_canon.specs.declared.node.Kind.TheVariants as kinds
use Rattle.store_core.specs.declared.event.Event.{Event}
use Rattle.store_core.specs.declared.event.Event.TheVariants as events
use Rattle.store_core.specs.declared.event.Reply.{Reply}
use Rattle.store_core.specs.declared.event.Reply.TheVariants as replies
use Rattle.store_core.specs.declared.event.Standing.{Standing}
use Rattle.blob_store.specs.Bodies.{Sealed}
use Rattle.blob_store.specs.Benched.{Benched, view_of}
use Rattle.blob_store.specs.View.{View, StaysOut, Makes, own_now, holds}
use Rattle.store_tests.specs.Visits.{PutsAndFinds, PutsAtMost, Visits, read_under, IsHeldAtMost}
use Rattle.blob_store.proofs.ViewLaws.{own_now_after}
use Rattle.store_tests.proofs.VisitLaws.{taken_now, holds_one, given_now}
use Rattle.blob_store.proofs.BenchLaws.{as_many}

-- a put and a find leave the seats
pub puts_as_many : {E : Type 0} (r : Result Bool E) (old new : Benched) (blob : Sealed)
    → IfOk r (λ all. (missing : List HashAndSize) × PutsAndFinds (view_of old) (view_of new) blob missing × (IsTrue all ↔ (missing ≡ [])))
    → OnErr r (PutsAtMost (view_of old) (view_of new) blob) → length new.seats ≡ length old.seats
puts_as_many (Ok all) old new blob ok err = as_many old new ok.1.1.identity
puts_as_many (Err e) old new blob ok (inl turns) = as_many old new turns.identity
puts_as_many (Err e) old new blob ok (inr made) = as_many old new made.1.identity

-- so does a read under a lease
pub visits_as_many : {E : Type 0} (r : Result Bool E) (old new : Benched) (root : HashAndSize)
    → IfOk r (λ found. (id : ℕ) × Visits (view_of old) (view_of new) 5 (read_under root id found))
    → OnErr r (StaysOut (view_of old) (view_of new) ⊎ ((made : List (Event × Reply)) × IsHeldAtMost root made × Visits (view_of old) (view_of new) 5 made))
    → length new.seats ≡ length old.seats
visits_as_many (Ok found) old new root ok err = as_many old new ok.1.identity
visits_as_many (Err e) old new root ok (inl stays) = as_many old new stays.identity
visits_as_many (Err e) old new root ok (inr made) = as_many old new made.2.identity

-- a lease that was taken is held
pub held_now : (a b : View) (root : HashAndSize) (id : ℕ) → own_now a ≡ [] → Makes a b (events.Lease root kinds.Dir) (replies.Leased id) → holds b id ≡ true
held_now a b root id none makes =
    let at = taken_now a b root id none makes in
    holds_one b at.0 id at.1 at.2

-- a Confirm changes no lease
confirm_keeps : (b c : View) (id : ℕ) (files : Bool) (standing : Standing) → Makes b c (events.Confirm id files) (replies.Stands standing) → own_now c ≡ own_now b
confirm_keeps b c id files standing makes = own_now_after b c 1 ((events.Confirm id files, replies.Stands standing) ∷ []) makes.turns

-- it is held still
pub held_still : (a b c : View) (root : HashAndSize) (id : ℕ) (files : Bool) (standing : Standing) → own_now a ≡ [] → Makes a b (events.Lease root kinds.Dir) (replies.Leased id)
    → Makes b c (events.Confirm id files) (replies.Stands standing) → holds c id ≡ true
held_still a b c root id files standing none makes confirms =
    let at = taken_now a b root id none makes in
    holds_one c at.0 id at.1 (confirm_keeps b c id files standing confirms ∙ at.2)

-- and not once it was given up
pub none_left : (a b c d : View) (root : HashAndSize) (id : ℕ) (files : Bool) (standing : Standing) → own_now a ≡ [] → Makes a b (events.Lease root kinds.Dir) (replies.Leased id)
    → Makes b c (events.Confirm id files) (replies.Stands standing) → Makes c d (events.Release id) replies.Released → own_now d ≡ []
none_left a b c d root id files standing none makes confirms gives =
    let at = taken_now a b root id none makes in
    given_now c d at.0 id at.1 (confirm_keeps b c id files standing confirms ∙ at.2) gives
