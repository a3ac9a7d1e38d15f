-- What a record leaves of the seats.
use Rattle.std.proofs.Common.{◌≡◌, ℕ, ◌+◌, zero, suc, List, [], ◌∷◌, map, replicate, Option, Some, None, Result, Ok, Err, refl, sym, ap, ◌∙◌, arith, add-one}
use Rattle.std.specs.Result.{IfOk}
use Rattle.std.proofs.lemmas.List.{length-replicate}
use Rattle.store_core.specs.State.{State, new_state}
use Rattle.store_core.specs.declared.state.Guard.TheVariants as guards
use Rattle.store_core.specs.History.{state}
use Rattle.store_core.specs.declared.event.Event.TheVariants as events
use Rattle.casd_base.specs.declared.status.Status.{Status}
use Rattle.blob_store.specs.declared.seat.Seat.{Seat}
use Rattle.blob_store.specs.Benched.{Benched, store_of, seat_of, unseated, new_bench}
use Rattle.blob_store.specs.Memory.{MemState, shelved_of}
use Rattle.casd_server.specs.declared.answer.Answer.{Answer}
use Rattle.casd_server.specs.declared.answer.Answer.TheVariants as answers
use Rattle.casd_server.specs.declared.word.Word.{Word}
use Rattle.casd_server.specs.declared.word.Word.TheVariants as words
use Rattle.casd_server.specs.Record.{Asked}
use Rattle.casd_server.specs.Batch.{batch_update, not_built}
use Rattle.casd_server.specs.Answer.{Seated, owner_at, closed_with, closed_below, opened, with_core, by_event, by_close, run_by, run_record, new_seated}
use Rattle.casd_server.specs.Sitting.{seated_at, owner_of, IsReady, Sits, StaysSeated}

-- one more seat is closed
pub closed_below-next : (n : ℕ) (s : Seated) → closed_below (n + 1) s ≡ closed_with (closed_below n s) n (owner_at (closed_below n s) n)
unfolding closed_below
closed_below-next n s = rw add-one refl

pub closed_below-none : (s : Seated) → closed_below 0 s ≡ s
unfolding closed_below
closed_below-none s = refl

-- a new bench at an empty store
unseated-all : (n : ℕ) → map owner_of (replicate n unseated) ≡ replicate n None
unseated-all zero = refl
unseated-all (suc n) = ap (λ (seats : List (Option ℕ)). None ∷ seats) (unseated-all n)

pub new-ready : (low high : ℕ) (shelf : MemState) → shelf.failing ≡ [] → IsReady (new_bench (new_state low high guards.Leases) 100) (shelved_of shelf)
unfolding state
new-ready low high shelf none = record { sure = rw none refl; hundred = length-replicate 100 unseated; bare = refl; few = omega arith }

pub new-seated : (low high : ℕ) → seated_at (new_bench (new_state low high guards.Leases) 100) ≡ new_seated low high
unfolding state
new-seated low high = ap (λ (seats : List (Option ℕ)). record { core = new_state low high guards.Leases; seats = seats }) (unseated-all 100)

-- what each word asks for
pub run_by-batch : (w : Word) (s : Seated) (seat owner : ℕ) (messages : List (List ℕ)) → w ≡ words.BatchUpdateBlobs → run_by w s seat owner messages ≡ with_core s (batch_update s.core owner messages)
unfolding run_by
run_by-batch w s seat owner messages is = ap (λ (x : Word). run_by x s seat owner messages) is

pub run_by-pass : (w : Word) (s : Seated) (seat owner : ℕ) (messages : List (List ℕ)) → w ≡ words.Pass → run_by w s seat owner messages ≡ by_event s owner events.Pass
unfolding run_by
run_by-pass w s seat owner messages is = ap (λ (x : Word). run_by x s seat owner messages) is

pub run_by-usage : (w : Word) (s : Seated) (seat owner : ℕ) (messages : List (List ℕ)) → w ≡ words.Usage → run_by w s seat owner messages ≡ by_event s owner events.Usage
unfolding run_by
run_by-usage w s seat owner messages is = ap (λ (x : Word). run_by x s seat owner messages) is

pub run_by-close : (w : Word) (s : Seated) (seat owner : ℕ) (messages : List (List ℕ)) → w ≡ words.Close → run_by w s seat owner messages ≡ by_close s seat owner
unfolding run_by
run_by-close w s seat owner messages is = ap (λ (x : Word). run_by x s seat owner messages) is

-- a word that isn't built
run_by-other : (w : Word) (s : Seated) (seat owner : ℕ) (messages : List (List ℕ)) → (w ≡ words.BatchUpdateBlobs → ⊥) → (w ≡ words.Pass → ⊥) → (w ≡ words.Usage → ⊥) → (w ≡ words.Close → ⊥)
    → run_by w s seat owner messages ≡ (answers.Call (Err not_built), s)
unfolding run_by
run_by-other words.FindMissingBlobs s seat owner messages b p u c = refl
run_by-other words.BatchUpdateBlobs s seat owner messages b p u c = absurd (b refl)
run_by-other words.BatchReadBlobs s seat owner messages b p u c = refl
run_by-other words.GetTree s seat owner messages b p u c = refl
run_by-other words.GetCapabilities s seat owner messages b p u c = refl
run_by-other words.Read s seat owner messages b p u c = refl
run_by-other words.Write s seat owner messages b p u c = refl
run_by-other words.QueryWriteStatus s seat owner messages b p u c = refl
run_by-other words.FetchMissingBlobs s seat owner messages b p u c = refl
run_by-other words.UploadMissingBlobs s seat owner messages b p u c = refl
run_by-other words.FetchTree s seat owner messages b p u c = refl
run_by-other words.UploadTree s seat owner messages b p u c = refl
run_by-other words.StageTree s seat owner messages b p u c = refl
run_by-other words.CaptureTree s seat owner messages b p u c = refl
run_by-other words.CaptureFiles s seat owner messages b p u c = refl
run_by-other words.EndStage s seat owner messages b p u c = refl
run_by-other words.Close s seat owner messages b p u c = absurd (c refl)
run_by-other words.Pass s seat owner messages b p u c = absurd (p refl)
run_by-other words.Usage s seat owner messages b p u c = absurd (u refl)

-- what the owner of the chosen seat is answered, the record is answered
run-sat : (before : Seated) (r : Asked) (old mid : Benched) (a : Answer × Seated) → seated_at old ≡ before → (s : Sits old mid r.seat)
    → a ≡ run_by r.word (seated_at mid) r.seat s.owner r.messages → a ≡ run_record before r
unfolding run_record
run-sat before r old mid a is s e =
    e ∙ ap (λ (p : ℕ × Seated). run_by r.word p.1 r.seat p.0 r.messages) (s.opened ∙ ap (λ (x : Seated). opened x r.seat) is)

-- a record whose answer is what its word asks for, of the owner that came
pub run-asked : {E : Type 0} (before : Seated) (r : Asked) (old mid new : Benched) (given : ℕ → Answer × Seated) (x : Result Answer E) → seated_at old ≡ before → Sits old mid r.seat
    → ((owner : ℕ) → run_by r.word (seated_at mid) r.seat owner r.messages ≡ given owner)
    → IfOk x (λ a. (owner : ℕ) → (seat_of mid).owner ≡ Some owner → (a, seated_at new) ≡ given owner) → IfOk x (λ a. (a, seated_at new) ≡ run_record before r)
run-asked before r old mid new given (Ok a) is s by h =
    run-sat before r old mid (a, seated_at new) is s (h s.owner (ap (λ (seat : Seat). seat.owner) s.is_in) ∙ sym (by s.owner))
run-asked before r old mid new given (Err e) is s by h = tt

-- a call that leaves the seats
called : (mid new : Benched) (x : Result (List ℕ) Status) (y : Result (List ℕ) Status × State) → new.seats ≡ mid.seats → (x, store_of new) ≡ y → (answers.Call x, seated_at new) ≡ with_core (seated_at mid) y
called mid new x y same e =
    ap {B = Answer × Seated} (λ (seats : List Seat). (answers.Call x, record { core = store_of new; seats = map owner_of seats })) same ∙ ap (λ (z : Result (List ℕ) Status × State). with_core (seated_at mid) z) e

pub run-batch : (before : Seated) (r : Asked) (old mid new : Benched) (x : Result (List ℕ) Status) (messages : List (List ℕ)) → seated_at old ≡ before → Sits old mid r.seat
    → r.word ≡ words.BatchUpdateBlobs → StaysSeated mid new → messages ≡ r.messages
    → ((owner : ℕ) → (seat_of mid).owner ≡ Some owner → (x, store_of new) ≡ batch_update (store_of mid) owner messages) → (answers.Call x, seated_at new) ≡ run_record before r
run-batch before r old mid new x messages is s word stays same h =
    run-sat before r old mid (answers.Call x, seated_at new) is s
    (called mid new x (batch_update (store_of mid) s.owner r.messages) stays.seats
    (h s.owner (ap (λ (seat : Seat). seat.owner) s.is_in) ∙ ap (λ (ms : List (List ℕ)). batch_update (store_of mid) s.owner ms) same)
    ∙ sym (run_by-batch r.word (seated_at mid) r.seat s.owner r.messages word))

pub run-other : (before : Seated) (r : Asked) (old mid : Benched) (status : Status) → seated_at old ≡ before → Sits old mid r.seat → status ≡ not_built
    → (r.word ≡ words.BatchUpdateBlobs → ⊥) → (r.word ≡ words.Pass → ⊥) → (r.word ≡ words.Usage → ⊥) → (r.word ≡ words.Close → ⊥) → (answers.Call (Err status), seated_at mid) ≡ run_record before r
run-other before r old mid status is s told b p u c =
    run-sat before r old mid (answers.Call (Err status), seated_at mid) is s
    (ap {B = Answer × Seated} (λ (st : Status). (answers.Call (Err st), seated_at mid)) told ∙ sym (run_by-other r.word (seated_at mid) r.seat s.owner r.messages b p u c))
