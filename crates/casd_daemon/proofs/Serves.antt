-- What comes of a store that is served.
use Rattle.std.proofs.Common.{◌≡◌, ◌⊎◌, ℕ, nat_lt, Bool, false, sym, ap, subst, inl, inr, arith}
use Rattle.casd_base.specs.Causes.{Rose}
use Rattle.store_core.specs.State.{State, used}
use Rattle.store_core.specs.Step.{usage}
use Rattle.store_core.specs.declared.event.Reply.{Reply}
use Rattle.store_core.specs.declared.event.Reply.TheVariants as replies
use Rattle.store_core.specs.declared.event.Usage.{Usage}
use Rattle.casd_daemon.specs.Closing.{Closed, Breaks, Ends, first_passes, is_over}
use Rattle.casd_daemon.specs.Hosting.{Told, Counts, Hosted, Tellers, NoneFell}
use Rattle.casd_daemon.specs.Running.{HasNone, HasCause}
use Rattle.casd_daemon.specs.Serving.{Concludes, ServesStore}
use Rattle.casd_daemon.specs.declared.end.ServeEnd.{ServeEnd}
use Rattle.casd_daemon.specs.declared.end.ServeEnd.TheVariants as ends
use Rattle.casd_daemon.specs.declared.run.RunEnd.{RunEnd}
use Rattle.casd_daemon.specs.declared.run.RunEnd.TheVariants as runs

-- whether a store is over its high mark, by its numbers
abbrev over_in : Reply → Bool
over_in (replies.Used u) = nat_lt u.high u.used
over_in reply = false

pub over_by_usage : (s : State) (u : Usage) → usage s ≡ (replies.Used u, s) → nat_lt u.high u.used ≡ is_over s
over_by_usage s u is = sym (ap (λ (r : Reply × State). over_in r.0) is)

breaks_of : {K L : Type 0} (tell : Tellers K L) (start : State) (due : Bool) (old new : Told K L) (closed : State) (count entries : ℕ)
    → due ≡ is_over start → Closed tell start (first_passes due) old new closed count entries → Breaks tell start old new
breaks_of tell start due old new closed count entries due_is is = record {
  closed = closed;
  count = count;
  entries = entries;
  is_closed = subst (λ (b : Bool). Closed tell start (first_passes b) old new closed count entries) due_is is;
}

abbrev ends_of : {K L : Type 0} (tell : Tellers K L) (start : State) (due : Bool) (old new : Told K L) (most : ℕ) (closed : State) (count entries : ℕ)
    → due ≡ is_over start → Closed tell start (first_passes due) old new closed count entries → (count ≡ most) ⊎ HasNone new → Ends tell start old new most
ends_of tell start due old new most closed count entries due_is is all = record {
  closed = closed;
  count = count;
  entries = entries;
  is_closed = subst (λ (b : Bool). Closed tell start (first_passes b) old new closed count entries) due_is is;
  all = all;
}

-- what a run leaves, and what follows it
pub serves_end : {K L : Type 0} (tell : Tellers K L) (start : State) (most : ℕ) (due : Bool) (e : RunEnd) (end : ServeEnd) (old mid new : Hosted K L) (closed : State) (count entries : ℕ)
    → due ≡ is_over start → Closed tell start (first_passes due) old.told mid.told closed count entries
    → (e ≡ runs.Done → (count ≡ most) ⊎ HasNone mid.told) → HasCause e old.counts mid.counts → NoneFell old.counts mid.counts → NoneFell mid.counts new.counts
    → Concludes e count entries closed end mid new → ServesStore tell start most end old.told new.told old.counts new.counts
serves_end tell start most due e ends.Done old mid new closed count entries due_is is all cause first last concludes = record {
  told = mid.told;
  ends = ends_of tell start due old.told mid.told most closed count entries due_is is (all concludes.0);
  printed = concludes.1;
}
serves_end tell start most due e ends.Refused old mid new closed count entries due_is is all cause first last concludes = concludes
serves_end tell start most due e ends.Unloaded old mid new closed count entries due_is is all cause first last concludes = concludes
serves_end {K = K} {L = L} tell start most due e ends.Unaccepted old mid new closed count entries due_is is all cause first last concludes =
    let rose : Rose old.counts.accepting mid.counts.accepting = subst (λ (e : RunEnd). HasCause e old.counts mid.counts) concludes.0 cause in (
      breaks_of tell start due old.told new.told closed count entries due_is
          (subst (λ (t : Told K L). Closed tell start (first_passes due) old.told t closed count entries) (sym concludes.1) is),
      omega (arith, rose, last.accepting),
    )
serves_end {K = K} {L = L} tell start most due e ends.OutOfMemory old mid new closed count entries due_is is all cause first last concludes =
    elim concludes [
      | inl same ↦ inr (inl (breaks_of tell start due old.told new.told closed count entries due_is
          (subst (λ (t : Told K L). Closed tell start (first_passes due) old.told t closed count entries) (sym same) is)))
      | inr kept ↦ inr (inr (record {
        told = mid.told;
        ends = ends_of tell start due old.told mid.told most closed count entries due_is is (all kept.0);
        kept = kept.1;
      }))
    ]
serves_end tell start most due e ends.Unprinted old mid new closed count entries due_is is all cause first last concludes = (
  record {
    told = mid.told;
    ends = ends_of tell start due old.told mid.told most closed count entries due_is is (all concludes.0);
    kept = concludes.1;
  },
  omega (arith, first.printing, concludes.2),
)
serves_end {K = K} {L = L} tell start most due e ends.Unkept old mid new closed count entries due_is is all cause first last concludes = (
  subst (λ (t : Told K L). Ends tell start old.told t most) (sym concludes.1)
      (ends_of tell start due old.told mid.told most closed count entries due_is is (all concludes.0)),
  omega (arith, first.keeping, concludes.2),
)

-- where each cause is one over a longer time
pub serves_later : {K L : Type 0} (tell : Tellers K L) (start : State) (most : ℕ) (end : ServeEnd) (old new : Told K L) (first before after : Counts)
    → NoneFell first before → ServesStore tell start most end old new before after → ServesStore tell start most end old new first after
serves_later tell start most ends.Done old new first before after fell serves = serves
serves_later tell start most ends.Refused old new first before after fell serves = serves
serves_later tell start most ends.Unloaded old new first before after fell serves = serves
serves_later tell start most ends.Unaccepted old new first before after fell serves = (serves.0, omega (arith, fell.accepting, serves.1))
serves_later tell start most ends.OutOfMemory old new first before after fell serves = serves
serves_later tell start most ends.Unprinted old new first before after fell serves = (serves.0, omega (arith, fell.printing, serves.1))
serves_later tell start most ends.Unkept old new first before after fell serves = (serves.0, omega (arith, fell.keeping, serves.1))
