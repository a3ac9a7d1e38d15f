-- What comes of `serve`.
use Rattle.std.proofs.Common.{◌≡◌, ◌≢◌, ℕ, refl, ap, ◌∙◌, inl, inr, arith}
use Rattle.store_core.specs.State.{State}
use Rattle.casd_daemon.specs.Closing.{Closed, Breaks, Ends, Keeps}
use Rattle.casd_daemon.specs.Hosting.{Told, Counts, Tellers, NoneFell}
use Rattle.casd_daemon.specs.Serving.{status_of, ServesStore, ServesAs, Served, Opens, Lends, CantLoad, CantPrepare}
use Rattle.casd_daemon.specs.Words.{Asked}
use Rattle.casd_daemon.specs.declared.end.ServeEnd.{ServeEnd}
use Rattle.casd_daemon.specs.declared.end.ServeEnd.TheVariants as ends
use Rattle.casd_daemon.proofs.Serves.{serves_later}

lends_none : {K L : Type 0} (old new : Told K L) → new ≡ old → Lends old new
lends_none old new is = rw is refl

-- the host wasn't ready
pub unready_as : {K L : Type 0} (tell : Tellers K L) (a : Asked) (end : ServeEnd) (old new : Told K L) (before after : Counts)
    → new ≡ old → CantPrepare end before after → ServesAs tell a end old new before after
unready_as tell a ends.Done old new before after same cause = absurd cause
unready_as tell a ends.Refused old new before after same cause = absurd cause
unready_as tell a ends.Unloaded old new before after same cause = absurd cause
unready_as tell a ends.Unaccepted old new before after same cause = inl (same, cause)
unready_as tell a ends.OutOfMemory old new before after same cause = inl (lends_none old new same)
unready_as tell a ends.Unprinted old new before after same cause = absurd cause
unready_as tell a ends.Unkept old new before after same cause = absurd cause

-- no store was loaded
pub unloaded_as : {K L : Type 0} (tell : Tellers K L) (a : Asked) (end : ServeEnd) (old new : Told K L) (before between after : Counts)
    → NoneFell before between → Lends old new → CantLoad tell end old between after → ServesAs tell a end old new before after
unloaded_as tell a ends.Done old new before between after fell lends cause = absurd cause
unloaded_as tell a ends.Refused old new before between after fell lends cause = absurd cause
unloaded_as tell a ends.Unloaded old new before between after fell lends cause = (
  lends,
  elim cause [
    | inl rose ↦ inl (omega (arith, fell.accepting, rose))
    | inr fails ↦ inr fails
  ],
)
unloaded_as tell a ends.Unaccepted old new before between after fell lends cause = absurd cause
unloaded_as tell a ends.OutOfMemory old new before between after fell lends cause = inl lends
unloaded_as tell a ends.Unprinted old new before between after fell lends cause = absurd cause
unloaded_as tell a ends.Unkept old new before between after fell lends cause = absurd cause

served_of : {K L : Type 0} (tell : Tellers K L) (a : Asked) (end : ServeEnd) (old lent new : Told K L) (before between after : Counts) (start : State)
    → NoneFell before between → Opens a.low a.high a.guard old start → Lends old lent → ServesStore tell start a.connections end lent new between after → Served tell a end old new before after
served_of tell a end old lent new before between after start fell opens lends serves = record {
  start = start;
  opens = opens;
  lent = lent;
  lends = lends;
  serves = serves_later tell start a.connections end lent new before between after fell serves;
}

-- a store was loaded and served
pub served_as : {K L : Type 0} (tell : Tellers K L) (a : Asked) (end : ServeEnd) (old lent new : Told K L) (before between after : Counts) (start : State)
    → NoneFell before between → Opens a.low a.high a.guard old start → Lends old lent → ServesStore tell start a.connections end lent new between after → ServesAs tell a end old new before after
served_as tell a ends.Done old lent new before between after start fell opens lends serves = served_of tell a ends.Done old lent new before between after start fell opens lends serves
served_as tell a ends.Refused old lent new before between after start fell opens lends serves = absurd serves
served_as tell a ends.Unloaded old lent new before between after start fell opens lends serves = absurd serves
served_as tell a ends.Unaccepted old lent new before between after start fell opens lends serves = inr (served_of tell a ends.Unaccepted old lent new before between after start fell opens lends serves)
served_as tell a ends.OutOfMemory old lent new before between after start fell opens lends serves = inr (served_of tell a ends.OutOfMemory old lent new before between after start fell opens lends serves)
served_as tell a ends.Unprinted old lent new before between after start fell opens lends serves = served_of tell a ends.Unprinted old lent new before between after start fell opens lends serves
served_as tell a ends.Unkept old lent new before between after start fell opens lends serves = served_of tell a ends.Unkept old lent new before between after start fell opens lends serves

-- words that ask for something aren't refused
pub is_not_refused : {K L : Type 0} (tell : Tellers K L) (a : Asked) (end : ServeEnd) (old new : Told K L) (before after : Counts)
    → ServesAs tell a end old new before after → status_of end ≢ 2
is_not_refused tell a ends.Done old new before after serves = λ e. omega (arith, e)
is_not_refused tell a ends.Refused old new before after serves = absurd serves
is_not_refused tell a ends.Unloaded old new before after serves = λ e. omega (arith, e)
is_not_refused tell a ends.Unaccepted old new before after serves = λ e. omega (arith, e)
is_not_refused tell a ends.OutOfMemory old new before after serves = λ e. omega (arith, e)
is_not_refused tell a ends.Unprinted old new before after serves = λ e. omega (arith, e)
is_not_refused tell a ends.Unkept old new before after serves = λ e. omega (arith, e)

-- ---- nothing is printed

abbrev IsQuiet : {K L : Type 0} → Told K L → Told K L → Type 0
IsQuiet old new = new.printed ≡ old.printed

quiet_lends : {K L : Type 0} (old new : Told K L) → Lends old new → IsQuiet old new
quiet_lends {K = K} {L = L} old new lends = ap (λ (t : Told K L). t.printed) lends

quiet_closed : {K L : Type 0} (tell : Tellers K L) (start : State) (first : ℕ) (old new : Told K L) (closed : State) (count entries : ℕ) → Closed tell start first old new closed count entries → IsQuiet old new
quiet_closed {K = K} {L = L} tell start first old new closed count entries is = ap (λ (t : Told K L). t.printed) is.rest

quiet_breaks : {K L : Type 0} (tell : Tellers K L) (start : State) (old new : Told K L) → Breaks tell start old new → IsQuiet old new
quiet_breaks tell start old new is = quiet_closed tell start _ old new is.closed is.count is.entries is.is_closed

quiet_ends : {K L : Type 0} (tell : Tellers K L) (start : State) (old new : Told K L) (most : ℕ) → Ends tell start old new most → IsQuiet old new
quiet_ends tell start old new most is = quiet_closed tell start _ old new is.closed is.count is.entries is.is_closed

quiet_keeps : {K L : Type 0} (tell : Tellers K L) (start : State) (old new : Told K L) (most : ℕ) → Keeps tell start old new most → IsQuiet old new
quiet_keeps {K = K} {L = L} tell start old new most is = ap (λ (t : Told K L). t.printed) is.kept ∙ quiet_ends tell start old is.told most is.ends

quiet_store : {K L : Type 0} (tell : Tellers K L) (start : State) (most : ℕ) (end : ServeEnd) (old new : Told K L) (before after : Counts)
    → status_of end ≢ 0 → ServesStore tell start most end old new before after → IsQuiet old new
quiet_store tell start most ends.Done old new before after other serves = absurd (other refl)
quiet_store tell start most ends.Refused old new before after other serves = absurd serves
quiet_store tell start most ends.Unloaded old new before after other serves = absurd serves
quiet_store tell start most ends.Unaccepted old new before after other serves = quiet_breaks tell start old new serves.0
quiet_store {K = K} {L = L} tell start most ends.OutOfMemory old new before after other serves =
    elim serves [
      | inl same ↦ ap (λ (t : Told K L). t.printed) same
      | inr more ↦ elim more [
        | inl breaks ↦ quiet_breaks tell start old new breaks
        | inr keeps ↦ quiet_keeps tell start old new most keeps
      ]
    ]
quiet_store tell start most ends.Unprinted old new before after other serves = quiet_keeps tell start old new most serves.0
quiet_store tell start most ends.Unkept old new before after other serves = quiet_ends tell start old new most serves.0

quiet_served : {K L : Type 0} (tell : Tellers K L) (a : Asked) (end : ServeEnd) (old new : Told K L) (before after : Counts)
    → status_of end ≢ 0 → Served tell a end old new before after → IsQuiet old new
quiet_served tell a end old new before after other served =
    quiet_store tell served.start a.connections end served.lent new before after other served.serves ∙ quiet_lends old served.lent served.lends

pub quiet_as : {K L : Type 0} (tell : Tellers K L) (a : Asked) (end : ServeEnd) (old new : Told K L) (before after : Counts)
    → status_of end ≢ 0 → ServesAs tell a end old new before after → new.printed ≡ old.printed
quiet_as tell a ends.Done old new before after other serves = absurd (other refl)
quiet_as tell a ends.Refused old new before after other serves = absurd serves
quiet_as tell a ends.Unloaded old new before after other serves = quiet_lends old new serves.0
quiet_as {K = K} {L = L} tell a ends.Unaccepted old new before after other serves =
    elim serves [
      | inl same ↦ ap (λ (t : Told K L). t.printed) same.0
      | inr served ↦ quiet_served tell a ends.Unaccepted old new before after other served
    ]
quiet_as tell a ends.OutOfMemory old new before after other serves =
    elim serves [
      | inl lends ↦ quiet_lends old new lends
      | inr served ↦ quiet_served tell a ends.OutOfMemory old new before after other served
    ]
quiet_as tell a ends.Unprinted old new before after other serves = quiet_served tell a ends.Unprinted old new before after other serves
quiet_as tell a ends.Unkept old new before after other serves = quiet_served tell a ends.Unkept old new before after other serves
