-- The table of calls.
use Rattle.std.proofs.Common.{◌≡◌, ℕ, zero, suc, ◌+◌, ◌<◌, ◌≤◌, Bool, true, false, List, [], ◌∷◌, ◌++◌, length, arith, refl, sym, ap, subst, ◌∙◌, append_assoc, append-nil}
use Rattle.std.specs.Prelude.{Option, Some, None, IfSome, slice_get, slice_set, remove, ◌==◌}
use Rattle.std.proofs.lemmas.Bool.{eqb-true}
use Rattle.std.proofs.lemmas.Option.{get_or_from_slice_get, MatchOption-at_some}
use Rattle.std.proofs.lemmas.List.Quantifiers.{position-Some}
use Rattle.grpc_calls.specs.declared.event.CallEvent.{CallEvent}
use Rattle.grpc_calls.specs.declared.call.Call.{Call}
use Rattle.grpc_calls.specs.declared.call.Reading.{Reading}
use Rattle.grpc_calls.specs.declared.call.Reading.TheVariants as readings
use Rattle.grpc_calls.specs.Framing.{Taken, behind_events, keeps}
use Rattle.grpc_calls.specs.Reading.{Gives}
use Rattle.grpc_calls.specs.Streams.{place_in, then_end, half_closed, reading_at, reading_by, tells_taken}
use Rattle.grpc_calls.specs.Table.{IsCall, GivesTold}

default_call : ℕ → Call
default_call n = record { stream = n; reading = readings.Over }

call_at : (calls : List Call) (i : ℕ) → i < length calls → (c : Call) × (slice_get calls i ≡ Some c)
call_at [] i l = absurd (omega arith)
call_at (x ∷ xs) zero l = (x, refl)
call_at (x ∷ xs) (suc i) l = call_at xs i (omega arith)

-- what stands at the place of a stream
pub place_call : (n : ℕ) (calls : List Call) (i : ℕ) → place_in n calls ≡ Some i → IsCall n calls i
place_call n calls i e =
    let test : Call → Bool = λ (c : Call). c.stream == n in
    let l = (position-Some test calls i (default_call n) e).0 in
    let r = call_at calls i l in
    let t = (position-Some test calls i r.0 e).1 in
    let g = get_or_from_slice_get calls i r.0 r.0 r.1 in
    let same : r.0.stream ≡ n = eqb-true r.0.stream n (rw g at t) in
    record { call = r.0; within = l; at = r.1; same = same; first = e }

pub found_call : (n : ℕ) (calls : List Call) (o : Option ℕ) → o ≡ place_in n calls → IfSome o (λ i. IsCall n calls i)
found_call n calls None e = tt
found_call n calls (Some i) e = place_call n calls i (sym e)

-- events behind events
pub gives_end : (end client : Bool) (n : ℕ) (t : Taken) (x r : Reading) (old mid new : List CallEvent) → Gives t x old mid → Gives (then_end end client n (keeps x)) r mid new → Gives (then_end end client n t) r old new
gives_end false client n t x r old mid new g h = (h.0 ∙ g.0, h.1 ∙ (append-nil mid ∙ g.1))
gives_end true client n t x r old mid new g h = (
  h.0 ∙ ap (λ (y : Reading). (half_closed client n y).reading) g.0,
  h.1 ∙ (ap (λ (es : List CallEvent). es ++ (half_closed client n x).events) g.1
      ∙ (append_assoc old t.events (half_closed client n x).events
      ∙ ap (λ (y : Reading). old ++ (t.events ++ (half_closed client n y).events)) g.0)),
)

-- ---- a reading that is put back

set_set : (xs : List Call) (i : ℕ) (z w : Call) → slice_set (slice_set xs i z) i w ≡ slice_set xs i w
set_set [] i z w = refl
set_set (x ∷ xs) zero z w = refl
set_set (x ∷ xs) (suc i) z w = ap (λ (ys : List Call). x ∷ ys) (set_set xs i z w)

remove_set : (xs : List Call) (i : ℕ) (z : Call) → remove (slice_set xs i z) i ≡ remove xs i
remove_set [] zero z = refl
remove_set [] (suc i) z = refl
remove_set (x ∷ xs) zero z = refl
remove_set (x ∷ xs) (suc i) z = ap (λ (ys : List Call). x ∷ ys) (remove_set xs i z)

put_back : (client : Bool) (i n : ℕ) (r : Reading) (xs : List Call) (z : Call) → reading_at client i n r (slice_set xs i z) ≡ reading_at client i n r xs
put_back true i n readings.Over xs z = remove_set xs i z
put_back true i n readings.Headers xs z = set_set xs i z (record { stream = n; reading = readings.Headers })
put_back true i n (readings.Body text) xs z = set_set xs i z (record { stream = n; reading = readings.Body text })
put_back false i n readings.Over xs z = set_set xs i z (record { stream = n; reading = readings.Over })
put_back false i n readings.Headers xs z = set_set xs i z (record { stream = n; reading = readings.Headers })
put_back false i n (readings.Body text) xs z = set_set xs i z (record { stream = n; reading = readings.Body text })

-- the reading of a call is taken out, has become another, and is put back
pub row_told : (client : Bool) (n : ℕ) (calls mid new : List Call) (i : ℕ) (r : IsCall n calls i) (x y : Reading) (f : Reading → Taken) (old es : List CallEvent)
    → IfSome (slice_get calls i) (λ c. x ≡ c.reading) → IfSome (slice_get calls i) (λ c. mid ≡ slice_set calls i (record c { reading = readings.Over }))
    → Gives (f x) y old es → new ≡ reading_at client i n y mid → IfSome (slice_get calls i) (λ c. GivesTold (tells_taken client n (f c.reading) calls) new old es)
row_told client n calls mid new i r x y f old es a b g e =
    let out : x ≡ r.call.reading = MatchOption-at_some _ _ r.call r.at a in
    let over : mid ≡ slice_set calls i (record r.call { reading = readings.Over }) = MatchOption-at_some _ _ r.call r.at b in
    let now : new ≡ reading_at client i n (f r.call.reading).reading calls =
    e ∙ (ap (λ (cs : List Call). reading_at client i n y cs) over
    ∙ (put_back client i n y calls (record r.call { reading = readings.Over })
    ∙ (ap (λ (z : Reading). reading_at client i n z calls) g.0 ∙ ap (λ (z : Reading). reading_at client i n (f z).reading calls) out))) in
    subst (λ (o : Option Call). IfSome o (λ c. GivesTold (tells_taken client n (f c.reading) calls) new old es)) (sym r.at) (
      now ∙ sym (ap (λ (o : Option ℕ). reading_by o client n (f r.call.reading).reading calls) r.first),
      g.1 ∙ ap (λ (z : Reading). old ++ (f z).events) out,
    )
