-- QueryWriteStatus, by what was found.
use Rattle.std.proofs.Common.{◌≡◌, ◌∙◌, ℕ, Bool, true, false, List, [], ◌∷◌, length, Result, Ok, Err, refl, sym, ap, subst, arith}
use Rattle.std.specs.Prelude.{◌==◌, ◌⊎◌}
use Rattle.std.proofs.Common.{inl, inr}
use Rattle.std.proofs.lemmas.Bool.{eqb-true}
use Rattle.digest_types.specs.Name.{HashAndSize}
use Rattle.casd_base.specs.declared.status.Status.{Status}
use Rattle.store_core.specs.declared.event.Event.TheVariants as events
use Rattle.store_core.specs.declared.event.Reply.TheVariants as replies
use Rattle.blob_store.specs.View.{View, Makes, Waits}
use Rattle.blob_store.specs.Shelves.{Shelved}
use Rattle.cas_calls.specs.Script.{End, Make}
use Rattle.cas_calls.specs.Plays.{IsIn, Took, Plays}
use Rattle.cas_calls.specs.Statuses.{out_of_memory, not_here}
use Rattle.cas_calls.proofs.TakeLaws.{took_none, took_more, took_joined, took_fit, took_broke, took_made, took_waited, is_in_after}
use Rattle.byte_stream.specs.Here.{FindsOne, IsAbsent}
use Rattle.byte_stream.specs.Names.{Named, write_named}
use Rattle.byte_stream.specs.Query.{Answered, wanting, complete, found_script, absent_script, named_script, query_script}

found_by : (d : HashAndSize) (missing : List HashAndSize) (v w : View) (x : Shelved) → true ≡ (length missing == 0) → Makes v w (events.Find (d ∷ [])) (replies.Missing missing) → Plays (named_script (Ok d)) v w x x 1 (Ok (complete d))
found_by d [] v w x e makes =
    took_fit wanting (Make (events.Find (d ∷ [])) (found_script d)) (End (Ok (complete d))) v w x x 1 (took_made (events.Find (d ∷ [])) (found_script d) v w x x (replies.Missing []) makes refl (λ owner leases. refl))
found_by d (m ∷ ms) v w x e makes = let none : length (m ∷ ms) ≡ 0 = eqb-true (length (m ∷ ms)) 0 (sym e) in absurd (omega arith)

pub found_here : (d : HashAndSize) (v w : View) (x : Shelved) → FindsOne d true v w → Plays (named_script (Ok d)) v w x x 1 (Ok (complete d))
found_here d v w x h = found_by d h.missing v w x h.here_is h.makes

told_absent : (d : HashAndSize) (status : Status) (v : View) (x : Shelved) → IsIn v → IsAbsent d status → Plays (absent_script d) v v x x 0 (Err status)
told_absent d status v x h (inl e) = rw e (took_fit wanting (End (Err (not_here d))) (End (Err (not_here d))) v v x x 0 (took_none (End (Err (not_here d))) v x h))
told_absent d status v x h (inr e) = rw e (took_broke wanting (End (Err (not_here d))) wanting v v x x 0 (took_none wanting v x h))

absent_by : (d : HashAndSize) (missing : List HashAndSize) (status : Status) (v w : View) (x : Shelved) → false ≡ (length missing == 0) → Makes v w (events.Find (d ∷ [])) (replies.Missing missing) → IsAbsent d status → Plays (named_script (Ok d)) v w x x 1 (Err status)
absent_by d [] status v w x e makes absent = absurd (cc e)
absent_by d (m ∷ ms) status v w x e makes absent =
    let find = Make (events.Find (d ∷ [])) (found_script d) in
    let made : Took find v w x x 1 (absent_script d) = took_made (events.Find (d ∷ [])) (found_script d) v w x x (replies.Missing (m ∷ ms)) makes refl (λ owner leases. refl) in
    let told = told_absent d status w x (is_in_after find (absent_script d) v w x x 1 made) absent in
    took_fit wanting find (End (Err status)) v w x x 1 (took_joined find (absent_script d) (End (Err status)) v w w x x x 1 0 made told)

pub found_absent : (d : HashAndSize) (status : Status) (v w : View) (x : Shelved) → FindsOne d false v w → IsAbsent d status → Plays (named_script (Ok d)) v w x x 1 (Err status)
found_absent d status v w x h absent = absent_by d h.missing status v w x h.here_is h.makes absent

pub found_wanting : (d : HashAndSize) (status : Status) (v w : View) (x : Shelved) → Waits v w → status ≡ out_of_memory → Plays (named_script (Ok d)) v w x x 1 (Err status)
found_wanting d status v w x waits e = rw e (took_broke wanting (Make (events.Find (d ∷ [])) (found_script d)) wanting v w x x 1 (took_waited wanting v w x waits))

-- the name of a query
pub query_by : (name : List ℕ) (named : Named) (r : Answered) (v w : View) (x : Shelved) → named ≡ write_named name → Plays (named_script named) v w x x 1 r → Plays (query_script name) v w x x 1 r
query_by name named r v w x e p = subst (λ (n : Named). Plays (named_script n) v w x x 1 r) e p

pub query_misnamed : (name : List ℕ) (status : Status) (v : View) (x : Shelved) → IsIn v → Err status ≡ write_named name → Plays (query_script name) v v x x 1 (Err status)
query_misnamed name status v x h e =
    query_by name (Err status) (Err status) v v x e
    (took_more {A = Answered} (End (Err status)) (End (Err status)) v v x x 0 1 (omega arith) (took_none (End (Err status)) v x h))
