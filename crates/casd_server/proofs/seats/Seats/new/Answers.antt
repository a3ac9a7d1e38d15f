use Rattle.std.proofs.Common.{◌≡◌, [], sym, subst, ap, ◌∙◌}
use Rattle.store_core.specs.State.{State, new_state}
use Rattle.store_core.specs.declared.state.Guard.{Guard}
use Rattle.store_core.specs.declared.state.Guard.TheVariants as guards
use Rattle.blob_store.specs.Kept.{Stocked}
use Rattle.blob_store.specs.Benched.{Benched, new_bench}
use Rattle.blob_store.specs.Memory.{MemState, shelved_of}
use Rattle.casd_server.specs.Sitting.{IsReady, seated_at}
use Rattle.casd_server.proofs.SeatedLemmas.{new-ready, new-seated}
use Rattle.casd_server.proofs.seats.Seats.new.Goals as goal

pub invariant_of-result : goal.invariant_of-result
invariant_of-result c =
    let none : c.new-6.result.failing ≡ [] = ap (λ (s : MemState). s.failing) c.new-6.ensures ∙ c.new-4.ensures.items in
    let empty : c.in_ok-store.store.state ≡ new_state c.args.marks.low c.args.marks.high guards.Leases =
    ap (λ (s : Stocked). s.state) c.in_ok-store.ensures ∙ ap (λ (guard : Guard). new_state c.args.marks.low c.args.marks.high guard) c.requires
    in
    subst (λ (b : Benched). IsReady b (shelved_of c.new-6.result)) (sym (c.in_ok-new.ensures ∙ ap (λ (s : State). new_bench s 100) empty))
    (new-ready c.args.marks.low c.args.marks.high c.new-6.result none)

pub returns : goal.returns
returns c =
    let empty : c.in_ok-store.store.state ≡ new_state c.args.marks.low c.args.marks.high guards.Leases =
    ap (λ (s : Stocked). s.state) c.in_ok-store.ensures ∙ ap (λ (guard : Guard). new_state c.args.marks.low c.args.marks.high guard) c.requires
    in
    ap (λ (b : Benched). seated_at b) (c.in_ok-new.ensures ∙ ap (λ (s : State). new_bench s 100) empty) ∙ new-seated c.args.marks.low c.args.marks.high
