use Rattle.std.proofs.Common.{◌≡◌, ◌-◌, ◌∙◌, List, Option, not, sym, ap, subst, refl, arith}
use Rattle.std.specs.Prelude.{slice_get, IfSome, IfNone}
use Rattle.digest_types.specs.Name.{HashAndSize}
use Rattle.store_core.specs.declared.state.Row.{Row}
use Rattle.store_core.specs.State.{same, others, total}
use Rattle.lease_table.specs.Table.{Table, other_digests}
use Rattle.lease_table.proofs.PassLaws.{passed_alike}
use Rattle.indexed_core.specs.Joined.{IsJoined, told, rows_in, guards_in}
use Rattle.indexed_core.specs.Parts.{Parts, free, HasPassed}
use Rattle.indexed_core.proofs.HeldLaws.{first_total}
use Rattle.indexed_core.proofs.ReachedRows.{first_loose, rows_free, rows_passed, blobs_passed}
use Rattle.indexed_core.proofs.RowChanges.{joined_kept, rows_kept, same_joined, same_rows}
use Rattle.indexed_core.proofs.index.Index.remove_next.Goals as goal

pub take_next-requires : goal.take_next-requires
take_next-requires c =
    let i = c.self.inside in
    blobs_passed i.order i.table.blobs (told i.flags) i.used c.self.invariant (guards_in i.table) c.args.from.now
    (subst (λ (p : Parts). HasPassed p c.args.from.now) (sym c.self.view_is) c.requires)

pub returns-in_err-digest-clause-first : goal.returns-in_err-digest-clause-first
returns-in_err-digest-clause-first c =
    let i = c.self.inside in
    c.from_residual.ensures ∙ sym c.in_err-digest.was ∙ c.take_next.ensures.first
    ∙ ap (λ (ds : List HashAndSize). slice_get ds 0) (rows_free i.order i.table.blobs (told i.flags) i.used c.self.invariant (guards_in i.table) ∙ ap free c.self.view_is)

pub overflow_sub-self : goal.overflow_sub-self
overflow_sub-self c =
    let i = c.self.inside in
    let sum = first_total i.table i.order c.in_ok-digest.digest i.used c.digest.inside.size c.self.invariant.distinct c.self.invariant.sum (ap (λ (x : HashAndSize). x.size) c.digest.view_is) (sym c.take_next.ensures.first ∙ c.in_ok-digest.was) in
    omega arith

pub invariant_of-self : goal.invariant_of-self
invariant_of-self c =
    let i = c.self.inside in
    let none = subst (λ (o : Option HashAndSize). IfNone o ((c.take_next.new.self ≡ i.order) × (c.take_next.new.from ≡ c.args.from.now))) c.in_err-digest.was c.take_next.ensures.none in
    subst (λ (ds : List HashAndSize). IsJoined ds i.table.blobs (told i.flags) i.used) (sym none.0) c.self.invariant

pub invariant_of-self-2 : goal.invariant_of-self-2
invariant_of-self-2 c =
    let i = c.self.inside in
    let d = c.in_ok-digest.digest in
    let left = subst (λ (o : Option HashAndSize). IfSome o (λ x. c.take_next.new.self ≡ other_digests x i.order)) c.in_ok-digest.was c.take_next.ensures.some in
    let sum = first_total i.table i.order d i.used c.digest.inside.size c.self.invariant.distinct c.self.invariant.sum (ap (λ (x : HashAndSize). x.size) c.digest.view_is) (sym c.take_next.ensures.first ∙ c.in_ok-digest.was) in
    let bytes : i.used - c.digest.inside.size ≡ total (other_digests d i.order) = omega arith in
    same_joined _ _ _ _ _ _ _ _ left (ap (λ (t : Table). t.blobs) c.on_remove.ensures.rows) c.remove.ensures bytes (joined_kept (λ x. not (same x d)) i.order i.table.blobs (told i.flags) i.used c.self.invariant)

pub returns-clause-first : goal.returns-clause-first
returns-clause-first c =
    let i = c.self.inside in
    sym c.in_ok-digest.was ∙ c.take_next.ensures.first
    ∙ ap (λ (ds : List HashAndSize). slice_get ds 0) (rows_free i.order i.table.blobs (told i.flags) i.used c.self.invariant (guards_in i.table) ∙ ap free c.self.view_is)

pub returns-clause-some : goal.returns-clause-some
returns-clause-some c =
    let i = c.self.inside in
    let d = c.in_ok-digest.digest in
    let left = subst (λ (o : Option HashAndSize). IfSome o (λ x. c.take_next.new.self ≡ other_digests x i.order)) c.in_ok-digest.was c.take_next.ensures.some in
    ap (λ (t : Table). record { rows = rows_in c.take_next.new.self t.blobs (told c.remove.new.self); guards = guards_in t }) c.on_remove.ensures.rows
    ∙ ap (λ (rows : List Row). record { rows = rows; guards = guards_in i.table }) (same_rows _ _ _ _ _ _ left refl c.remove.ensures ∙ rows_kept (λ x. not (same x d)) i.order i.table.blobs (told i.flags))
    ∙ ap (λ (p : Parts). record { rows = others d p.rows; guards = p.guards }) c.self.view_is

pub on_remove-requires : goal.on_remove-requires
on_remove-requires c =
    let i = c.self.inside in
    first_loose i.table i.order c.in_ok-digest.digest (sym c.take_next.ensures.first ∙ c.in_ok-digest.was)

pub returns-clause-passed : goal.returns-clause-passed
returns-clause-passed c =
    let i = c.self.inside in
    let d = c.in_ok-digest.digest in
    let t = c.on_remove.new.self in
    let left = subst (λ (o : Option HashAndSize). IfSome o (λ x. c.take_next.new.self ≡ other_digests x i.order)) c.in_ok-digest.was c.take_next.ensures.some in
    let order = c.take_next.new.self in
    let sum = first_total i.table i.order d i.used c.digest.inside.size c.self.invariant.distinct c.self.invariant.sum (ap (λ (x : HashAndSize). x.size) c.digest.view_is) (sym c.take_next.ensures.first ∙ c.in_ok-digest.was) in
    let bytes : i.used - c.digest.inside.size ≡ total (other_digests d i.order) = omega arith in
    let joined = same_joined _ order _ t.blobs _ (told c.remove.new.self) _ (i.used - c.digest.inside.size) left (ap (λ (u : Table). u.blobs) c.on_remove.ensures.rows) c.remove.ensures bytes (joined_kept (λ x. not (same x d)) i.order i.table.blobs (told i.flags) i.used c.self.invariant) in
    let alike = λ (q : HashAndSize). sym (c.on_remove.ensures.guards q) in
    rows_passed order t.blobs (told c.remove.new.self) (i.used - c.digest.inside.size) joined (guards_in t) c.take_next.new.from (passed_alike i.table t order c.take_next.new.from alike c.take_next.ensures.passed)
