use Rattle.indexed_core.proofs.MachineChanges.{gone_free}
use Rattle.std.proofs.Common.{◌≡◌, ◌∙◌, ◌∷◌, ◌++◌, [], true, cond, List, Option, Some, None, sym, ap, subst, refl, arith}
use Rattle.digest_types.specs.Name.{HashAndSize}
use Rattle.directory_canon.specs.declared.node.Edge.{Edge}
use Rattle.store_core.specs.declared.event.Reply.TheVariants as replies
use Rattle.store_core.specs.declared.state.Row.{Row}
use Rattle.store_core.specs.State.{State, is_session, sizes}
use Rattle.store_core.specs.Pass.{without}
use Rattle.store_core.specs.Step.{holding, is_open}
use Rattle.store_core.proofs.Changes.{guarded_within, new_row, unused_is, used_is, used_keeps}
use Rattle.store_core.proofs.HeldRows.{has_last}
use Rattle.lease_table.specs.Holds.{with_holder}
use Rattle.indexed_core.specs.Parts.{Parts}
use Rattle.indexed_core.specs.Removal.{PutsRow}
use Rattle.indexed_core.specs.contracts.machine.IndexedCore.{the_view}
use Rattle.indexed_core.proofs.MachineLaws.{bytes_guarded, guards_are}
use Rattle.indexed_core.proofs.MachineChanges.{no_space_is, fits_of, both_change, holder_after, row_and_hold}
use Rattle.indexed_core.proofs.MachinePuts.{fits_other, fits_small, fits_keeps, fits_is, fits_puts}
use Rattle.indexed_core.proofs.machine.IndexedCore.put_new.Goals as goal

pub overflow_add-guarded : goal.overflow_add-guarded
overflow_add-guarded c =
    let s = the_view c.self.inside in
    omega (arith, c.guarded_bytes-guarded.ensures, bytes_guarded s c.self.inside.index refl (guards_are (the_view c.self.inside) c.self.inside.index.guards c.self.invariant.0 refl), guarded_within s, c.self.invariant.1.within, c.self.inside.marks.small, c.digest.invariant)

pub returns-then-guarded-size-clause-ok : goal.returns-then-guarded-size-clause-ok
returns-then-guarded-size-clause-ok c =
    let s = the_view c.self.inside in
    unused_is c.args.self.now c.args.owner c.args.digest.now (replies.NoSpace c.guarded_bytes-guarded.result c.digest.inside.size s.high) refl
    ∙ ap (holding c.args.owner c.args.digest.now)
    (no_space_is s c.args.self.now c.args.digest.now c.args.edges.now c.guarded_bytes-guarded.result c.digest.inside.size s.high c.self.view_is c.self.invariant.1
    (c.guarded_bytes-guarded.ensures ∙ bytes_guarded s c.self.inside.index refl (guards_are (the_view c.self.inside) c.self.inside.index.guards c.self.invariant.0 refl)) (ap (λ (x : HashAndSize). x.size) c.digest.view_is) refl c.if-guarded-size.true)

pub add-requires-clause-others : goal.add-requires-clause-others
add-requires-clause-others c =
    let s = the_view c.self.inside in
    let held = c.guarded_bytes-guarded.ensures ∙ bytes_guarded s c.self.inside.index refl (guards_are (the_view c.self.inside) c.self.inside.index.guards c.self.invariant.0 refl) in
    let fits = fits_of s c.args.self.now c.args.digest.now c.in_ok-gone.gone c.guarded_bytes-guarded.result c.digest.inside.size c.self.view_is c.self.invariant.1 c.requires.new c.requires.filled
    held (ap (λ (x : HashAndSize). x.size) c.digest.view_is) c.if-guarded-size.false c.in_ok-gone.ensures in
    fits_other s c.args.digest.now c.args.edges.now c.in_ok-gone.gone fits

pub add-requires-clause-small : goal.add-requires-clause-small
add-requires-clause-small c =
    let s = the_view c.self.inside in
    let held = c.guarded_bytes-guarded.ensures ∙ bytes_guarded s c.self.inside.index refl (guards_are (the_view c.self.inside) c.self.inside.index.guards c.self.invariant.0 refl) in
    let fits = fits_of s c.args.self.now c.args.digest.now c.in_ok-gone.gone c.guarded_bytes-guarded.result c.digest.inside.size c.self.view_is c.self.invariant.1 c.requires.new c.requires.filled
    held (ap (λ (x : HashAndSize). x.size) c.digest.view_is) c.if-guarded-size.false c.in_ok-gone.ensures in
    omega (arith, fits_small s c.args.digest.now c.args.edges.now c.in_ok-gone.gone fits, c.self.inside.marks.small)

pub invariant_of-self-2 : goal.invariant_of-self-2
invariant_of-self-2 c =
    let s = the_view c.self.inside in
    let d = c.args.digest.now in
    let edges = c.args.edges.now in
    let held = c.guarded_bytes-guarded.ensures ∙ bytes_guarded s c.self.inside.index refl (guards_are (the_view c.self.inside) c.self.inside.index.guards c.self.invariant.0 refl) in
    let fits = fits_of s c.args.self.now d c.in_ok-gone.gone c.guarded_bytes-guarded.result c.digest.inside.size c.self.view_is c.self.invariant.1 c.requires.new c.requires.filled
    held (ap (λ (x : HashAndSize). x.size) c.digest.view_is) c.if-guarded-size.false c.in_ok-gone.ensures in
    let held_by = holder_after s.guard c.args.owner d s.holds c.holder-holder.result (c.holder-holder.ensures ∙ ap (λ (t : State). cond (is_session t.guard) (Some c.args.owner) None) (sym c.self.view_is)) c.requires.filled in
    let added = row_and_hold c.add.new.self c.self.inside.index.guards (without c.in_ok-gone.gone s.rows) d _ edges (with_holder c.holder-holder.result d s.holds) c.in_ok-add.ensures.ok c.as_ref.ensures.value in
    let left = without c.in_ok-gone.gone s.rows ++ new_row d edges ∷ [] in
    let opened = subst (λ (t : State). is_open t c.args.owner ≡ true) (sym c.self.view_is) c.requires.open in
    both_change s c.add.new.self c.self.inside.index.guards left (with_holder c.holder-holder.result d s.holds) (guards_are (the_view c.self.inside) c.self.inside.index.guards c.self.invariant.0 refl) added
    (used_keeps (record s { rows = left }) c.args.owner d (with_holder c.holder-holder.result d s.holds) opened (λ filled. has_last d (without c.in_ok-gone.gone s.rows) (new_row d edges) refl) held_by
    (fits_keeps s d edges c.in_ok-gone.gone fits))

pub returns-clause-ok : goal.returns-clause-ok
returns-clause-ok c =
    let s = the_view c.self.inside in
    let d = c.args.digest.now in
    let edges = c.args.edges.now in
    let held = c.guarded_bytes-guarded.ensures ∙ bytes_guarded s c.self.inside.index refl (guards_are (the_view c.self.inside) c.self.inside.index.guards c.self.invariant.0 refl) in
    let fits = fits_of s c.args.self.now d c.in_ok-gone.gone c.guarded_bytes-guarded.result c.digest.inside.size c.self.view_is c.self.invariant.1 c.requires.new c.requires.filled
    held (ap (λ (x : HashAndSize). x.size) c.digest.view_is) c.if-guarded-size.false c.in_ok-gone.ensures in
    let held_by = holder_after s.guard c.args.owner d s.holds c.holder-holder.result (c.holder-holder.ensures ∙ ap (λ (t : State). cond (is_session t.guard) (Some c.args.owner) None) (sym c.self.view_is)) c.requires.filled in
    let added = row_and_hold c.add.new.self c.self.inside.index.guards (without c.in_ok-gone.gone s.rows) d _ edges (with_holder c.holder-holder.result d s.holds) c.in_ok-add.ensures.ok c.as_ref.ensures.value in
    let left = without c.in_ok-gone.gone s.rows ++ new_row d edges ∷ [] in
    ap (λ (p : Parts). (replies.Stored c.len.result c.used.result, record s { rows = p.rows; holds = p.guards.holds })) added
    ∙ used_is (record s { rows = left }) c.args.owner d (replies.Stored c.len.result c.used.result) (with_holder c.holder-holder.result d s.holds) refl held_by
    ∙ ap (holding c.args.owner d)
    (fits_is s d edges c.in_ok-gone.gone fits c.args.self.now c.len.result c.used.result c.self.view_is c.len.ensures (c.used.ensures ∙ ap (λ (p : Parts). sizes p.rows) added))

pub returns-clause-rows : goal.returns-clause-rows
returns-clause-rows c =
    let s = the_view c.self.inside in
    let d = c.args.digest.now in
    let edges = c.args.edges.now in
    let held = c.guarded_bytes-guarded.ensures ∙ bytes_guarded s c.self.inside.index refl (guards_are (the_view c.self.inside) c.self.inside.index.guards c.self.invariant.0 refl) in
    let fits = fits_of s c.args.self.now d c.in_ok-gone.gone c.guarded_bytes-guarded.result c.digest.inside.size c.self.view_is c.self.invariant.1 c.requires.new c.requires.filled
    held (ap (λ (x : HashAndSize). x.size) c.digest.view_is) c.if-guarded-size.false c.in_ok-gone.ensures in
    let added = ap (λ (p : Parts). p.rows) c.in_ok-add.ensures.ok
    ∙ ap (λ (o : Option (List Edge)). without c.in_ok-gone.gone s.rows ++ new_row d o ∷ []) c.as_ref.ensures.value in
    subst (λ (t : State). PutsRow d (replies.Stored c.len.result c.used.result) c.in_ok-gone.gone t.rows c.add.new.self.rows) c.self.view_is
    (subst (λ (rows : List Row). PutsRow d (replies.Stored c.len.result c.used.result) c.in_ok-gone.gone s.rows rows) (sym added)
    (fits_puts s d edges c.in_ok-gone.gone fits c.len.result c.used.result c.len.ensures))

pub add-requires-clause-unguarded : goal.add-requires-clause-unguarded
add-requires-clause-unguarded c = λ d e.
    let s = the_view c.self.inside in
    gone_free s c.args.self.now c.self.inside.index c.digest.inside.size c.in_ok-gone.gone d c.self.view_is refl (guards_are (the_view c.self.inside) c.self.inside.index.guards c.self.invariant.0 refl) c.in_ok-gone.ensures e
