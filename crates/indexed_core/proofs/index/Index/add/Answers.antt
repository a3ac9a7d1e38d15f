use Rattle.lease_table.specs.Table.{has_row as has_row_in}
use Rattle.indexed_core.proofs.ReachedRows.{rows_wanted, not_both}
use Rattle.std.proofs.Common.{◌≡◌, ◌+◌, ◌≤◌, ◌^◌, ◌∙◌, [], ◌∷◌, ◌++◌, List, filter, not, sym, ap, subst, refl, arith}
use Rattle.std.specs.Option.{option_copied}
use Rattle.digest_types.specs.Name.{HashAndSize}
use Rattle.store_core.specs.declared.state.Row.{Row}
use Rattle.store_core.specs.State.{same, is_among, sizes}
use Rattle.store_core.specs.Pass.{without}
use Rattle.store_core.proofs.Changes.{new_row}
use Rattle.lease_table.specs.Holds.{with_holder}
use Rattle.lease_table.specs.Table.{Table, DistinctDigests, other_digests}
use Rattle.lease_table.proofs.OrderLaws.{apart, distinct_more}
use Rattle.indexed_core.specs.Joined.{told, with_flag, kept_flags, rows_in, guards_in}
use Rattle.indexed_core.specs.Parts.{Parts, is_wanted}
use Rattle.indexed_core.proofs.RowChanges.{IsChanged, bytes_left, changed_joined, changed_rows, flags_undone, not_in_order, order_undone, same_joined, same_rows}
use Rattle.indexed_core.proofs.index.Index.add.Goals as goal

pub add-requires : goal.add-requires
add-requires c =
    let i = c.self.inside in
    ap (is_among i.order) c.digest.view_is
    ∙ not_in_order i.order i.table.blobs (told i.flags) (guards_in i.table) c.args.self.now c.args.digest.now c.self.view_is c.requires.new

-- the flag goes again where the order has no room
flags_are : (c : goal.After-remove) → told c.remove.new.self ≡ told c.self.inside.flags
flags_are c =
    let i = c.self.inside in
    let d = c.args.digest.now in
    let none = not_in_order i.order i.table.blobs (told i.flags) (guards_in i.table) c.args.self.now d c.self.view_is c.requires.new in
    c.remove.ensures
    ∙ ap (kept_flags (λ q. not (same q d))) (c.in_ok-insert.ensures.ok ∙ ap (λ (e : HashAndSize). with_flag e (told i.flags)) c.digest.view_is)
    ∙ flags_undone (told i.flags) d (c.self.invariant.has_flags d ∙ none)

pub invariant_of-self-in-Err : goal.invariant_of-self-in-Err
invariant_of-self-in-Err c = same_joined _ _ _ _ _ _ _ _ c.in-Err.ensures.err refl (flags_are c) refl c.self.invariant

pub returns-in-Err-clause-err : goal.returns-in-Err-clause-err
returns-in-Err-clause-err c =
    let i = c.self.inside in
    ap (λ (rows : List Row). record { rows = rows; guards = guards_in i.table }) (same_rows _ _ _ _ _ _ c.in-Err.ensures.err refl (flags_are c))
    ∙ c.self.view_is

pub on_put-requires-clause-new : goal.on_put-requires-clause-new
on_put-requires-clause-new c =
    let i = c.self.inside in
    c.self.invariant.has_blobs c.args.digest.now
    ∙ not_in_order i.order i.table.blobs (told i.flags) (guards_in i.table) c.args.self.now c.args.digest.now c.self.view_is c.requires.new

pub on_put-requires-clause-small : goal.on_put-requires-clause-small
on_put-requires-clause-small c =
    let i = c.self.inside in
    let gone = c.args.gone.now in
    let d = c.args.digest.now in
    let none = not_in_order i.order i.table.blobs (told i.flags) (guards_in i.table) c.args.self.now d c.self.view_is c.requires.new in
    let left = bytes_left i.order i.table.blobs (told i.flags) i.used c.self.invariant gone d (option_copied c.args.edges) none c.requires.others ∙ ap (λ (p : Parts). sizes (without gone p.rows)) c.self.view_is in
    omega (arith, left, c.requires.small)

-- digest and flag go again where the table has no room
order_again : (c : goal.After-remove-in-Err-on_put-2) → c.remove-in-Err-on_put.new.self ≡ c.self.inside.order
order_again c =
    let i = c.self.inside in
    let d = c.args.digest.now in
    let none = not_in_order i.order i.table.blobs (told i.flags) (guards_in i.table) c.args.self.now d c.self.view_is c.requires.new in
    c.remove-in-Err-on_put.ensures
    ∙ ap (other_digests d) (c.in_default.ensures.ok ∙ ap (λ (e : HashAndSize). i.order ++ e ∷ []) c.digest.view_is)
    ∙ order_undone i.order d none

flags_again : (c : goal.After-remove-in-Err-on_put-2) → told c.remove-in-Err-on_put-2.new.self ≡ told c.self.inside.flags
flags_again c =
    let i = c.self.inside in
    let d = c.args.digest.now in
    let none = not_in_order i.order i.table.blobs (told i.flags) (guards_in i.table) c.args.self.now d c.self.view_is c.requires.new in
    c.remove-in-Err-on_put-2.ensures
    ∙ ap (kept_flags (λ q. not (same q d))) (c.in_ok-insert.ensures.ok ∙ ap (λ (e : HashAndSize). with_flag e (told i.flags)) c.digest.view_is)
    ∙ flags_undone (told i.flags) d (c.self.invariant.has_flags d ∙ none)

pub invariant_of-self-in-Err-on_put : goal.invariant_of-self-in-Err-on_put
invariant_of-self-in-Err-on_put c = same_joined _ _ _ _ _ _ _ _ (order_again c) (ap (λ (t : Table). t.blobs) c.in-Err-on_put.ensures.err) (flags_again c) refl c.self.invariant

pub returns-in-Err-on_put-clause-err : goal.returns-in-Err-on_put-clause-err
returns-in-Err-on_put-clause-err c =
    ap (λ (t : Table). record { rows = rows_in c.remove-in-Err-on_put.new.self t.blobs (told c.remove-in-Err-on_put-2.new.self); guards = guards_in t }) c.in-Err-on_put.ensures.err
    ∙ ap (λ (rows : List Row). record { rows = rows; guards = guards_in c.self.inside.table }) (same_rows _ _ _ _ _ _ (order_again c) refl (flags_again c))
    ∙ c.self.view_is

pub forget-self-inside-requires-clause-distinct : goal.forget-self-inside-requires-clause-distinct
forget-self-inside-requires-clause-distinct c =
    let i = c.self.inside in
    let d = c.args.digest.now in
    let none = not_in_order i.order i.table.blobs (told i.flags) (guards_in i.table) c.args.self.now d c.self.view_is c.requires.new in
    subst DistinctDigests (sym (c.in_default.ensures.ok ∙ ap (λ (e : HashAndSize). i.order ++ e ∷ []) c.digest.view_is)) (distinct_more i.order d c.self.invariant.distinct (apart d i.order none))

changed : (c : goal.After-self-1) → IsChanged c.args.gone.now c.args.digest.now (option_copied c.args.edges) c.self.inside.order c.forget-self-inside.new.order
    c.self.inside.table.blobs c.on_put.new.self.blobs (told c.self.inside.flags) (told c.forget-self-inside.new.flags)
changed c = record {
  order_is = c.forget-self-inside.ensures.order
      ∙ ap (λ (ds : List HashAndSize). filter (λ x. not (is_among c.as_slice.result.now x)) ds) (c.in_default.ensures.ok ∙ ap (λ (e : HashAndSize). c.self.inside.order ++ e ∷ []) c.digest.view_is)
      ∙ ap (λ (gone : List HashAndSize). filter (λ x. not (is_among gone x)) (c.self.inside.order ++ c.args.digest.now ∷ [])) c.as_slice.ensures;
  blobs_are = ap (λ (t : Table). t.blobs) c.in_default-on_put.ensures.ok;
  flags_are = c.forget-self-inside.ensures.flags
      ∙ ap (kept_flags (λ q. not (is_among c.as_slice.result.now q))) (c.in_ok-insert.ensures.ok ∙ ap (λ (e : HashAndSize). with_flag e (told c.self.inside.flags)) c.digest.view_is)
      ∙ ap (λ (gone : List HashAndSize). kept_flags (λ q. not (is_among gone q)) (with_flag c.args.digest.now (told c.self.inside.flags))) c.as_slice.ensures;
}

pub invariant_of-self-2 : goal.invariant_of-self-2
invariant_of-self-2 c =
    let i = c.self.inside in
    let gone = c.args.gone.now in
    let d = c.args.digest.now in
    let none = not_in_order i.order i.table.blobs (told i.flags) (guards_in i.table) c.args.self.now d c.self.view_is c.requires.new in
    let fits : sizes (without gone (rows_in i.order i.table.blobs (told i.flags))) + d.size ≤ 2 ^ 62 = let e = ap (λ (p : Parts). sizes (without gone p.rows)) c.self.view_is in omega (arith, c.requires.small) in
    changed_joined i.order i.table.blobs (told i.flags) i.used c.self.invariant gone d (option_copied c.args.edges) none c.requires.others _ _ _ _ (changed c) c.forget-self-inside.ensures.used fits

pub returns-clause-ok : goal.returns-clause-ok
returns-clause-ok c =
    let i = c.self.inside in
    let gone = c.args.gone.now in
    let d = c.args.digest.now in
    let edges = option_copied c.args.edges in
    let none = not_in_order i.order i.table.blobs (told i.flags) (guards_in i.table) c.args.self.now d c.self.view_is c.requires.new in
    let rows = changed_rows i.order i.table.blobs (told i.flags) i.used c.self.invariant gone d edges none c.requires.others _ _ _ (changed c) in
    ap (λ (t : Table). record { rows = rows_in c.forget-self-inside.new.order c.on_put.new.self.blobs (told c.forget-self-inside.new.flags); guards = guards_in t }) c.in_default-on_put.ensures.ok
    ∙ ap (λ (rs : List Row). record { rows = rs; guards = record { leases = i.table.leases; holds = with_holder c.args.holder d i.table.holds } }) rows
    ∙ ap (λ (p : Parts). record { rows = without gone p.rows ++ new_row d edges ∷ []; guards = record p.guards { holds = with_holder c.args.holder d p.guards.holds } }) c.self.view_is

pub on_put-requires-clause-unguarded : goal.on_put-requires-clause-unguarded
on_put-requires-clause-unguarded c = λ d e.
    let i = c.self.inside in
    not_both (has_row_in i.table d) _
    (sym (rows_wanted i.order i.table.blobs (told i.flags) i.used c.self.invariant (guards_in i.table) d) ∙ ap (λ (p : Parts). is_wanted p d) c.self.view_is ∙ c.requires.unguarded d e)
