use Rattle.std.proofs.Common.{◌≡◌, ◌∷◌, ◌++◌, ◌∙◌, [], false, List, Some, cond, sym, ap, subst}
use Rattle.std.specs.List.{list_any}
use Rattle.std.specs.Map.{lookup}
use Rattle.digest_types.specs.Name.{HashAndSize}
use Rattle.store_core.specs.Reach.{Linked}
use Rattle.store_core.specs.State.{same, is_among}
use Rattle.lease_table.specs.Table.{is_blob}
use Rattle.lease_table.specs.Rows.{rows_in, IsIndexed}
use Rattle.lease_table.proofs.RowLaws.{Entry, has_in, indexed_more, rows_more}
use Rattle.lease_table.proofs.index.Index.push.Goals as goal

pub add-requires : goal.add-requires
add-requires c =
    let i = c.self.inside in
    let d = c.args.digest in
    sym (has_in i.order i.edges.entries d) ∙ ap (list_any (is_blob d)) c.self.view_is ∙ c.requires

-- what is told of the map before room was made for one more
at : (c : goal.After-insert) → (q : HashAndSize) → lookup (same q) c.insert.new.entries.entries ≡ cond (same c.args.digest q) (Some c.args.edges) (lookup (same q) c.self.inside.edges.entries)
at c q = c.insert.ensures q ∙ ap (λ (entries : List Entry). cond (same c.args.digest q) (Some c.args.edges) (lookup (same q) entries)) c.in_ok-reserve.ensures.entries

none : (c : goal.After-insert) → is_among c.self.inside.order c.args.digest ≡ false
none c = sym (has_in c.self.inside.order c.self.inside.edges.entries c.args.digest) ∙ ap (list_any (is_blob c.args.digest)) c.self.view_is ∙ c.requires

pub invariant_of-self-2 : goal.invariant_of-self-2
invariant_of-self-2 c =
    let i = c.self.inside in
    subst (λ (order : List HashAndSize). IsIndexed order c.insert.new.entries.entries) (sym c.in_ok-add.ensures.ok)
    (indexed_more i.order i.edges.entries c.insert.new.entries.entries c.args.digest c.self.invariant c.args.edges (none c) (at c))

pub returns-clause-ok : goal.returns-clause-ok
returns-clause-ok c =
    let i = c.self.inside in
    ap (λ (order : List HashAndSize). rows_in order c.insert.new.entries.entries) c.in_ok-add.ensures.ok
    ∙ rows_more i.order i.edges.entries c.insert.new.entries.entries c.args.digest c.self.invariant c.args.edges (none c) (at c)
    ∙ ap (λ (rows : List Linked). rows ++ record { digest = c.args.digest; edges = c.args.edges } ∷ []) c.self.view_is
