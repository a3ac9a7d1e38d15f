use Rattle.std.proofs.Common.{◌≡◌, ◌∙◌, List, sym, ap, subst}
use Rattle.std.specs.Prelude.{IfOk}
use Rattle.digest_types.specs.Name.{HashAndSize}
use Rattle.store_core.specs.declared.event.Reply.{Reply}
use Rattle.store_core.specs.State.{State, has_row}
use Rattle.indexed_core.specs.Removal.{PutsRow}
use Rattle.indexed_core.proofs.MachinePuts.{no_row, puts_again, put_step}
use Rattle.indexed_core.proofs.machine.IndexedCore.put.Goals as goal

pub returns-then-has_row-clause-rows : goal.returns-then-has_row-clause-rows
returns-then-has_row-clause-rows c =
    let d = c.args.digest.now in
    let there = ap (λ (t : State). has_row t.rows d) (sym c.self.view_is) ∙ sym c.has_row.ensures ∙ c.if-has_row.true in
    subst (λ (ds : List HashAndSize). PutsRow d c.in_ok-reply.reply ds c.args.self.now.rows c.put_again.new.self.rows) (sym c.new-then-has_row.ensures)
    (puts_again c.args.self.now c.args.owner d c.args.edges.now c.in_ok-reply.reply c.put_again.new.self there (c.in_ok-reply.ensures.ok c.args.edges.now))

pub returns-clause-ok : goal.returns-clause-ok
returns-clause-ok c =
    let d = c.args.digest.now in
    let now = c.args.self.now in
    let absent = ap (λ (t : State). has_row t.rows d) (sym c.self.view_is) ∙ sym c.has_row.ensures ∙ c.if-has_row.false in
    let opened = sym c.is_open.ensures ∙ c.if-not-is_open.false in
    let filled = sym c.is_empty_blob.ensures ∙ c.if-is_empty_blob.false in
    subst (λ (x : Reply × State). IfOk c.put_new.result (λ r. (r.0, c.put_new.new.self) ≡ x)) (put_step now c.args.owner d c.args.edges.now opened filled (no_row d now.rows absent)) c.put_new.ensures.ok
