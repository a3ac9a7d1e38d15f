use Rattle.std.proofs.Common.{◌≡◌, ◌-◌, Some, List, sym, ap, ◌∙◌, arith}
use Rattle.std.specs.List.{slice_get}
use Rattle.std.proofs.lemmas.Option.{slice_get-get_or, slice_get_past}
use Rattle.hpack_tables.specs.declared.header.Header.{Header}
use Rattle.hpack_tables.specs.Table.{HeaderTable}
use Rattle.hpack_tables.proofs.Places.{header_at_zero, header_at_static, header_at_dynamic}
use Rattle.hpack_tables.proofs.dynamic_table.DynamicTable.header_at.Goals as goal

pub returns-then-index-eq0 : goal.returns-then-index-eq0
returns-then-index-eq0 c = rw c.if-index-eq0.true (sym (header_at_zero c.args.self.now))

pub returns-then-index-le-STATIC_LEN : goal.returns-then-index-le-STATIC_LEN
returns-then-index-le-STATIC_LEN c = c.entry_at.ensures ∙ sym (header_at_static c.args.self.now c.args.index (omega arith) c.if-index-le-STATIC_LEN.true)

pub returns-in-Some : goal.returns-in-Some
returns-in-Some c =
    let place = c.args.index - 61 - 1 in
    let entries : c.self.inside.entries.items ≡ c.args.self.now.entries = ap (λ (t : HeaderTable). t.entries) c.self.view_is in
    let found : slice_get c.self.inside.entries.items place ≡ Some c.in-Some.header.now = slice_get-get_or c.self.inside.entries.items place c.in-Some.header.now c.in-Some.ensures.item.3.0 ∙ ap (λ (h : Header). Some h) (sym c.in-Some.ensures.item.1) in
    rw (c.as_slice.ensures, c.as_slice-in-Some.ensures) (sym (header_at_dynamic c.args.self.now c.args.index place (omega arith) ∙ ap (λ (es : List Header). slice_get es place) (sym entries) ∙ found))

pub returns-in-None : goal.returns-in-None
returns-in-None c =
    let place = c.args.index - 61 - 1 in
    let entries : c.self.inside.entries.items ≡ c.args.self.now.entries = ap (λ (t : HeaderTable). t.entries) c.self.view_is in
    sym (header_at_dynamic c.args.self.now c.args.index place (omega arith) ∙ ap (λ (es : List Header). slice_get es place) (sym entries) ∙ slice_get_past c.self.inside.entries.items place c.in-None.ensures.item.3)
