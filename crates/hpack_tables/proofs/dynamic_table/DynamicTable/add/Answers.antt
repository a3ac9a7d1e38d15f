use Rattle.std.proofs.Common.{◌≡◌, ◌-◌, ◌+◌, ◌≤◌, ◌∷◌, ℕ, List, ap, ◌∙◌, arith}
use Rattle.std.proofs.lemmas.List.Sums.{sum_by-cons}
use Rattle.hpack_tables.specs.declared.header.Header.{Header}
use Rattle.hpack_tables.specs.Table.{HeaderTable, size_of, list_size, fitting, entry_of, with_entry}
use Rattle.hpack_tables.proofs.Fitting.{within_none, within_some, emptied, entered, entered_size, table_of}
use Rattle.hpack_tables.proofs.dynamic_table.DynamicTable.add.Goals as goal

pub returns-in-None : goal.returns-in-None
returns-in-None c =
    let max = ap (λ (t : HeaderTable). t.max) c.self.view_is in
    emptied c.args.self.now c.evict.new.self c.args.header.now (omega (arith, within_none (size_of c.args.header.now) c.self.inside.max c.in-None.ensures)) c.evict.ensures

-- the header that was added
copied : (c : goal.After-self-1) → c.in_ok-copy-in-Some.copy ≡ c.args.header.now
copied c = c.in_ok-copy-in-Some.ensures ∙ ap (λ (name : List ℕ). entry_of name c.as_slice-in-Some.result.now) c.as_slice.ensures ∙ ap (λ (value : List ℕ). entry_of c.args.header.now.name value) c.as_slice-in-Some.ensures

-- it fits, and its size is what was found
found : (c : goal.After-self-1) → (c.in-Some.size ≡ size_of c.args.header.now) × (size_of c.args.header.now ≤ c.args.self.now.max)
found c =
    let w = within_some (size_of c.args.header.now) c.self.inside.max c.in-Some.size c.in-Some.ensures in
    let max : c.self.inside.max ≡ c.args.self.now.max = ap (λ (t : HeaderTable). t.max) c.self.view_is in
    (w.0, omega (arith, w.1))

-- the entries that stay
kept : (c : goal.After-self-1) → c.self-in-Some.inside.entries.items ≡ fitting (c.args.self.now.max - size_of c.args.header.now) c.args.self.now.entries
kept c =
    let max : c.evict-in-Some.inside.max ≡ c.args.self.now.max = ap (λ (t : HeaderTable). t.max) c.evict-in-Some.view_is in
    ap (λ (t : HeaderTable). t.entries) c.self-in-Some.view_is ∙ ap (λ (t : HeaderTable). t.entries) c.evict-in-Some-2.ensures
    ∙ ap (λ n. fitting n c.args.self.now.entries) (omega (arith, (found c).0))

-- the maximum stays
same_max : (c : goal.After-self-1) → c.self-in-Some.inside.max ≡ c.args.self.now.max
same_max c = ap (λ (t : HeaderTable). t.max) c.self-in-Some.view_is ∙ ap (λ (t : HeaderTable). t.max) c.evict-in-Some-2.ensures

-- what was pushed
pushed : (c : goal.After-self-1) → c.push_front.new.self.items ≡ c.args.header.now ∷ c.self-in-Some.inside.entries.items
pushed c = c.in_ok-push_front-in-Some.ensures.items ∙ ap (λ (h : Header). h ∷ c.self-in-Some.inside.entries.items) (copied c)

pub invariant_of-self-in-Some : goal.invariant_of-self-in-Some
invariant_of-self-in-Some c =
    let i = c.self-in-Some.invariant in
    let size : c.self-in-Some.inside.size + c.in-Some.size ≡ list_size c.push_front.new.self.items = omega (arith, i.0, (found c).0, ap list_size (pushed c), sum_by-cons size_of c.args.header.now c.self-in-Some.inside.entries.items) in
    (size, omega (arith, size, same_max c, entered_size c.args.self.now c.args.header.now c.self-in-Some.inside.entries.items c.push_front.new.self.items (found c).1 (kept c) (pushed c)), i.2)

pub returns-in_ok-push_front-in-Some : goal.returns-in_ok-push_front-in-Some
returns-in_ok-push_front-in-Some c =
    table_of c.push_front.new.self.items c.self-in-Some.inside.max (with_entry c.args.self.now c.args.header.now)
    (entered c.args.self.now c.args.header.now c.self-in-Some.inside.entries.items c.push_front.new.self.items (found c).1 (kept c) (pushed c)) (same_max c)
