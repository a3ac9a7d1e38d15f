use Rattle.std.proofs.Common.{ℕ, List, Bor, ◌∙◌}
use Rattle.hpack_tables.specs.declared.header.Header.{Header}
use Rattle.hpack_tables.specs.Table.{static_entries, entry_of}
use Rattle.hpack_tables.specs.Encoding.{is_header}
use Rattle.hpack_tables.proofs.Places.{position_seen}
use Rattle.hpack_tables.proofs.static_table.place_of.Goals as goal

pub returns : goal.returns
returns c =
    let view : Bor (List ℕ) × Bor (List ℕ) → Header = λ entry. entry_of entry.0.now entry.1.now in
    c.first_same.ensures ∙ position_seen (is_header c.args.header.now) view c.entries.result.now static_entries c.entries.ensures
