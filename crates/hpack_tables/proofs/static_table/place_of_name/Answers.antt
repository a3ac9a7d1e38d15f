use Rattle.std.proofs.Common.{ℕ, List, Bor, ◌∙◌}
use Rattle.hpack_tables.specs.declared.header.Header.{Header}
use Rattle.hpack_tables.specs.Table.{static_entries, entry_of}
use Rattle.hpack_tables.specs.Encoding.{has_name}
use Rattle.hpack_tables.proofs.Places.{position_seen}
use Rattle.hpack_tables.proofs.static_table.place_of_name.Goals as goal

pub returns : goal.returns
returns c =
    let view : Bor (List ℕ) × Bor (List ℕ) → Header = λ entry. entry_of entry.0.now entry.1.now in
    c.first_named.ensures ∙ position_seen (has_name c.args.name.now) view c.entries.result.now static_entries c.entries.ensures
