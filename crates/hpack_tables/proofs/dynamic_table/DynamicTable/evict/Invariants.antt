use Rattle.std.proofs.Common.{◌≡◌, ◌≤◌, length}
use Rattle.hpack_tables.specs.Table.{fitting, list_size}
use Rattle.hpack_tables.proofs.dynamic_table.DynamicTable.evict.Given as goal

abbrev pub invariant-loop-self : goal.invariant-loop-self
invariant-loop-self l = record {
  size : l.self-inside.size ≡ list_size l.self-inside.entries.items;
  less : l.self-inside.size ≤ l.initial.self-inside.size;
  max : l.self-inside.max ≡ l.initial.self-inside.max;
  fitting : fitting l.most l.self-inside.entries.items ≡ fitting l.most l.initial.self-inside.entries.items;
}

abbrev pub decreases-loop-self : goal.decreases-loop-self
decreases-loop-self l = length l.self-inside.entries.items
