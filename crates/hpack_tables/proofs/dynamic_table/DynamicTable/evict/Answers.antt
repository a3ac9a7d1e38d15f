use Rattle.std.proofs.Common.{sym, ap, ◌∙◌, arith}
use Rattle.hpack_tables.specs.Table.{HeaderTable, fitting}
use Rattle.hpack_tables.proofs.Fitting.{fitting_all, size_last, evicted, table_of}
use Rattle.hpack_tables.proofs.dynamic_table.DynamicTable.evict.Goals as goal

pub loop-self-preserved-in-Some : goal.loop-self-preserved-in-Some
loop-self-preserved-in-Some c =
    let i = c.loop-self.invariant in
    let s = size_last c.loop-self.self-inside.entries.items c.take_oldest.new.entries.items c.in-Some.header c.in-Some.ensures in record {
      size = omega (arith, s, i.size, c.len.ensures, c.len-in-Some.ensures);
      less = omega (arith, i.less);
      max = i.max;
      fitting = evicted c.args.most c.loop-self.self-inside.entries.items c.take_oldest.new.entries.items c.in-Some.header c.in-Some.ensures (omega (arith, i.size)) ∙ i.fitting;
    }

pub returns : goal.returns
returns c =
    let i = c.loop-self.invariant in
    let entries = ap (λ (t : HeaderTable). t.entries) c.self.view_is in
    let max = ap (λ (t : HeaderTable). t.max) c.self.view_is in
    table_of c.loop-self.self-inside.entries.items c.loop-self.self-inside.max (record { entries = fitting c.args.most c.args.self.now.entries; max = c.args.self.now.max })
    (sym (fitting_all c.args.most c.loop-self.self-inside.entries.items (omega (arith, i.size))) ∙ i.fitting ∙ ap (fitting c.args.most) entries) (i.max ∙ max)
