-- What a machine knows of its connection. What is due is in the output at once, so that nothing is due between two calls.
use Rattle.std.specs.Prelude.{[]}
use Rattle.h2_session.specs.declared.machine.Machine.{Machine}
use Rattle.h2_session.specs.Part.{Part}

abbrev pub part_of : Machine → Part
part_of m = record {
  role = m.role;
  begun = m.begun;
  over = m.over;
  highest = m.highest;
  initial = m.initial;
  most = m.most;
  shrink = m.shrink;
  window = m.window;
  block = m.block;
  table = m.table.dynamic;
  streams = m.streams;
  due = [];
}
