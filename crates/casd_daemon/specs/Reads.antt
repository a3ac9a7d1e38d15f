-- What the readers of words hold, as lists.
use Rattle.std.specs.Prelude.{option_map}
use Rattle.casd_daemon.specs.Words.{Asked, Reading}
use Rattle.casd_daemon.specs.declared.asked.Asked.{Asked as Given}
use Rattle.casd_daemon.specs.declared.words.Reading.{Reading as Held}

abbrev pub asked_view : Given → Asked
asked_view a = record { socket = a.socket.now; folder = a.folder.now; low = a.marks.low; high = a.marks.high; guard = a.marks.guard; connections = a.connections }

abbrev pub reading_view : Held → Reading
reading_view r = record {
  socket = option_map (λ t. t.now) r.socket;
  folder = option_map (λ t. t.now) r.folder;
  low = r.low;
  high = r.high;
  guard = r.guard;
  connections = r.connections;
  awaited = r.awaited;
  ended = r.ended;
}
