-- What a host over a socket tells: no content, but how many connections it gave out and which calls failed.
use Rattle.std.specs.Prelude.{ℕ, true, None}
use Rattle.casd_daemon.specs.Hosting.{Told, Counts}
use Rattle.socket_host.specs.declared.host.SocketHost.{SocketHost}

abbrev pub tells : {K L : Type 0} → ℕ → Told K L
tells out = record {
  found = None;
  saved = None;
  may_fail = true;
  left = None;
  ended = None;
  printed = None;
  kept = None;
  out = out;
}

abbrev pub counts_of : SocketHost → Counts
counts_of h = record { accepting = h.accepting; printing = h.printing; keeping = h.keeping }
