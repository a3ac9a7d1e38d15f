-- The host in memory as a plain value, and what it tells.
use Rattle.std.specs.Prelude.{ℕ, false, List, [], Option, Some}
use Rattle.digest_types.specs.Name.{HashAndSize}
use Rattle.blob_store.specs.Memory.{MemState}
use Rattle.casd_connection.specs.declared.report.ConnReport.{ConnReport}
use Rattle.casd_daemon.specs.Hosting.{Told, Counts}
use Rattle.casd_daemon.specs.declared.host.Conn.{Conn}

-- The bodies to be found, the connections that are left and those that were handed back, the bytes printed, and the list of
-- use that was kept last; which calls fail, by their numbers from 0, and how many there were; how many connections weren't
-- handed back yet; and the counts of faults.
pub record MemHosted (L : Type 0) : Type 0 where
  pub found : List (List ℕ)
  pub left : List (Conn MemState L)
  pub ended : List (Conn MemState L × ConnReport)
  pub printed : List ℕ
  pub kept : Option (List HashAndSize)
  pub failing : List ℕ
  pub calls : ℕ
  pub out : ℕ
  pub counts : Counts

abbrev pub tells : {L : Type 0} → MemHosted L → Told MemState L
tells h = record {
  found = Some h.found;
  saved = Some [];
  may_fail = false;
  left = Some h.left;
  ended = Some h.ended;
  printed = Some h.printed;
  kept = Some h.kept;
  out = h.out;
}

-- no call failed
abbrev pub no_faults : Counts
no_faults = record { accepting = 0; printing = 0; keeping = 0 }
