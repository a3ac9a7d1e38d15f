use Rattle.std.proofs.Common.{◌≡◌, ◌++◌, ◌*◌, take, length}
use Rattle.std.specs.List.{flat_map}
use Rattle.h2_frames.specs.Spelling.{header_bytes, setting, flag, HasSettings}
use Rattle.h2_frames.proofs.write.push_settings.Given as goal

abbrev pub invariant-values : goal.invariant-values
invariant-values l = record {
  so_far : l.out ≡ l.fn.out ++ (header_bytes (6 * length l.values) 4 (flag l.ack 1) 0 0 ++ flat_map setting (take l.name-index l.values));
  typed : HasSettings (take l.name-index l.values);
}
