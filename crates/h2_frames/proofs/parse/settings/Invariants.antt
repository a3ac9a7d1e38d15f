use Rattle.std.proofs.Common.{◌≡◌, ◌++◌, length}
use Rattle.h2_frames.specs.Reading.{settings_in}
use Rattle.h2_frames.proofs.parse.settings.Given as goal

abbrev pub invariant-settings : goal.invariant-settings
invariant-settings l = l.values.items ++ settings_in l.rest ≡ settings_in l.payload

abbrev pub decreases-settings : goal.decreases-settings
decreases-settings l = length l.rest
