use Rattle.std.specs.List.{AllWithin}
use Rattle.h2_session.specs.Sent.{IsStuck}
use Rattle.h2_session.proofs.turns.turn_within.Given as goal

abbrev pub invariant-rows : goal.invariant-rows
invariant-rows l = AllWithin (IsStuck l.window l.initial') l.streams l.from l.i
