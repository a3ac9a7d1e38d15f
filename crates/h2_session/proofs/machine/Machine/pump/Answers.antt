use Rattle.std.proofs.Common.{◌∙◌}
use Rattle.h2_session.proofs.PartLaws.{writes_join}
use Rattle.h2_session.proofs.machine.Machine.pump.Goals as goal

pub frames-preserved : goal.frames-preserved
frames-preserved c = record {
  writes = writes_join _ _ _ _ _ _ c.frames.invariant.writes c.in_ok-write_turn.ensures.writes;
  role = c.write_turn.ensures.stays.0 ∙ c.frames.invariant.role;
  highest = c.write_turn.ensures.stays.1 ∙ c.frames.invariant.highest;
}
