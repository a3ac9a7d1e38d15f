use Rattle.std.proofs.Common.{◌≡◌, ◌<◌}
use Rattle.casd_daemon.specs.Working.{Works}
use Rattle.casd_daemon.proofs.worker.expiry_worker.Given as goal

-- so many passes were made
abbrev pub invariant-loop-round : goal.invariant-loop-round
invariant-loop-round g l =
    Works (g.D.Door.view l.initial.door) (g.D.Door.view l.door) l.round
    × (g.E.Ear.passes l.ear ≡ l.round) × (g.E.Ear.stops l.ear ≡ 0) × (0 < (g.D.Door.view l.door).left)
