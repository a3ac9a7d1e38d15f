use Rattle.blob_store.specs.Doors.{GoesOn}
use Rattle.door_tests.proofs.helpers.put_hundred.Given as goal

-- so many blobs were put
abbrev pub invariant-loop-i : goal.invariant-loop-i
invariant-loop-i g l = GoesOn l.initial.door.view l.door.view l.i
