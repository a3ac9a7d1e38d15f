use Rattle.std.proofs.Common.{ap, sym, ◌∙◌, ℕ, subst}
use Rattle.proto_wire.specs.declared.memory.OutOfMemory.{OutOfMemory}
use Rattle.blob_store.specs.Doors.{Gated}
use Rattle.blob_store.specs.View.{Waits, MayCall}
use Rattle.blob_store.proofs.DoorSteps.{door_waits}
use Rattle.blob_store.specs.Shelves.{discarding}
use Rattle.blob_store.proofs.BenchCalls.{put_gives}
use Rattle.blob_store.proofs.lock_door.LockDoor.put.Goals as goal

pub returns-in-Err-clause-err : goal.returns-in-Err-clause-err
returns-in-Err-clause-err g c =
    subst (λ (x : Gated). Waits x.view x.view) c.self.view_is
    (door_waits c.self.inside.lock.now c.self.inside.seat c.self.inside.entered c.self.invariant.door (subst (λ (x : Gated). MayCall x.view) (sym c.self.view_is) c.requires))

pub returns-clause-shelf : goal.returns-clause-shelf
returns-clause-shelf g c =
    c.in_ok-reply.ensures.shelf ∙ ap (λ (n : ℕ). discarding n (g.K.Shelf.shelved c.args.shelf.now)) (put_gives OutOfMemory c.put_answer-answer.result c.in_ok-reply.reply c.put_answer-answer.ensures)
