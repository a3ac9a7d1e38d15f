use Rattle.std.proofs.Common.{rules, subst, sym}
use Rattle.blob_store.specs.Doors.{Gated}
use Rattle.blob_store.specs.View.{Waits, MayCall}
use Rattle.blob_store.proofs.DoorSteps.{door_waits}
use Rattle.blob_store.proofs.lock_door.LockDoorDoor.find.Goals as goal

pub returns-in_err-from_slice-clause-err : goal.returns-in_err-from_slice-clause-err
returns-in_err-from_slice-clause-err g c =
    let waits : Waits c.args.self.now.view c.args.self.now.view =
    subst (λ (x : Gated). Waits x.view x.view) c.self.view_is
    (door_waits c.self.inside.lock.now c.self.inside.seat c.self.inside.entered c.self.invariant.door (subst (λ (x : Gated). MayCall x.view) (sym c.self.view_is) c.requires)) in
    search (rules, waits)
