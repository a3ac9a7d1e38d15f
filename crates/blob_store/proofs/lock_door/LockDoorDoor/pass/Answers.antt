use Rattle.std.proofs.Common.{ap, ◌∙◌, ℕ}
use Rattle.blob_store.specs.Shelves.{discarding}
use Rattle.blob_store.proofs.BenchCalls.{passed_gives}
use Rattle.blob_store.proofs.lock_door.LockDoorDoor.pass.Goals as goal

pub returns-clause-shelf : goal.returns-clause-shelf
returns-clause-shelf g c =
    c.pass_in_turn.ensures.shelf ∙ ap (λ (n : ℕ). discarding n (g.K.Shelf.shelved c.args.shelf.now)) (passed_gives c.pass_in_turn.result c.in-Passed.removed c.in-Passed.used c.in-Passed.is)
