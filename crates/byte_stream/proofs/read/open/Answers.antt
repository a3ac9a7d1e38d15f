use Rattle.std.proofs.Common.{refl}
use Rattle.cas_calls.proofs.ReadLaws.{leaves_stays}
use Rattle.cas_calls.proofs.UpdateLaws.{err_is}
use Rattle.byte_stream.proofs.OpenLaws.{open_found, open_absent, open_fault, open_wanting}
use Rattle.byte_stream.proofs.read.open.Goals as goal

pub returns-in-Ok-Some-clause-plays : goal.returns-in-Ok-Some-clause-plays
returns-in-Ok-Some-clause-plays g c =
    open_found c.args.place.now c.in-Ok-Some.field-0 c.in-Ok-Some.reading (g.D.Door.view c.args.door.now) (g.D.Door.view c.read.new.self) (g.K.Shelf.shelved c.args.shelf.now) (g.K.Shelf.shelved c.read.new.shelf)
    (leaves_stays (g.K.Shelf.shelved c.args.shelf.now) (g.K.Shelf.shelved c.read.new.shelf) c.in-Ok-Some.ensures.stays) c.in-Ok-Some.field-0-is c.in-Ok-Some.ensures.begun c.in-Ok-Some.ensures.ok

pub returns-in-Ok-None-clause-plays : goal.returns-in-Ok-None-clause-plays
returns-in-Ok-None-clause-plays g c =
    open_absent c.args.place.now c.in-Ok-None.field-0 c.absent.result (g.D.Door.view c.args.door.now) (g.D.Door.view c.read.new.self) (g.K.Shelf.shelved c.args.shelf.now) (g.K.Shelf.shelved c.read.new.shelf)
    (leaves_stays (g.K.Shelf.shelved c.args.shelf.now) (g.K.Shelf.shelved c.read.new.shelf) c.in-Ok-None.ensures.stays) c.in-Ok-None.field-0-is c.in-Ok-None.ensures.ok c.absent.ensures

pub returns-in-Err-Failed-clause-plays : goal.returns-in-Err-Failed-clause-plays
returns-in-Err-Failed-clause-plays g c =
    open_fault c.args.place.now c.store_fault.result (g.D.Door.view c.args.door.now) (g.D.Door.view c.read.new.self) (g.K.Shelf.shelved c.args.shelf.now) (g.K.Shelf.shelved c.read.new.shelf)
    c.in-Err-Failed.ensures.err (leaves_stays (g.K.Shelf.shelved c.args.shelf.now) (g.K.Shelf.shelved c.read.new.shelf) c.in-Err-Failed.ensures.stays) (c.in-Err-Failed.ensures.cause (err_is _ c.in-Err-Failed.field-0 _ refl c.in-Err-Failed.field-0-is)) c.store_fault.ensures

pub returns-in-Err-OutOfMemory-clause-plays : goal.returns-in-Err-OutOfMemory-clause-plays
returns-in-Err-OutOfMemory-clause-plays g c =
    open_wanting c.args.place.now c.out_of_memory.result (g.D.Door.view c.args.door.now) (g.D.Door.view c.read.new.self) (g.K.Shelf.shelved c.args.shelf.now) (g.K.Shelf.shelved c.read.new.shelf)
    c.in-Err-OutOfMemory.ensures.err (leaves_stays (g.K.Shelf.shelved c.args.shelf.now) (g.K.Shelf.shelved c.read.new.shelf) c.in-Err-OutOfMemory.ensures.stays) c.out_of_memory.ensures
