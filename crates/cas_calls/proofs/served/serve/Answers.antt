use Rattle.std.proofs.Common.{◌∙◌, sym, subst, ap, refl}
use Rattle.cas_calls.proofs.ReadLaws.{ok_blob, err_blob, took_absent, took_fault, wanting_blob, leaves_stays, made_found, made_absent}
use Rattle.cas_calls.proofs.UpdateLaws.{err_is}
use Rattle.cas_calls.proofs.served.serve.Goals as goal

pub returns-in-Ok-Some-clause-ok : goal.returns-in-Ok-Some-clause-ok
returns-in-Ok-Some-clause-ok g c =
    ok_blob c.serve_body.result c.args.digest.now (g.D.Door.view c.args.door.now) (g.D.Door.view c.read.new.self) (g.D.Door.view c.serve_body.new.door) (g.K.Shelf.shelved c.args.shelf.now) (g.K.Shelf.shelved c.read.new.shelf) (g.K.Shelf.shelved c.serve_body.new.shelf)
    (leaves_stays (g.K.Shelf.shelved c.args.shelf.now) (g.K.Shelf.shelved c.read.new.shelf) c.in-Ok-Some.ensures.stays) (made_found (g.D.Door.view c.args.door.now) (g.D.Door.view c.read.new.self) c.args.digest.now c.in-Ok-Some.field-0 c.in-Ok-Some.reading c.in-Ok-Some.field-0-is c.in-Ok-Some.ensures.ok) c.serve_body.ensures.ok

pub returns-in-Ok-Some-clause-err : goal.returns-in-Ok-Some-clause-err
returns-in-Ok-Some-clause-err g c =
    err_blob c.serve_body.result c.args.digest.now (g.D.Door.view c.args.door.now) (g.D.Door.view c.read.new.self) (g.D.Door.view c.serve_body.new.door) (g.K.Shelf.shelved c.args.shelf.now) (g.K.Shelf.shelved c.read.new.shelf) (g.K.Shelf.shelved c.serve_body.new.shelf)
    (leaves_stays (g.K.Shelf.shelved c.args.shelf.now) (g.K.Shelf.shelved c.read.new.shelf) c.in-Ok-Some.ensures.stays) (made_found (g.D.Door.view c.args.door.now) (g.D.Door.view c.read.new.self) c.args.digest.now c.in-Ok-Some.field-0 c.in-Ok-Some.reading c.in-Ok-Some.field-0-is c.in-Ok-Some.ensures.ok) c.serve_body.ensures.err

pub returns-in-Ok-None-clause-ok : goal.returns-in-Ok-None-clause-ok
returns-in-Ok-None-clause-ok g c = λ next.
    took_absent c.args.digest.now (g.D.Door.view c.args.door.now) (g.D.Door.view c.read.new.self) (g.K.Shelf.shelved c.args.shelf.now) (g.K.Shelf.shelved c.read.new.shelf) next (leaves_stays (g.K.Shelf.shelved c.args.shelf.now) (g.K.Shelf.shelved c.read.new.shelf) c.in-Ok-None.ensures.stays) (made_absent (g.D.Door.view c.args.door.now) (g.D.Door.view c.read.new.self) c.args.digest.now c.in-Ok-None.field-0 c.in-Ok-None.field-0-is c.in-Ok-None.ensures.ok)

pub returns-in-Err-Failed-clause-ok : goal.returns-in-Err-Failed-clause-ok
returns-in-Err-Failed-clause-ok g c = λ next.
    took_fault c.args.digest.now (g.D.Door.view c.args.door.now) (g.D.Door.view c.read.new.self) (g.K.Shelf.shelved c.args.shelf.now) (g.K.Shelf.shelved c.read.new.shelf) next c.in-Err-Failed.ensures.err (leaves_stays (g.K.Shelf.shelved c.args.shelf.now) (g.K.Shelf.shelved c.read.new.shelf) c.in-Err-Failed.ensures.stays) (c.in-Err-Failed.ensures.cause (err_is _ c.in-Err-Failed.field-0 _ refl c.in-Err-Failed.field-0-is))

pub returns-in-Err-OutOfMemory-clause-err : goal.returns-in-Err-OutOfMemory-clause-err
returns-in-Err-OutOfMemory-clause-err g c = λ next.
    wanting_blob c.args.digest.now (g.D.Door.view c.args.door.now) (g.D.Door.view c.read.new.self) (g.K.Shelf.shelved c.args.shelf.now) (g.K.Shelf.shelved c.read.new.shelf) next c.in-Err-OutOfMemory.ensures.err (leaves_stays (g.K.Shelf.shelved c.args.shelf.now) (g.K.Shelf.shelved c.read.new.shelf) c.in-Err-OutOfMemory.ensures.stays)
