use Rattle.std.proofs.Common.{refl}
use Rattle.cas_calls.specs.Judged.{status_of}
use Rattle.cas_calls.proofs.UpdateLaws.{ok_item, err_item, err_is, failed_item, wanting_item}
use Rattle.cas_calls.proofs.put.put_plain.Goals as goal

pub returns-in-Ok-clause-ok : goal.returns-in-Ok-clause-ok
returns-in-Ok-clause-ok g c =
    ok_item c.judge.result (status_of c.args.item.now) c.args.item.now (g.D.Door.view c.args.door.now) (g.D.Door.view c.judge.new.door) (g.K.Shelf.shelved c.args.shelf.now) (g.K.Shelf.shelved c.keep.new.shelf) (g.K.Shelf.shelved c.judge.new.shelf)
    c.in-Ok.ensures.leaves c.judge.ensures.ok

pub returns-in-Ok-clause-err : goal.returns-in-Ok-clause-err
returns-in-Ok-clause-err g c =
    err_item c.judge.result c.args.item.now (g.D.Door.view c.args.door.now) (g.D.Door.view c.judge.new.door) (g.K.Shelf.shelved c.args.shelf.now) (g.K.Shelf.shelved c.keep.new.shelf) (g.K.Shelf.shelved c.judge.new.shelf)
    c.in-Ok.ensures.leaves c.judge.ensures.err

pub returns-in-Err-Failed-clause-ok : goal.returns-in-Err-Failed-clause-ok
returns-in-Err-Failed-clause-ok g c = λ next.
    failed_item c.args.item.now (g.D.Door.view c.args.door.now) (g.K.Shelf.shelved c.args.shelf.now) (g.K.Shelf.shelved c.keep.new.shelf) next c.requires.is_in c.in-Err-Failed.ensures.leaves (c.in-Err-Failed.ensures.cause (err_is _ c.in-Err-Failed.field-0 _ refl c.in-Err-Failed.field-0-is))

pub returns-in-Err-OutOfMemory-clause-err : goal.returns-in-Err-OutOfMemory-clause-err
returns-in-Err-OutOfMemory-clause-err g c = λ next.
    wanting_item c.args.item.now (g.D.Door.view c.args.door.now) (g.K.Shelf.shelved c.args.shelf.now) (g.K.Shelf.shelved c.keep.new.shelf) next c.requires.is_in c.in-Err-OutOfMemory.ensures.leaves
