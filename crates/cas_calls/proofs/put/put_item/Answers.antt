use Rattle.std.proofs.Common.{◌∙◌, sym}
use Rattle.cas_calls.specs.Judged.{status_of}
use Rattle.cas_calls.proofs.UpdateLaws.{ok_plain, err_plain, compressed_item}
use Rattle.cas_calls.proofs.put.put_item.Goals as goal

pub returns-then-not-is_plain-clause-ok : goal.returns-then-not-is_plain-clause-ok
returns-then-not-is_plain-clause-ok g c = λ next. compressed_item c.args.item.now (g.D.Door.view c.args.door.now) (g.K.Shelf.shelved c.args.shelf.now) next (sym c.is_plain.ensures ∙ c.if-not-is_plain.true) c.requires.is_in

pub returns-clause-ok : goal.returns-clause-ok
returns-clause-ok g c = ok_plain c.put_plain.result (status_of c.args.item.now) c.args.item.now (g.D.Door.view c.args.door.now) (g.D.Door.view c.put_plain.new.door) (g.K.Shelf.shelved c.args.shelf.now) (g.K.Shelf.shelved c.put_plain.new.shelf) (sym c.is_plain.ensures ∙ c.if-not-is_plain.false) c.put_plain.ensures.ok

pub returns-clause-err : goal.returns-clause-err
returns-clause-err g c = err_plain c.put_plain.result c.args.item.now (g.D.Door.view c.args.door.now) (g.D.Door.view c.put_plain.new.door) (g.K.Shelf.shelved c.args.shelf.now) (g.K.Shelf.shelved c.put_plain.new.shelf) (sym c.is_plain.ensures ∙ c.if-not-is_plain.false) c.put_plain.ensures.err
