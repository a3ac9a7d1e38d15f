use Rattle.proto_wire.specs.declared.memory.OutOfMemory.{OutOfMemory}
use Rattle.directory_canon.specs.Links.{links}
use Rattle.store_core.specs.declared.event.Event.TheVariants as events
use Rattle.cas_calls.specs.Script.{Make}
use Rattle.cas_calls.specs.Statuses.{put_status}
use Rattle.cas_calls.specs.Update.{wanting}
use Rattle.cas_calls.proofs.TakeLaws.{took_refused}
use Rattle.cas_calls.proofs.UpdateLaws.{took_put, always_err}
use Rattle.cas_calls.proofs.put.put_body.Goals as goal

pub returns-in_err-reply-clause-err : goal.returns-in_err-reply-clause-err
returns-in_err-reply-clause-err g c =
    always_err c.from_residual.result
    (λ next. took_refused (Make (events.Put c.args.item.now.digest (links c.args.item.now.bytes)) (λ reply. next (put_status reply))) wanting (g.D.Door.view c.args.door.now) (g.D.Door.view c.put.new.self) (g.K.Shelf.shelved c.args.shelf.now) (g.K.Shelf.shelved c.put.new.shelf)
    c.in_err-reply.ensures.err c.in_err-reply.ensures.shelf)

pub returns-clause-ok : goal.returns-clause-ok
returns-clause-ok g c =
    took_put OutOfMemory c.args.item.now c.args.blob (g.D.Door.view c.args.door.now) (g.D.Door.view c.put.new.self) (g.K.Shelf.shelved c.args.shelf.now) (g.K.Shelf.shelved c.put.new.shelf) c.in_ok-reply.reply
    c.requires.sealed c.requires.same c.in_ok-reply.ensures.ok c.in_ok-reply.ensures.shelf
