use Rattle.std.proofs.Common.{refl, [], length}
use Rattle.cas_calls.specs.Judged.{status_of}
use Rattle.cas_calls.specs.Update.{items_script, item_script, wanting}
use Rattle.cas_calls.proofs.TakeLaws.{took_none, is_in_after}
use Rattle.cas_calls.proofs.UpdateLaws.{one_item, item_broke, answer_broke, all_items, always_err}
use Rattle.cas_calls.proofs.update.put_items.Goals as goal

pub items-init : goal.items-init
items-init g c = (rw c.new-answers.ensures.items (took_none (items_script c.args.items.now []) (g.D.Door.view c.args.door.now) (g.K.Shelf.shelved c.args.shelf.now) c.requires.is_in), c.requires.is_in)

pub returns-in_err-judged-clause-err : goal.returns-in_err-judged-clause-err
returns-in_err-judged-clause-err g c =
    always_err c.from_residual.result
    (item_broke c.args.items.now c.items.answers.items c.items.item-index (length c.args.items.now) c.item-item.result (g.D.Door.view c.args.door.now) (g.D.Door.view c.items.door) (g.D.Door.view c.put_item.new.door) (g.K.Shelf.shelved c.args.shelf.now) (g.K.Shelf.shelved c.items.shelf) (g.K.Shelf.shelved c.put_item.new.shelf)
    c.items-test.true refl c.item-item.is c.items.invariant.0 c.in_err-judged.ensures.err)

pub returns-in_err-status-clause-err : goal.returns-in_err-status-clause-err
returns-in_err-status-clause-err g c =
    always_err c.from_residual-in_err-status.result
    (answer_broke c.args.items.now c.items.answers.items c.items.item-index (length c.args.items.now) c.item-item.result (status_of c.item-item.result c.in_ok-judged.judged) (g.D.Door.view c.args.door.now) (g.D.Door.view c.items.door) (g.D.Door.view c.put_item.new.door) (g.K.Shelf.shelved c.args.shelf.now) (g.K.Shelf.shelved c.items.shelf) (g.K.Shelf.shelved c.put_item.new.shelf)
    c.items-test.true refl c.item-item.is c.items.invariant.0 c.in_ok-judged.ensures.ok)

pub returns-in_err-push-clause-err : goal.returns-in_err-push-clause-err
returns-in_err-push-clause-err g c =
    always_err c.from_residual-in_err-push.result
    (answer_broke c.args.items.now c.items.answers.items c.items.item-index (length c.args.items.now) c.item-item.result (status_of c.item-item.result c.in_ok-judged.judged) (g.D.Door.view c.args.door.now) (g.D.Door.view c.items.door) (g.D.Door.view c.put_item.new.door) (g.K.Shelf.shelved c.args.shelf.now) (g.K.Shelf.shelved c.items.shelf) (g.K.Shelf.shelved c.put_item.new.shelf)
    c.items-test.true refl c.item-item.is c.items.invariant.0 c.in_ok-judged.ensures.ok)

pub items-preserved : goal.items-preserved
items-preserved g c = (
  rw (c.in_ok-push.ensures.items, c.rpc_status.ensures, c.in_ok-status.ensures)
      (one_item c.args.items.now c.items.answers.items c.items.item-index c.item-item.result (status_of c.item-item.result c.in_ok-judged.judged) (g.D.Door.view c.args.door.now) (g.D.Door.view c.items.door) (g.D.Door.view c.put_item.new.door) (g.K.Shelf.shelved c.args.shelf.now) (g.K.Shelf.shelved c.items.shelf) (g.K.Shelf.shelved c.put_item.new.shelf)
      c.items-test.true c.item-item.is c.items.invariant.0 c.in_ok-judged.ensures.ok),
  is_in_after (item_script c.item-item.result (λ s. wanting)) wanting (g.D.Door.view c.items.door) (g.D.Door.view c.put_item.new.door) (g.K.Shelf.shelved c.items.shelf) (g.K.Shelf.shelved c.put_item.new.shelf) 1 (c.in_ok-judged.ensures.ok (λ s. wanting)),
)

pub returns-clause-ok : goal.returns-clause-ok
returns-clause-ok g c =
    all_items c.args.items.now c.items.answers.items c.items.item-index (length c.args.items.now) (g.D.Door.view c.args.door.now) (g.D.Door.view c.items.door) (g.K.Shelf.shelved c.args.shelf.now) (g.K.Shelf.shelved c.items.shelf)
    c.items-test.false c.items.auto.item-index-end c.items.invariant.0
