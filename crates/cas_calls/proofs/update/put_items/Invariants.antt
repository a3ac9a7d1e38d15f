use Rattle.std.proofs.Common.{◌≤◌, ◌+◌, [], drop}
use Rattle.cas_calls.specs.Plays.{IsIn, Took}
use Rattle.cas_calls.specs.Update.{items_script}
use Rattle.cas_calls.proofs.update.put_items.Given as goal

abbrev pub invariant-items : goal.invariant-items
invariant-items g l =
    Took (items_script l.items []) (g.D.Door.view l.fn.door) (g.D.Door.view l.door) (g.K.Shelf.shelved l.fn.shelf) (g.K.Shelf.shelved l.shelf) l.item-index (items_script (drop l.item-index l.items) l.answers.items)
    × IsIn (g.D.Door.view l.door)
