use Rattle.std.proofs.Common.{◌&&◌, Some, sym, ap, ◌∙◌}
use Rattle.std.specs.Prelude.{if◌then◌else◌}
use Rattle.store_core.specs.declared.event.Reply.{Reply}
use Rattle.store_core.specs.State.{same}
use Rattle.blob_store.specs.Kept.{told_in, keeps_body}
use Rattle.blob_store.proofs.store.keep.Goals as goal

pub returns-in-Stored-clause-bodies : goal.returns-in-Stored-clause-bodies
returns-in-Stored-clause-bodies g c = λ d.
    c.add.ensures d
    ∙ ap (λ (reply : Reply). if keeps_body reply && same c.args.digest d then Some (g.K.Shelf.kept c.args.body) else told_in c.args.bodies.now.bodies d) (sym c.in-Stored.is)
