use Rattle.std.proofs.Common.{◌∙◌, ℕ, List, sym, ap}
use Rattle.digest_types.specs.Name.{HashAndSize}
use Rattle.store_core.specs.State.{sizes}
use Rattle.store_core.specs.Pass.{victims}
use Rattle.indexed_core.specs.Joined.{told, rows_in, guards_in}
use Rattle.indexed_core.specs.Parts.{Parts, free}
use Rattle.indexed_core.proofs.HeldLaws.{rows_total}
use Rattle.indexed_core.proofs.ReachedRows.{rows_free}
use Rattle.indexed_core.proofs.index.Index.victims.Goals as goal

pub returns : goal.returns
returns c =
    let i = c.self.inside in
    let ds = rows_free i.order i.table.blobs (told i.flags) i.used c.self.invariant (guards_in i.table) in
    let bytes = c.self.invariant.sum ∙ sym (rows_total i.order i.table.blobs (told i.flags)) in
    c.victims.ensures
    ∙ ap (λ (xs : List HashAndSize). victims xs i.used c.args.target) ds
    ∙ ap (λ (n : ℕ). victims (free (record { rows = rows_in i.order i.table.blobs (told i.flags); guards = guards_in i.table })) n c.args.target) bytes
    ∙ ap (λ (p : Parts). victims (free p) (sizes p.rows) c.args.target) c.self.view_is
