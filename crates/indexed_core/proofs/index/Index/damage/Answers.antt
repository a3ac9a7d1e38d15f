use Rattle.std.proofs.Common.{subst, sym, ap, ◌∙◌, false}
use Rattle.store_core.specs.Step.{damaged}
use Rattle.indexed_core.specs.Joined.{told, Soundness, rows_in, IsJoined, guards_in}
use Rattle.indexed_core.specs.Parts.{Parts}
use Rattle.indexed_core.proofs.JoinedLaws.{set_joined, damaged_joined}
use Rattle.indexed_core.proofs.index.Index.damage.Goals as goal

pub invariant_of-self : goal.invariant_of-self
invariant_of-self c =
    let a = c.self.inside in
    subst (λ (flags : Soundness). IsJoined a.order a.table.blobs flags a.used) (sym c.set.ensures) (set_joined a.order a.table.blobs (told a.flags) a.used c.args.digest.now false c.self.invariant)

pub returns : goal.returns
returns c =
    let a = c.self.inside in
    let d = c.args.digest.now in
    ap (λ (flags : Soundness). record { rows = rows_in a.order a.table.blobs flags; guards = guards_in a.table }) c.set.ensures
    ∙ (λ i. record { rows = damaged_joined a.order a.table.blobs (told a.flags) d i; guards = guards_in a.table })
    ∙ ap (λ (p : Parts). record p { rows = damaged d p.rows }) c.self.view_is
