use Rattle.indexed_core.specs.Joined.{told}
use Rattle.std.proofs.Common.{ap, ◌∙◌}
use Rattle.store_core.specs.State.{is_sound}
use Rattle.indexed_core.specs.Parts.{Parts}
use Rattle.indexed_core.proofs.JoinedLaws.{sound_told}
use Rattle.indexed_core.proofs.index.Index.is_sound.Goals as goal

pub returns : goal.returns
returns c =
    let a = c.self.inside in
    let d = c.args.digest.now in
    c.is_sound.ensures
    ∙ sound_told a.order a.table.blobs (told a.flags) a.used d c.self.invariant
    ∙ ap (λ (p : Parts). is_sound p.rows d) c.self.view_is
