use Rattle.std.proofs.Common.{List, subst, sym, ap, ◌∙◌}
use Rattle.digest_types.specs.Name.{HashAndSize}
use Rattle.store_core.specs.Step.{touched}
use Rattle.indexed_core.specs.Joined.{told, rows_in, IsJoined, guards_in}
use Rattle.indexed_core.specs.Parts.{Parts}
use Rattle.indexed_core.proofs.JoinedLaws.{among_from_sound, moved_joined, touched_joined, untouched_joined}
use Rattle.indexed_core.proofs.index.Index.touch.Goals as goal

pub touch-requires : goal.touch-requires
touch-requires c =
    let a = c.self.inside in
    among_from_sound a.order a.table.blobs (told a.flags) a.used c.args.digest.now c.self.invariant (sym c.is_sound.ensures ∙ c.if-is_sound.true)

pub invariant_of-self : goal.invariant_of-self
invariant_of-self c =
    let a = c.self.inside in
    let d = c.args.digest.now in
    let has = among_from_sound a.order a.table.blobs (told a.flags) a.used d c.self.invariant (sym c.is_sound.ensures ∙ c.if-is_sound.true) in
    subst (λ (order : List HashAndSize). IsJoined order a.table.blobs (told a.flags) a.used) (sym c.touch.ensures) (moved_joined a.order a.table.blobs (told a.flags) a.used d c.self.invariant has)

pub returns-then-is_sound : goal.returns-then-is_sound
returns-then-is_sound c =
    let a = c.self.inside in
    let d = c.args.digest.now in
    ap (λ (order : List HashAndSize). record { rows = rows_in order a.table.blobs (told a.flags); guards = guards_in a.table }) c.touch.ensures
    ∙ (λ i. record { rows = touched_joined a.order a.table.blobs (told a.flags) a.used d c.self.invariant (sym c.is_sound.ensures ∙ c.if-is_sound.true) i; guards = guards_in a.table })
    ∙ ap (λ (p : Parts). record p { rows = touched d p.rows }) c.self.view_is

pub returns-else-is_sound : goal.returns-else-is_sound
returns-else-is_sound c =
    let a = c.self.inside in
    let d = c.args.digest.now in
    sym c.self.view_is
    ∙ (λ i. record { rows = untouched_joined a.order a.table.blobs (told a.flags) a.used d c.self.invariant (sym c.is_sound.ensures ∙ c.if-is_sound.false) i; guards = guards_in a.table })
    ∙ ap (λ (p : Parts). record p { rows = touched d p.rows }) c.self.view_is
