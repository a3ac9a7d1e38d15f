use Rattle.std.proofs.Common.{◌≡◌, Bool, true, false, not, ◌&&◌, sym, ap, ◌∙◌}
use Rattle.std.specs.Prelude.{is_some}
use Rattle.std.specs.List.{list_any}
use Rattle.store_core.specs.Standing.{is_plain}
use Rattle.lease_table.specs.Table.{is_blob}
use Rattle.indexed_core.specs.Joined.{told, sound_in}
use Rattle.indexed_core.specs.Parts.{Parts}
use Rattle.indexed_core.proofs.JoinedLaws.{plain_told}
use Rattle.indexed_core.proofs.index.Index.is_plain.Goals as goal

-- where the digest is sound, and where it isn't
by_sound : (s n plain : Bool) → s ≡ true → (s && n) ≡ plain → n ≡ plain
by_sound true n plain e h = h
by_sound false n plain e h = absurd cc

by_unsound : (s n plain : Bool) → s ≡ false → (s && n) ≡ plain → s ≡ plain
by_unsound true n plain e h = absurd cc
by_unsound false n plain e h = h

pub returns-then-is_sound : goal.returns-then-is_sound
returns-then-is_sound c =
    let a = c.self.inside in
    let d = c.args.digest.now in
    ap not c.is_dir.ensures
    ∙ by_sound (sound_in (told a.flags) d) (not (list_any (λ blob. is_blob d blob && is_some blob.edges) a.table.blobs)) _ (sym c.is_sound.ensures ∙ c.if-is_sound.true)
    (plain_told a.order a.table.blobs (told a.flags) a.used d c.self.invariant)
    ∙ ap (λ (p : Parts). is_plain p.rows d) c.self.view_is

pub returns-else-is_sound : goal.returns-else-is_sound
returns-else-is_sound c =
    let a = c.self.inside in
    let d = c.args.digest.now in
    c.is_sound.ensures
    ∙ by_unsound (sound_in (told a.flags) d) (not (list_any (λ blob. is_blob d blob && is_some blob.edges) a.table.blobs)) _ (sym c.is_sound.ensures ∙ c.if-is_sound.false)
    (plain_told a.order a.table.blobs (told a.flags) a.used d c.self.invariant)
    ∙ ap (λ (p : Parts). is_plain p.rows d) c.self.view_is
