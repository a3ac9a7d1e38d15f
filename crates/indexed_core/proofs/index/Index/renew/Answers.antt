use Rattle.std.proofs.Common.{◌≡◌, true, List, [], ◌∷◌, ◌++◌, Option, Some, subst, sym, ap, ◌∙◌}
use Rattle.std.specs.Prelude.{IfSome}
use Rattle.digest_types.specs.Name.{HashAndSize}
use Rattle.store_core.specs.declared.state.Row.{Row}
use Rattle.store_core.specs.State.{row_of, others, is_among, has_row}
use Rattle.indexed_core.specs.Joined.{told, Soundness, set_flag, row_in, rows_in, IsJoined, guards_in}
use Rattle.indexed_core.specs.Parts.{Parts}
use Rattle.indexed_core.proofs.JoinedLaws.{moved, row_among, row_found, moved_joined, set_joined, renewed_joined}
use Rattle.indexed_core.proofs.index.Index.renew.Goals as goal

pub touch-requires : goal.touch-requires
touch-requires c =
    let a = c.self.inside in
    let d = c.args.digest.now in
    sym (row_among a.order a.table.blobs (told a.flags) d) ∙ ap (λ (p : Parts). has_row p.rows d) c.self.view_is ∙ c.requires

-- the digest is one of the order, also after that
among : (c : goal.After-touch) → is_among c.self.inside.order c.args.digest.now ≡ true
among c =
    let a = c.self.inside in
    let d = c.args.digest.now in
    sym (row_among a.order a.table.blobs (told a.flags) d) ∙ ap (λ (p : Parts). has_row p.rows d) c.self.view_is ∙ c.requires

-- its row, as it was found
found : (c : goal.After-touch) → row_of c.args.digest.now c.args.self.now.rows ≡ Some (row_in c.self.inside.table.blobs (told c.self.inside.flags) c.args.digest.now)
found c =
    let a = c.self.inside in
    let d = c.args.digest.now in
    ap (λ (p : Parts). row_of d p.rows) (sym c.self.view_is) ∙ row_found a.order a.table.blobs (told a.flags) d (among c)

pub invariant_of-self : goal.invariant_of-self
invariant_of-self c =
    let a = c.self.inside in
    let d = c.args.digest.now in
    let joined = moved_joined a.order a.table.blobs (set_flag d true (told a.flags)) a.used d (set_joined a.order a.table.blobs (told a.flags) a.used d true c.self.invariant) (among c) in
    let turned = subst (λ (order : List HashAndSize). IsJoined order a.table.blobs (set_flag d true (told a.flags)) a.used) (sym c.touch.ensures) joined in
    subst (λ (flags : Soundness). IsJoined c.touch.new.self a.table.blobs flags a.used) (sym c.set.ensures) turned

pub returns-clause-sound : goal.returns-clause-sound
returns-clause-sound c =
    subst (λ (o : Option Row). IfSome o (λ row. c.is_sound-sound.result ≡ row.sound)) (sym (found c)) c.is_sound-sound.ensures

pub returns-clause-renewed : goal.returns-clause-renewed
returns-clause-renewed c =
    let a = c.self.inside in
    let d = c.args.digest.now in
    let row = row_in a.table.blobs (told a.flags) d in
    let turned =
    ap (λ (order : List HashAndSize). record { rows = rows_in order a.table.blobs (told c.set.new.self); guards = guards_in a.table }) c.touch.ensures
    ∙ ap (λ (flags : Soundness). record { rows = rows_in (moved d a.order) a.table.blobs flags; guards = guards_in a.table }) c.set.ensures
    ∙ (λ i. record { rows = renewed_joined a.order a.table.blobs (told a.flags) a.used d c.self.invariant (among c) i; guards = guards_in a.table })
    ∙ ap (λ (p : Parts). record p { rows = others d p.rows ++ record row { sound = true } ∷ [] }) c.self.view_is in
    subst (λ (o : Option Row). IfSome o (λ r. record { rows = rows_in c.touch.new.self a.table.blobs (told c.set.new.self); guards = guards_in a.table } ≡ record c.args.self.now { rows = others d c.args.self.now.rows ++ record r { sound = true } ∷ [] })) (sym (found c)) turned
