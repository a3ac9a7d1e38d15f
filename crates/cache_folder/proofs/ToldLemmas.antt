-- What a refused call leaves of what a shelf tells.
use Rattle.std.proofs.Common.{◌≡◌, ◌≤◌, refl, sym, subst, arith}
use Rattle.casd_base.specs.Memory.{counted}
use Rattle.blob_store.specs.Shelves.{Shelved, Stays}
use Rattle.blob_store.specs.declared.shelf.ShelfEnd.{ShelfEnd}
use Rattle.blob_store.specs.declared.shelf.ShelfEnd.TheVariants.{Failed, OutOfMemory}
use Rattle.cache_folder.specs.declared.host_shelf.HostShelf.{HostShelf}
use Rattle.cache_folder.specs.Told.{told, IsRefusal}

pub stays_same : (s : Shelved) → Stays s s
stays_same s = record { discarded = refl; dropped = refl; may_fail = refl; found = refl; to_find = omega arith; saved = refl; later = omega arith }

pub stays_refused : (s : Shelved) (old new : HostShelf) (e : ShelfEnd) → IsRefusal old new e → old.faults ≤ new.faults → told old ≡ s → Stays s (told new)
stays_refused s old new Failed h later e =
    let raised : HostShelf = record old { faults = counted old.faults } in
    let up : old.faults ≤ counted old.faults = subst (λ (n : HostShelf). old.faults ≤ n.faults) h later in
    let stays : Stays (told old) (told raised) = record { discarded = refl; dropped = refl; may_fail = refl; found = refl; to_find = omega arith; saved = refl; later = up } in
    subst (λ (n : HostShelf). Stays s (told n)) (sym h) (subst (λ (t : Shelved). Stays t (told raised)) e stays)
stays_refused s old new OutOfMemory h later e =
    subst (λ (n : HostShelf). Stays s (told n)) (sym h) (subst (λ (t : Shelved). Stays t (told old)) e (stays_same (told old)))
