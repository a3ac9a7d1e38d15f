-- What a host tells, and what its calls do to that.
use Rattle.std.specs.Prelude.{◌≡◌, ◌+◌, ◌-◌, ◌≤◌, ℕ, Bool, true, List, [], ◌∷◌, ◌++◌, map, Option, Some, None, IfSome}
use Rattle.std.specs.Borrow.{GName}
use Rattle.digest_types.specs.Name.{HashAndSize}
use Rattle.blob_store.specs.Shelves.{Shelved}
use Rattle.casd_connection.specs.Linked.{Linked, linked}
use Rattle.casd_connection.specs.declared.report.ConnReport.{ConnReport}
use Rattle.casd_daemon.specs.declared.host.Conn.{Conn}

-- What a host tells, or doesn't: the bodies that its shelf finds, in order, and the list of use that is saved with them; the
-- connections that it has left, in the order in which they come; those that were handed back, each with its report; the bytes
-- printed; and the list of use that was kept last. Besides, whether a call of its shelf may fail at all, and how many
-- connections came that were not handed back yet.
pub record Told (K L : Type 0) : Type 0 where
  pub found : Option (List (List ℕ))
  pub saved : Option (List HashAndSize)
  pub may_fail : Bool
  pub left : Option (List (Conn K L))
  pub ended : Option (List (Conn K L × ConnReport))
  pub printed : Option (List ℕ)
  pub kept : Option (Option (List HashAndSize))
  pub out : ℕ

-- how many calls failed at accepting, at printing and at keeping, each up to 2^64 - 1
pub record Counts : Type 0 where
  pub accepting : ℕ
  pub printing : ℕ
  pub keeping : ℕ

-- no count fell
pub record NoneFell (old new : Counts) : Type 0 where
  pub accepting : old.accepting ≤ new.accepting
  pub printing : old.printing ≤ new.printing
  pub keeping : old.keeping ≤ new.keeping

-- a list that is told, with others in front of it or behind it
abbrev pub behind : {A : Type 0} → List A → Option (List A) → Option (List A)
behind first None = None
behind first (Some xs) = Some (first ++ xs)

abbrev pub before : {A : Type 0} → Option (List A) → List A → Option (List A)
before None last = None
before (Some xs) last = Some (xs ++ last)

-- the next connection came, the first of those that were left
pub record Comes {K L : Type 0} (conn : Conn K L) (old new : Told K L) : Type 0 where
  pub left : old.left ≡ behind (conn ∷ []) new.left
  pub out : new.out ≡ old.out + 1
  pub rest : new ≡ record old { left = new.left; out = new.out }

-- none is left
pub record NoneComes {K L : Type 0} (old new : Told K L) : Type 0 where
  pub none : IfSome old.left (λ left. left ≡ [])
  pub rest : new ≡ old

-- a connection was handed back
abbrev pub handing : {K L : Type 0} → Conn K L → ConnReport → Told K L → Told K L
handing conn report t = record t { ended = before t.ended ((conn, report) ∷ []); out = t.out - 1 }

-- bytes were printed
abbrev pub printing : {K L : Type 0} → List ℕ → Told K L → Told K L
printing bytes t = record t { printed = before t.printed bytes }

-- a list of use is kept, where it is told which one is
abbrev pub kept_now : Option (Option (List HashAndSize)) → List HashAndSize → Option (Option (List HashAndSize))
kept_now None order = None
kept_now (Some was) order = Some (Some order)

abbrev pub keeping : {K L : Type 0} → List HashAndSize → Told K L → Told K L
keeping order t = record t { kept = kept_now t.kept order }

-- A shelf is the host's: it has the bodies and the list of use that the host told, and fails only where that may be.
pub record IsShelfOf {K L : Type 0} (t : Told K L) (s : Shelved) : Type 0 where
  pub found : IfSome t.found (λ found. s.found ≡ Some (map Some found))
  pub saved : IfSome t.saved (λ saved. s.saved ≡ Some saved)
  pub fails : s.may_fail ≡ true → t.may_fail ≡ true

-- a host that lends itself tells all this, and by which reference it was lent
pub record Hosted (K L : Type 0) : Type 0 where
  pub told : Told K L
  pub counts : Counts
  pub name : GName

-- what the shelf and the link of a connection tell
pub record Tellers (K L : Type 0) : Type 0 where
  pub shelved : K → Shelved
  pub linked : L → Linked

abbrev pub tellers : {K L : Type 0} → (K → Shelved) → (L → Option (List ℕ)) → (L → Option (List ℕ)) → (L → ℕ) → (L → ℕ) → (L → Option ℕ) → (L → Option (Option ℕ)) → Tellers K L
tellers shelved left written read_faults write_faults sent at_end = record {
  shelved = shelved;
  linked = λ l. linked (left l) (written l) (read_faults l) (write_faults l) (sent l) (at_end l);
}
