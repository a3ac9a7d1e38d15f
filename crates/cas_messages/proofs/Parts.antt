-- Fields written one after the other, of which one is refused: what was added is a prefix of them all.
use Rattle.std.proofs.Common.{◌≡◌, ℕ, List, [], ◌++◌, Result, Ok, Err, refl, sym, ap, ◌∙◌, append_assoc}
use Rattle.std.specs.Result.{OnErr}
use Rattle.std.proofs.lemmas.List.{append-nil}
use Rattle.cas_messages.specs.Spelling.{AddsPart}

none_added : (old new fields : List ℕ) → new ≡ old → AddsPart old new fields
none_added old new fields same = record { part = []; rest = fields; adds = same ∙ sym (append-nil old); whole = refl }

front_added : (old new field fields : List ℕ) → AddsPart old new field → AddsPart old new (field ++ fields)
front_added old new field fields p = record {
  part = p.part;
  rest = p.rest ++ fields;
  adds = p.adds;
  whole = ap (λ (b : List ℕ). b ++ fields) p.whole ∙ append_assoc p.part p.rest fields;
}

more_added : (old out new field fields : List ℕ) → out ≡ old ++ field → AddsPart out new fields → AddsPart old new (field ++ fields)
more_added old out new field fields wrote p = record {
  part = field ++ p.part;
  rest = p.rest;
  adds = p.adds ∙ ap (λ (b : List ℕ). b ++ p.part) wrote ∙ append_assoc old field p.part;
  whole = ap (λ (b : List ℕ). field ++ b) p.whole ∙ sym (append_assoc field p.part p.rest);
}

-- a field that leaves the output as it was when it is refused
pub refused : {T E : Type 0} (r : Result T E) (old new fields : List ℕ) → new ≡ old → OnErr r (AddsPart old new fields)
refused (Ok x) old new fields same = tt
refused (Err e) old new fields same = none_added old new fields same

-- a list that is refused after a prefix
pub refused_list : {T E : Type 0} (r : Result T E) (old new field fields : List ℕ) → AddsPart old new field → OnErr r (AddsPart old new (field ++ fields))
refused_list (Ok x) old new field fields p = tt
refused_list (Err e) old new field fields p = front_added old new field fields p

-- the last field
pub last : {T E : Type 0} (r : Result T E) (old new fields : List ℕ) → OnErr r (new ≡ old) → OnErr r (AddsPart old new fields)
last (Ok x) old new fields h = tt
last (Err e) old new fields h = none_added old new fields h

pub last_list : {T E : Type 0} (r : Result T E) (old new field fields : List ℕ) → OnErr r (AddsPart old new field) → OnErr r (AddsPart old new (field ++ fields))
last_list (Ok x) old new field fields h = tt
last_list (Err e) old new field fields h = front_added old new field fields h

-- a field that was written before
pub written : {T E : Type 0} (r : Result T E) (old out new field fields : List ℕ) → out ≡ old ++ field → OnErr r (AddsPart out new fields) → OnErr r (AddsPart old new (field ++ fields))
written (Ok x) old out new field fields wrote h = tt
written (Err e) old out new field fields wrote h = more_added old out new field fields wrote h

pub ruleset parts = (refused, refused_list, last, last_list, written)
