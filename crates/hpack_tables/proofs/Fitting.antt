-- The entries that stay when the oldest are evicted.
use Rattle.std.proofs.Common.{◌≡◌, ℕ, ◌+◌, ◌-◌, ◌<◌, ◌≤◌, inl, inr, true, false, cond, leb, List, [], ◌∷◌, ◌++◌, Some, None, refl, ap, sym, ◌∙◌, arith}
use Rattle.std.proofs.lemmas.Bool.{le-leb, lt-leb, cases_lt}
use Rattle.std.proofs.lemmas.List.Sums.{sum_by-cons, sum_by_push}
use Rattle.hpack_tables.specs.declared.header.Header.{Header}
use Rattle.hpack_tables.specs.Table.{HeaderTable, size_of, list_size, fitting, with_entry}

pub fitting_more : (max : ℕ) (entry : Header) (entries : List Header) → size_of entry ≤ max → fitting max (entry ∷ entries) ≡ entry ∷ fitting (max - size_of entry) entries
unfolding fitting
fitting_more max entry entries h = rw (le-leb (size_of entry) max h) refl

pub fitting_none : (max : ℕ) (entry : Header) (entries : List Header) → max < size_of entry → fitting max (entry ∷ entries) ≡ []
unfolding fitting
fitting_none max entry entries h = rw (lt-leb (size_of entry) max h) refl

-- none is so small
pub fitting_zero : (entries : List Header) → fitting 0 entries ≡ []
unfolding fitting
fitting_zero [] = refl
fitting_zero (entry ∷ entries) = fitting_none 0 entry entries (omega arith)

-- all stay where they fit
pub fitting_all : (max : ℕ) (entries : List Header) → list_size entries ≤ max → fitting max entries ≡ entries
unfolding fitting
fitting_all max [] h = refl
fitting_all max (entry ∷ entries) h =
    let s : list_size (entry ∷ entries) ≡ size_of entry + list_size entries = sum_by-cons size_of entry entries in
    fitting_more max entry entries (omega arith) ∙ ap (λ (es : List Header). entry ∷ es) (fitting_all (max - size_of entry) entries (omega arith))

-- the last one goes where they do not fit
pub fitting_last : (max : ℕ) (entries : List Header) (last : Header) → max < list_size (entries ++ last ∷ []) → fitting max (entries ++ last ∷ []) ≡ fitting max entries
unfolding fitting
fitting_last max [] last h = fitting_none max last [] (omega (arith, sum_by-cons size_of last []))
fitting_last max (entry ∷ entries) last h =
    let s : list_size (entry ∷ (entries ++ last ∷ [])) ≡ size_of entry + list_size (entries ++ last ∷ []) = sum_by-cons size_of entry (entries ++ last ∷ []) in
    elim (cases_lt max (size_of entry)) [
      | inl large ↦ fitting_none max entry (entries ++ last ∷ []) large ∙ sym (fitting_none max entry entries large)
      | inr fits ↦
          fitting_more max entry (entries ++ last ∷ []) fits ∙ ap (λ (es : List Header). entry ∷ es) (fitting_last (max - size_of entry) entries last (omega arith)) ∙ sym (fitting_more max entry entries fits)
    ]

-- what stays fits
pub fitting_fits : (max : ℕ) (entries : List Header) → list_size (fitting max entries) ≤ max
unfolding fitting
fitting_fits max [] = omega arith
fitting_fits max (entry ∷ entries) =
    elim (cases_lt max (size_of entry)) [
      | inl large ↦ omega (arith, ap list_size (fitting_none max entry entries large))
      | inr fits ↦
          omega (arith, ap list_size (fitting_more max entry entries fits), sum_by-cons size_of entry (fitting (max - size_of entry) entries), fitting_fits (max - size_of entry) entries)
    ]

-- the size of all, by that of the last and the others
pub size_last : (all entries : List Header) (last : Header) → all ≡ entries ++ last ∷ [] → list_size all ≡ list_size entries + size_of last
size_last all entries last e = ap list_size e ∙ sum_by_push size_of entries last

-- one of the oldest goes
pub evicted : (max : ℕ) (all entries : List Header) (last : Header) → all ≡ entries ++ last ∷ [] → max < list_size all → fitting max entries ≡ fitting max all
evicted max all entries last e h = rw e (sym (fitting_last max entries last (omega (arith, ap list_size e))))

pub table_of : (entries : List Header) (max : ℕ) (t : HeaderTable) → entries ≡ t.entries → max ≡ t.max → record { entries = entries; max = max } ≡ t
table_of entries max t e m = rw (e, m) refl

-- what a size that is asked for says
pub within_none : (size most : ℕ) → None ≡ cond (leb size most) (Some size) None → most < size
within_none size most e = elim (cases_lt most size) [ inl large ↦ large | inr fits ↦ absurd (let h : leb size most ≡ true = le-leb size most fits in cc) ]

pub within_some : (size most found : ℕ) → Some found ≡ cond (leb size most) (Some size) None → (found ≡ size) × (size ≤ most)
within_some size most found e =
    elim (cases_lt most size) [
      | inl large ↦ absurd (let h : leb size most ≡ false = lt-leb size most large in cc)
      | inr fits ↦ (let h : leb size most ≡ true = le-leb size most fits in cc, fits)
    ]

-- an entry that is larger than the table
pub emptied : (t t' : HeaderTable) (header : Header) → t.max < size_of header → t' ≡ record t { entries = fitting 0 t.entries } → t' ≡ with_entry t header
emptied t t' header large e = e ∙ sym (table_of (fitting t.max (header ∷ t.entries)) t.max (record t { entries = fitting 0 t.entries }) (fitting_none t.max header t.entries large ∙ sym (fitting_zero t.entries)) refl)

-- the entries where one more fits
pub entered : (t : HeaderTable) (header : Header) (mid entries : List Header) → size_of header ≤ t.max → mid ≡ fitting (t.max - size_of header) t.entries → entries ≡ header ∷ mid → entries ≡ fitting t.max (header ∷ t.entries)
entered t header mid entries fits evicted_to pushed = pushed ∙ ap (λ (es : List Header). header ∷ es) evicted_to ∙ sym (fitting_more t.max header t.entries fits)

-- their size
pub entered_size : (t : HeaderTable) (header : Header) (mid entries : List Header) → size_of header ≤ t.max → mid ≡ fitting (t.max - size_of header) t.entries → entries ≡ header ∷ mid → list_size entries ≤ t.max
entered_size t header mid entries fits evicted_to pushed =
    omega (arith, ap list_size pushed, sum_by-cons size_of header mid, ap list_size evicted_to, fitting_fits (t.max - size_of header) t.entries)
