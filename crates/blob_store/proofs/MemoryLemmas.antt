-- What the calls of the shelf in memory leave.
use Rattle.std.proofs.Common.{◌≡◌, ◌≤◌, ◌^◌, ℕ, suc, true, List, [], ◌∷◌, length, min, map, drop, Option, Some, None, Result, Ok, Err, IfSome, IfOk, OnOk, OnErr, IsErrOf, refl, sym, ap, ◌∙◌, arith}
use Rattle.std.specs.Prelude.{Contains}
use Rattle.casd_base.specs.Memory.{counted}
use Rattle.digest_types.specs.Name.{HashAndSize}
use Rattle.store_core.proofs.AscendingLaws.{none_contained}
use Rattle.blob_store.specs.declared.shelf.ShelfEnd.{ShelfEnd}
use Rattle.blob_store.specs.declared.shelf.ShelfEnd.TheVariants.{Failed, OutOfMemory}
use Rattle.blob_store.specs.Shelves.{Stays, Finds, dropping}
use Rattle.blob_store.specs.declared.memory.MemBody.{MemBody}
use Rattle.blob_store.specs.Memory.{MemState, shelved_of, after_call, after_fault, after_lost, after_draft, after_found, first_body, body_with, told_if, are_some}

-- a call that finds no body leaves those that are to be found
pub stays_by : (old new : MemState) → new.found ≡ old.found → new.failing ≡ old.failing → new.discarded ≡ old.discarded → new.dropped ≡ old.dropped → new.saved ≡ old.saved → old.faults ≤ new.faults → Stays (shelved_of old) (shelved_of new)
stays_by old new found failing discarded dropped saved later = record {
  discarded = discarded;
  dropped = dropped;
  may_fail = ap are_some failing;
  found = ap (λ (bodies : List (List ℕ)). Some (map (λ bytes. Some bytes) bodies)) found;
  to_find = omega (arith, ap (λ (bodies : List (List ℕ)). min (length bodies) (2 ^ 63)) found);
  saved = ap (λ (ds : List HashAndSize). Some ds) saved;
  later = later;
}

-- the same of the call that makes a draft
pub stays_draft : {T : Type 0} (r : Result T ShelfEnd) (old new : MemState) → OnOk r (new ≡ after_draft old) → OnErr r (new ≡ after_fault old) → old.faults ≤ new.faults → Stays (shelved_of old) (shelved_of new)
stays_draft (Ok x) old new ok err later = stays_by old new (ap (λ (s : MemState). s.found) ok) (ap (λ (s : MemState). s.failing) ok) (ap (λ (s : MemState). s.discarded) ok) (ap (λ (s : MemState). s.dropped) ok) (ap (λ (s : MemState). s.saved) ok) later
stays_draft (Err e) old new ok err later = stays_by old new (ap (λ (s : MemState). s.found) err) (ap (λ (s : MemState). s.failing) err) (ap (λ (s : MemState). s.discarded) err) (ap (λ (s : MemState). s.dropped) err) (ap (λ (s : MemState). s.saved) err) later

-- the same of a call that takes no memory
pub stays_call : {T E : Type 0} (r : Result T E) (old new : MemState) → OnOk r (new ≡ after_call old) → OnErr r (new ≡ after_fault old) → old.faults ≤ new.faults → Stays (shelved_of old) (shelved_of new)
stays_call (Ok x) old new ok err later = stays_by old new (ap (λ (s : MemState). s.found) ok) (ap (λ (s : MemState). s.failing) ok) (ap (λ (s : MemState). s.discarded) ok) (ap (λ (s : MemState). s.dropped) ok) (ap (λ (s : MemState). s.saved) ok) later
stays_call (Err e) old new ok err later = stays_by old new (ap (λ (s : MemState). s.found) err) (ap (λ (s : MemState). s.failing) err) (ap (λ (s : MemState). s.discarded) err) (ap (λ (s : MemState). s.dropped) err) (ap (λ (s : MemState). s.saved) err) later

-- the same of the call that makes a draft a body
pub stays_seal : {T : Type 0} (r : Result T ShelfEnd) (old new : MemState) → OnOk r (new ≡ after_call old) → old.faults ≤ new.faults → OnOk r (Stays (shelved_of old) (shelved_of new))
stays_seal (Ok x) old new ok later = stays_call {E = ShelfEnd} (Ok x) old new ok tt later
stays_seal (Err e) old new ok later = tt

-- where it can't, the draft was given up
pub loses_seal : {T : Type 0} (r : Result T ShelfEnd) (old new : MemState) → OnErr r (new ≡ after_lost old) → old.faults ≤ new.faults → OnErr r (Stays (dropping (shelved_of old)) (shelved_of new))
loses_seal (Ok x) old new err later = tt
loses_seal (Err e) old new err later = stays_by (record old { dropped = counted old.dropped }) new (ap (λ (s : MemState). s.found) err) (ap (λ (s : MemState). s.failing) err) (ap (λ (s : MemState). s.discarded) err) (ap (λ (s : MemState). s.dropped) err) (ap (λ (s : MemState). s.saved) err) later

-- the same of a call that may want memory
pub stays_memory : {T : Type 0} (r : Result T ShelfEnd) (old new : MemState) → OnOk r (new ≡ after_call old) → (IsErrOf r Failed → new ≡ after_fault old) → (IsErrOf r OutOfMemory → new ≡ after_call old) → old.faults ≤ new.faults → Stays (shelved_of old) (shelved_of new)
stays_memory (Ok x) old new ok fault memory later = stays_by old new (ap (λ (s : MemState). s.found) ok) (ap (λ (s : MemState). s.failing) ok) (ap (λ (s : MemState). s.discarded) ok) (ap (λ (s : MemState). s.dropped) ok) (ap (λ (s : MemState). s.saved) ok) later
stays_memory (Err Failed) old new ok fault memory later = stays_by old new (ap (λ (s : MemState). s.found) (fault refl)) (ap (λ (s : MemState). s.failing) (fault refl)) (ap (λ (s : MemState). s.discarded) (fault refl)) (ap (λ (s : MemState). s.dropped) (fault refl)) (ap (λ (s : MemState). s.saved) (fault refl)) later
stays_memory (Err OutOfMemory) old new ok fault memory later = stays_by old new (ap (λ (s : MemState). s.found) (memory refl)) (ap (λ (s : MemState). s.failing) (memory refl)) (ap (λ (s : MemState). s.discarded) (memory refl)) (ap (λ (s : MemState). s.dropped) (memory refl)) (ap (λ (s : MemState). s.saved) (memory refl)) later

-- where a call is to fail, some may
pub some_fails : (calls : List ℕ) (n : ℕ) → Contains calls n → are_some calls ≡ true
some_fails [] n c = absurd (none_contained n c)
some_fails (x ∷ calls) n c = refl

-- bytes that are told
abbrev tell : List ℕ → Option (List ℕ)
tell bytes = Some bytes

-- the body that is found first tells the first bytes
first_is : (bodies : List (List ℕ)) (b : MemBody) → Some b ≡ first_body bodies → (rest : List (List ℕ)) × (bodies ≡ b.bytes ∷ rest) × (told_if b.told b.bytes ≡ Some b.bytes)
first_is [] b e = absurd cc
first_is (bytes ∷ rest) b e =
    let same : b ≡ body_with bytes = cc in
    (rest, ap (λ (x : List ℕ). x ∷ rest) (sym (ap (λ (c : MemBody). c.bytes) same)), rw same refl)

-- the first body is found, and those behind it are left
pub finds_first : (r : Result (Option MemBody) ShelfEnd) (old new : MemState) → IfOk r (λ o. o ≡ first_body old.found) → OnOk r (new ≡ after_found old) → OnOk r (length old.found ≤ 2 ^ 63) → IfOk r (λ o. IfSome o (λ b. Finds (shelved_of old) (shelved_of new) (told_if b.told b.bytes)))
finds_first (Ok (Some b)) old new found ok few =
    let first = first_is old.found b found in
    let left : new.found ≡ first.0 = ap (λ (s : MemState). s.found) ok ∙ ap (drop 1) first.1 in
    let one : length old.found ≡ suc (length first.0) = ap length first.1 in
    let fewer : length new.found ≡ length first.0 = ap length left in
    (omega arith, (map tell first.0, ap (map tell) first.1 ∙ ap (λ (x : Option (List ℕ)). x ∷ map tell first.0) (sym first.2), ap (λ (s : List (List ℕ)). Some (map tell s)) left))
finds_first (Ok None) old new found ok few = tt
finds_first (Err e) old new found ok few = tt
