-- What was taken and what was added, step by step.
use Rattle.std.proofs.Common.{◌≡◌, ℕ, ◌+◌, ◌-◌, List, [], ◌++◌, length, take, drop, Option, Some, None, Result, Ok, Err, refl, sym, ap, subst, ◌∙◌, append_assoc, arith}
use Rattle.std.specs.Prelude.{OnErr}
use Rattle.std.proofs.Math.Seq.{take-add}
use Rattle.std.proofs.lemmas.List.{append-nil, take-append-drop, take_all, length-drop}
use Rattle.casd_base.specs.Streams.{Takes, Adds}
use Rattle.casd_server.specs.Output.{AddsPart}

pub Takes-none : (a : Option (List ℕ)) → Takes a a []
Takes-none None = tt
Takes-none (Some old) = (old, refl, refl)

pub Takes-then : (a b c : Option (List ℕ)) (x y : List ℕ) → Takes a b x → Takes b c y → Takes a c (x ++ y)
Takes-then None b c x y p q = tt
Takes-then (Some old) b c x y p q =
    let second : Takes (Some p.0) c y = subst (λ (o : Option (List ℕ)). Takes o c y) p.1 q in
    (second.0, second.1, p.2 ∙ ap (λ (r : List ℕ). x ++ r) second.2 ∙ sym (append_assoc x y second.0))

pub Adds-none : (a : Option (List ℕ)) → Adds a a []
Adds-none None = tt
Adds-none (Some old) = ap (λ (l : List ℕ). Some l) (sym (append-nil old))

pub Adds-then : (a b c : Option (List ℕ)) (x y : List ℕ) → Adds a b x → Adds b c y → Adds a c (x ++ y)
Adds-then None b c x y p q = tt
Adds-then (Some old) b c x y p q =
    let second : Adds (Some (old ++ x)) c y = subst (λ (o : Option (List ℕ)). Adds o c y) p q in
    second ∙ ap (λ (l : List ℕ). Some l) (append_assoc old x y)

-- what holds whatever happened
pub OnErr-any : {T E P : Type 0} (r : Result T E) → P → OnErr r P
OnErr-any (Ok x) p = tt
OnErr-any (Err e) p = p

-- a front of the bytes that are left was added
pub Adds-more : (a b c : Option (List ℕ)) (bytes : List ℕ) (i n : ℕ) → Adds a b (take i bytes) → Adds b c (take n (take (length bytes - i) (drop i bytes))) → Adds a c (take (i + n) bytes)
Adds-more a b c bytes i n p q =
    let whole : take (length bytes - i) (drop i bytes) ≡ drop i bytes = take_all (length bytes - i) (drop i bytes) (omega (arith, length-drop i bytes)) in
    let added : Adds b c (take n (drop i bytes)) = subst (λ (xs : List ℕ). Adds b c (take n xs)) whole q in
    subst (λ (xs : List ℕ). Adds a c xs) (sym (take-add i n bytes)) (Adds-then a b c (take i bytes) (take n (drop i bytes)) p added)

-- a first part of the bytes was added, and a write failed
pub AddsPart-front : (a b c : Option (List ℕ)) (bytes : List ℕ) (i : ℕ) → Adds a b (take i bytes) → c ≡ b → AddsPart a c bytes
AddsPart-front a b c bytes i p same = record {
  part = take i bytes;
  rest = drop i bytes;
  whole = sym (take-append-drop i bytes);
  adds = subst (λ (o : Option (List ℕ)). Adds a o (take i bytes)) (sym same) p;
}

-- nothing of the bytes was added yet
pub AddsPart-none : (a : Option (List ℕ)) (bytes : List ℕ) → AddsPart a a bytes
AddsPart-none a bytes = record { part = []; rest = bytes; whole = refl; adds = Adds-none a }
