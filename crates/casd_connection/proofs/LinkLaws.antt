-- What a link tells, over reads and writes.
use Rattle.std.proofs.Common.{◌≡◌, ◌∙◌, ◌+◌, ◌-◌, ◌≤◌, ◌<◌, ◌^◌, ℕ, zero, suc, List, [], ◌++◌, append_assoc, length, take, drop, false, true, Option, Some, None, Result, Ok, Err, IfSome, IsSome, refl, sym, ap, subst, arith}
use Rattle.std.specs.Prelude.{min}
use Rattle.std.proofs.Math.Seq.{take-add}
use Rattle.std.proofs.lemmas.List.{append-nil, take_all, length-drop}
use Rattle.casd_base.specs.Causes.{Rose}
use Rattle.casd_base.specs.Streams.{Takes, Adds, IsEnded, NotesEnd, KeepsEnd}
use Rattle.casd_base.specs.declared.source.Failed.{Failed}
use Rattle.casd_connection.specs.Linked.{Linked, Carries, IsUnmet, FoundEnd}
use Rattle.casd_connection.specs.Writes.{Writes}

pub takes_none : (a : Option (List ℕ)) → Takes a a []
takes_none None = tt
takes_none (Some old) = (old, refl, refl)

pub takes_then : (a b c : Option (List ℕ)) (x y : List ℕ) → Takes a b x → Takes b c y → Takes a c (x ++ y)
takes_then None b c x y p q = tt
takes_then (Some old) b c x y p q =
    let second : Takes (Some p.0) c y = subst (λ (o : Option (List ℕ)). Takes o c y) p.1 q in
    (second.0, second.1, p.2 ∙ ap (λ (r : List ℕ). x ++ r) second.2 ∙ sym (append_assoc x y second.0))

pub adds_none : (a : Option (List ℕ)) → Adds a a []
adds_none None = tt
adds_none (Some old) = ap (λ (l : List ℕ). Some l) (sym (append-nil old))

pub adds_then : (a b c : Option (List ℕ)) (x y : List ℕ) → Adds a b x → Adds b c y → Adds a c (x ++ y)
adds_then None b c x y p q = tt
adds_then (Some old) b c x y p q =
    let second : Adds (Some (old ++ x)) c y = subst (λ (o : Option (List ℕ)). Adds o c y) p q in
    second ∙ ap (λ (l : List ℕ). Some l) (append_assoc old x y)

-- a front of the bytes that are left was added
pub adds_more : (a b c : Option (List ℕ)) (bytes : List ℕ) (i n : ℕ) → Adds a b (take i bytes) → Adds b c (take n (take (length bytes - i) (drop i bytes))) → Adds a c (take (i + n) bytes)
adds_more a b c bytes i n p q =
    let whole : take (length bytes - i) (drop i bytes) ≡ drop i bytes = take_all (length bytes - i) (drop i bytes) (omega (arith, length-drop i bytes)) in
    let added : Adds b c (take n (drop i bytes)) = subst (λ (xs : List ℕ). Adds b c (take n xs)) whole q in
    subst (λ (xs : List ℕ). Adds a c xs) (sym (take-add i n bytes)) (adds_then a b c (take i bytes) (take n (drop i bytes)) p added)

-- ---- where the end was noted

kept_end : (a b : Option (Option ℕ)) → a ≡ Some None → IfSome b (λ noted. a ≡ Some noted) → IfSome b (λ noted. noted ≡ None)
kept_end a None is h = tt
kept_end a (Some noted) is h = some_none noted (sym h ∙ is)
  where
    some_none : (n : Option ℕ) → Some n ≡ Some None → n ≡ None
    some_none n e = cc

-- what was so still is, over a call that keeps the end as it was noted
pub unmet_kept : (a b c : Linked) → IsUnmet a b → IfSome c.at_end (λ noted. b.at_end ≡ Some noted) → IsUnmet a c
unmet_kept a b c h k = λ is. both b.at_end c.at_end (h is) k
  where
    both : (p q : Option (Option ℕ)) → IfSome p (λ noted. noted ≡ None) → IfSome q (λ noted. p ≡ Some noted) → IfSome q (λ noted. noted ≡ None)
    both p None h k = tt
    both None (Some noted) h k = absurd cc
    both (Some n) (Some noted) h k = same n noted h k
      where
        same : (n m : Option ℕ) → n ≡ None → Some n ≡ Some m → m ≡ None
        same n m e f = cc

-- ---- writes

pub carries_none : (a : Linked) → Carries a a [] []
carries_none a = record { takes = takes_none a.left; adds = adds_none a.written; read_count = omega arith; write_count = omega arith }

pub carries_written : (a b c : Linked) (ins outs more : List ℕ) → Carries a b ins outs → Writes b c more → Carries a c ins (outs ++ more)
carries_written a b c ins outs more p w = record {
  takes = subst (λ (left : Option (List ℕ)). Takes a.left left ins) (sym w.left) p.takes;
  adds = adds_then a.written b.written c.written outs more p.adds w.adds;
  read_count = omega (arith, p.read_count, w.read_count);
  write_count = omega (arith, p.write_count, w.write_count);
}

pub unmet_written : (a b c : Linked) (more : List ℕ) → IsUnmet a b → Writes b c more → IsUnmet a c
unmet_written a b c more h w = unmet_kept a b c h w.at_end

kept_twice : (a b c : Option (Option ℕ)) → IfSome b (λ noted. a ≡ Some noted) → IfSome c (λ noted. b ≡ Some noted) → IfSome c (λ noted. a ≡ Some noted)
kept_twice a b None h k = tt
kept_twice a b (Some n) h k = subst (λ (o : Option (Option ℕ)). IfSome o (λ noted. a ≡ Some noted)) k h

-- one more write
pub writes_more : (a b c : Linked) (bytes : List ℕ) (i n : ℕ) → Writes a b (take i bytes) → Adds b.written c.written (take n (take (length bytes - i) (drop i bytes))) → c.left ≡ b.left → c.read_faults ≡ b.read_faults → b.write_faults ≤ c.write_faults
    → KeepsEnd b.at_end c.at_end → Writes a c (take (i + n) bytes)
writes_more a b c bytes i n w adds left reads writes keeps = record {
  adds = adds_more a.written b.written c.written bytes i n w.adds adds;
  left = left ∙ w.left;
  read_count = reads ∙ w.read_count;
  write_count = omega (arith, w.write_count, writes);
  at_end = kept_twice a.at_end b.at_end c.at_end w.at_end keeps;
}

-- ---- reads

pub carries_read : (a b c : Linked) (ins outs more : List ℕ) → Carries a b ins outs → Takes b.left c.left more → c.written ≡ b.written → b.read_faults ≤ c.read_faults → c.write_faults ≡ b.write_faults → Carries a c (ins ++ more) outs
carries_read a b c ins outs more p takes written reads writes = record {
  takes = takes_then a.left b.left c.left ins more p.takes takes;
  adds = subst (λ (w : Option (List ℕ)). Adds a.written w outs) (sym written) p.adds;
  read_count = omega (arith, p.read_count, reads);
  write_count = omega (arith, p.write_count, writes);
}

pub carries_failed : (a b c : Linked) (ins outs : List ℕ) → Carries a b ins outs → c.left ≡ b.left → c.written ≡ b.written → b.read_faults ≤ c.read_faults → c.write_faults ≡ b.write_faults → Carries a c ins outs
carries_failed a b c ins outs p left written reads writes = record {
  takes = subst (λ (l : Option (List ℕ)). Takes a.left l ins) (sym left) p.takes;
  adds = subst (λ (w : Option (List ℕ)). Adds a.written w outs) (sym written) p.adds;
  read_count = omega (arith, p.read_count, reads);
  write_count = omega (arith, p.write_count, writes);
}

-- a read that gave bytes, or failed
pub unmet_read : (a b c : Linked) (room n : ℕ) → IsUnmet a b → 0 < n → NotesEnd b.sent b.at_end c.at_end room (Ok n) → IsUnmet a c
unmet_read a b c room n h some notes = λ is. read b.sent b.at_end c.at_end room n (h is) some notes
  where
    read : (sent : Option ℕ) (p q : Option (Option ℕ)) (room n : ℕ) → IfSome p (λ noted. noted ≡ None) → 0 < n → NotesEnd sent p q room (Ok n) → IfSome q (λ noted. noted ≡ None)
    read sent None q room n h some notes = subst (λ (o : Option (Option ℕ)). IfSome o (λ noted. noted ≡ None)) (sym notes) tt
    read sent (Some (Some m)) q room n h some notes = absurd cc
    read sent (Some None) q zero n h some notes = subst (λ (o : Option (Option ℕ)). IfSome o (λ noted. noted ≡ None)) (sym notes) refl
    read sent (Some None) q (suc room) zero h some notes = absurd (grind (arith))
    read sent (Some None) q (suc room) (suc n) h some notes = subst (λ (o : Option (Option ℕ)). IfSome o (λ noted. noted ≡ None)) (sym notes) refl

-- a read that found the end
pub found_end : (a b c : Linked) (room : ℕ) → IsUnmet a b → 0 < room → NotesEnd b.sent b.at_end c.at_end room (Ok 0) → c.sent ≡ b.sent → (IsSome b.at_end → IsSome b.sent) → IsEnded c.left → FoundEnd a c
found_end a b c room h some notes sent told ended = record { ended = ended; at_end = λ is. found b.sent b.at_end c.at_end c.sent room (h is) some notes sent told }
  where
    found : (sent : Option ℕ) (p q : Option (Option ℕ)) (now : Option ℕ) (room : ℕ) → IfSome p (λ noted. noted ≡ None) → 0 < room → NotesEnd sent p q room (Ok 0) → now ≡ sent → (IsSome p → IsSome sent) → IfSome q (λ noted. now ≡ noted)
    found sent None q now room h some notes same told = subst (λ (o : Option (Option ℕ)). IfSome o (λ noted. now ≡ noted)) (sym notes) tt
    found sent (Some (Some m)) q now room h some notes same told = absurd cc
    found sent (Some None) q now zero h some notes same told = absurd (grind (arith))
    found None (Some None) q now (suc room) h some notes same told = let none : false ≡ true = told refl in absurd cc
    found (Some n) (Some None) q now (suc room) h some notes same told = subst (λ (o : Option (Option ℕ)). IfSome o (λ noted. now ≡ noted)) (sym notes) same

pub rose_since : (a b c : ℕ) → a ≤ b → Rose b c → Rose a c
rose_since a b c le h = omega (arith, le, h)
