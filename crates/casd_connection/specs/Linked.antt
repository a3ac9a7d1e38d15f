-- What was read and written on a link, and where its end was met.
use Rattle.std.specs.Prelude.{◌≡◌, ◌≤◌, ◌+◌, ℕ, List, length, Option, Some, None, IfSome}
use Rattle.casd_base.specs.Causes.{Rose}
use Rattle.casd_base.specs.Streams.{Takes, Adds, IsEnded}

-- what a link tells: the bytes left to read, the bytes written, both counts of faults, how many bytes were written, and how many
-- were when its end was met
pub record Linked : Type 0 where
  pub left : Option (List ℕ)
  pub written : Option (List ℕ)
  pub read_faults : ℕ
  pub write_faults : ℕ
  pub sent : Option ℕ
  pub at_end : Option (Option ℕ)

abbrev pub linked : Option (List ℕ) → Option (List ℕ) → ℕ → ℕ → Option ℕ → Option (Option ℕ) → Linked
linked left written read_faults write_faults sent at_end = record {
  left = left;
  written = written;
  read_faults = read_faults;
  write_faults = write_faults;
  sent = sent;
  at_end = at_end;
}

-- just these bytes were read and written, where the link tells them, and no count fell
pub record Carries (a b : Linked) (ins outs : List ℕ) : Type 0 where
  pub takes : Takes a.left b.left ins
  pub adds : Adds a.written b.written outs
  pub read_count : a.read_faults ≤ b.read_faults
  pub write_count : a.write_faults ≤ b.write_faults

-- a link that tells where it met its end, and hadn't met it before, hasn't met it yet
abbrev pub IsUnmet : Linked → Linked → Type 0
IsUnmet a b = a.at_end ≡ Some None → IfSome b.at_end (λ noted. noted ≡ None)

-- Its end was met, where it tells that: nothing is left, and all that was written had been written when the read began that met
-- the end.
pub record FoundEnd (a b : Linked) : Type 0 where
  pub ended : IsEnded b.left
  pub at_end : a.at_end ≡ Some None → IfSome b.at_end (λ noted. b.sent ≡ noted)
