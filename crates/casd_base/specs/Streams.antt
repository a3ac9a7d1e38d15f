-- What is known of the bytes of a source, a sink and a link that tell them.
use Rattle.std.specs.Prelude.{◌≡◌, ◌+◌, ◌^◌, ◌==◌, ◌&&◌, nat_lt, ℕ, zero, suc, List, [], ◌++◌, Option, Some, None, is_none, Result, Ok, Err, IsSome, IfSome, true, false, refl, if◌then◌else◌}
use Rattle.casd_base.specs.declared.source.Failed.{Failed}
use Rattle.casd_base.specs.declared.sink.SinkEnd.{SinkEnd}

-- The bytes were taken from the front of what was left. An object that told nothing claims nothing.
abbrev pub Takes : Option (List ℕ) → Option (List ℕ) → List ℕ → Type 0
Takes None now taken = Unit {0}
Takes (Some old) now taken = (rest : List ℕ) × (now ≡ Some rest) × (old ≡ taken ++ rest)

-- nothing is left, where that is told
abbrev pub IsEnded : Option (List ℕ) → Type 0
IsEnded None = Unit {0}
IsEnded (Some rest) = rest ≡ []

-- The bytes were added to those written. An object that told nothing claims nothing.
abbrev pub Adds : Option (List ℕ) → Option (List ℕ) → List ℕ → Type 0
Adds None now added = Unit {0}
Adds (Some old) now added = now ≡ Some (old ++ added)

-- the number of bytes written goes up by what the write answered, as long as it is told
abbrev pub CountsOn : Option ℕ → Option ℕ → Result ℕ SinkEnd → Type 0
CountsOn before now (Ok n) = IfSome now (λ k. (j : ℕ) × (before ≡ Some j) × (k ≡ j + n))
CountsOn before now (Err e) = IfSome now (λ k. before ≡ Some k)

-- The first read into a buffer that isn't empty, whose answer is 0, notes how many bytes had been written; no
-- other read changes that. A link that has stopped telling it doesn't start again.
abbrev pub NotesEnd : Option ℕ → Option (Option ℕ) → Option (Option ℕ) → ℕ → Result ℕ Failed → Type 0
NotesEnd sent (Some None) now (suc room) (Ok zero) = IfSome sent (λ n. now ≡ Some (Some n))
NotesEnd sent (Some None) now (suc room) (Ok (suc n)) = now ≡ Some None
NotesEnd sent (Some None) now (suc room) (Err e) = now ≡ Some None
NotesEnd sent (Some None) now zero result = now ≡ Some None
NotesEnd sent (Some (Some n)) now room result = now ≡ Some (Some n)
NotesEnd sent None now room result = now ≡ None

-- where the end was noted stays, as long as it is told
abbrev pub KeepsEnd : Option (Option ℕ) → Option (Option ℕ) → Type 0
KeepsEnd before now = IfSome now (λ noted. before ≡ Some noted)

-- what is noted after a read that gave `count` bytes into so much room, with so many bytes written before it
abbrev pub noted_after : Option ℕ → ℕ → ℕ → ℕ → Option ℕ
noted_after noted sent count room = if nat_lt 0 room && count == 0 && is_none noted then Some sent else noted

-- told as long as fewer than 2^63 bytes were written
abbrev pub told : {A : Type 0} → ℕ → A → Option A
told sent what = if nat_lt sent (2 ^ 63) then Some what else None

-- what goes with the same count is told together
pub told_both : {A B : Type 0} (sent : ℕ) (what : A) (other : B) → IsSome (told sent other) → IsSome (told sent what)
told_both {A = A} {B = B} sent what other =
    elim (nat_lt sent (2 ^ 63)) as (λ b. IsSome {T = B} (if b then Some other else None) → IsSome {T = A} (if b then Some what else None)) [ true ↦ λ h. refl | false ↦ λ h. h ]
