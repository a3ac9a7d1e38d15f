-- The link in memory as a plain value.
use Rattle.std.specs.Prelude.{◌+◌, ◌-◌, ◌^◌, min, max, ℕ, List, [], ◌∷◌, ◌++◌, length, drop, Option}
use Rattle.casd_base.specs.Streams.{noted_after}

-- what is left to read and what was written; how long each next read may be; which calls fail, by their common
-- number from 0; how many calls were made; both counts of faults; what had been written when the end was met
pub record MemState : Type 0 where
  pub left : List ℕ
  pub written : List ℕ
  pub cuts : List ℕ
  pub failing : List ℕ
  pub calls : ℕ
  pub read_faults : ℕ
  pub write_faults : ℕ
  pub ended : Option ℕ

-- a count of 64 bits stands still at its last value
abbrev pub counted : ℕ → ℕ
counted n = min (n + 1) (2 ^ 64 - 1)

-- the next cut bounds a read, and one of 0 counts as 1; with no cut left all that fits is given
abbrev pub cut_to : List ℕ → ℕ → ℕ
cut_to [] fits = fits
cut_to (cut ∷ cuts) fits = min (max cut 1) fits

-- how many bytes a read into so much room gives
abbrev pub given : MemState → ℕ → ℕ
given s room = cut_to s.cuts (min room (length s.left))

-- a read of so much room that doesn't fail
abbrev pub after_read : MemState → ℕ → MemState
after_read s room = record s { left = drop (given s room) s.left; cuts = drop 1 s.cuts; calls = counted s.calls; ended = noted_after s.ended (length s.written) (given s room) room }

-- a write that doesn't fail, which takes all of the bytes
abbrev pub after_write : MemState → List ℕ → MemState
after_write s added = record s { written = s.written ++ added; calls = counted s.calls }
