-- The frames of a connection: what its reader holds, and what it gives next.
use Rattle.std.specs.Prelude.{◌≡◌, ◌+◌, ◌==◌, nat_le, ℕ, Bool, true, false, List, [], ◌∷◌, ◌++◌, length, drop, Option, Some, None, Result, Ok, Err, if◌then◌else◌}
use Rattle.proto_wire.specs.Steps.{◌>>=◌}
use Rattle.h2_frames.specs.declared.fault.FrameFault.{FrameFault}
use Rattle.h2_frames.specs.declared.fault.FrameFault.TheVariants as faults
use Rattle.h2_frames.specs.declared.frame.Frame.{Frame}
use Rattle.h2_frames.specs.Reading.{Fails, frame_at}

-- A reader: whether the client's preface is still due, where the bytes begin that were not given out, these bytes (the
-- rest), the refusal, if there was one, and how many bytes it keeps: the rest, and what it gave out and has not let go.
pub record Pending : Type 0 where
  pub due : Bool
  pub at : ℕ
  pub rest : List ℕ
  pub fault : Option FrameFault
  pub held : ℕ

-- a reader to which no bytes were fed
abbrev pub fresh : Bool → Pending
fresh due = record { due = due; at = 0; rest = []; fault = None; held = 0 }

-- PRI * HTTP/2.0, an empty line, SM, an empty line (RFC 9113, section 3.4)
unfoldable pub preface : List ℕ
preface = 80 ∷ 82 ∷ 73 ∷ 32 ∷ 42 ∷ 32 ∷ 72 ∷ 84 ∷ 84 ∷ 80 ∷ 47 ∷ 50 ∷ 46 ∷ 48 ∷ 13 ∷ 10 ∷ 13 ∷ 10 ∷ 83 ∷ 77 ∷ 13 ∷ 10 ∷ 13 ∷ 10 ∷ []

-- the place of the first byte that differs, if the first byte of each stands at `at`
unfoldable pub difference : ℕ → List ℕ → List ℕ → Option ℕ
difference at [] text = None
difference at (p ∷ ps) [] = None
difference at (p ∷ ps) (b ∷ bs) = if p == b then difference (at + 1) ps bs else Some at

-- a fault if a byte differs, and otherwise whether the whole preface is there
abbrev pub whole_or_fault : Bool → Option ℕ → Result Bool FrameFault
whole_or_fault whole None = Ok whole
whole_or_fault whole (Some at) = Err (faults.BadPreface at)

-- the preface at the beginning of bytes, the first of which stands at `at`
unfoldable pub preface_at : ℕ → List ℕ → Result Bool FrameFault
preface_at at text = whole_or_fault (nat_le 24 (length text)) (difference at preface text)

-- so many bytes were given out
abbrev pub advanced : ℕ → Pending → Pending
advanced len r = record r { due = false; at = r.at + len; rest = drop len r.rest }

-- nothing but the rest is kept
abbrev pub cut : Pending → Pending
cut r = record r { held = length r.rest }

-- past the preface, if it is there whole
abbrev pub behind : Result Bool FrameFault → Pending → Pending
behind (Ok true) r = advanced 24 r
behind (Ok false) r = r
behind (Err e) r = r

-- the reader past the preface, if it is due and there whole
unfoldable pub begun : Pending → Pending
begun r = if r.due then behind (preface_at r.at r.rest) r else r

-- what stands at the beginning of the rest: a frame and its length in bytes, None for a proper prefix, or a fault
unfoldable pub seen : Pending → Result (Option (Frame × ℕ)) FrameFault
seen r = if r.due then (preface_at r.at r.rest >>= λ whole. Ok None) else frame_at r.at r.rest

-- the frame with its place, and the reader behind it; where there is none, the reader keeps nothing but the rest
abbrev pub give : Pending → Option (Frame × ℕ) → Option (ℕ × Frame) × Pending
give r None = (None, cut r)
give r (Some x) = (Some (r.at, x.0), advanced x.1 r)

-- what is given next, or a fault
unfoldable pub given : Pending → Result (Option (ℕ × Frame) × Pending) FrameFault
given r = seen (begun r) >>= λ o. Ok (give (begun r) o)

-- What a reader without a refusal answers. The refusal stays, and the rest begins with the bytes that are refused.
abbrev pub Answers : Pending → Pending → Result (Option (ℕ × Frame)) FrameFault → Type 0
Answers old new (Ok o) = given old ≡ Ok (o, new)
Answers old new (Err e) = Fails e (given old) × (new ≡ record (begun old) { fault = Some e })

-- bytes that were fed are appended to the rest, unless there was a refusal
abbrev pub fed_by : Option FrameFault → List ℕ → Pending → Pending
fed_by None bytes r = record r { rest = r.rest ++ bytes; held = r.held + length bytes }
fed_by (Some e) bytes r = r

-- a reader that was fed
abbrev pub fed : List ℕ → Pending → Pending
fed bytes r = fed_by r.fault bytes r

-- where bytes begin, the first of which stands at `at`, if there are any
abbrev pub place_of : ℕ → List ℕ → Option ℕ
place_of at text = if length text == 0 then None else Some at

-- where the rest begins, if it is not empty
abbrev pub rest_place : Pending → Option ℕ
rest_place r = place_of r.at r.rest
