-- The bytes of a connection as a relation of whole lists (RFC 9113, sections 3.4, 4.1 and 6): the client's preface where
-- it is due, spellings of frames, one after the other, and a rest: nothing, a proper prefix of the preface or of a frame,
-- or bytes that begin with a malformed frame or differ from the preface.
use Rattle.std.specs.Prelude.{◌≡◌, ◌≢◌, ◌⊎◌, ◌+◌, ◌^◌, ◌<◌, ◌≤◌, ℕ, Bool, true, false, List, [], ◌∷◌, ◌++◌, length, take, Option, Some, None, if◌then◌else◌}
use Rattle.h2_frames.specs.declared.fault.FrameFault.{FrameFault}
use Rattle.h2_frames.specs.declared.fault.FrameFault.TheVariants as faults
use Rattle.h2_frames.specs.declared.frame.Frame.{Frame}
use Rattle.h2_frames.specs.declared.layout.Header.{Header}
use Rattle.h2_frames.specs.Layout.{has, priority_len, offence}
use Rattle.h2_frames.specs.Spelling.{header_bytes, IsSpelling}
use Rattle.h2_frames.specs.Stream.{Pending, preface, place_of}

-- the bytes, the first of which stands at `at`, are spellings of these frames, one after the other, each with its place
abbrev pub Frames : ℕ → List ℕ → List (ℕ × Frame) → Type 0
Frames at text [] = text ≡ []
Frames at text (p ∷ ps) = (first : List ℕ) × (rest : List ℕ) × IsSpelling first p.1 × (p.0 ≡ at) × (text ≡ first ++ rest)
    × Frames (at + length first) rest ps

-- a header, and what stands behind it
pub record HasHeader (text : List ℕ) (h : Header) (behind : List ℕ) : Type 0 where
  pub bit : ℕ
  pub bit_small : bit < 2
  pub on_small : h.stream < 2 ^ 31
  pub whole : text ≡ header_bytes h.len h.kind h.flags bit h.stream ++ behind

-- a header that shows no offence (which does not depend on its place), and a proper prefix of its payload
pub record IsShort (text : List ℕ) : Type 0 where
  pub header : Header
  pub behind : List ℕ
  pub begins : HasHeader text header behind
  pub sound : offence 0 header ≡ None
  pub short : length behind < header.len

-- nothing, or a proper prefix of a frame
abbrev pub IsFramePrefix : List ℕ → Type 0
IsFramePrefix text = (length text < 9) ⊎ IsShort text

-- the header shows that the frame is malformed
pub record HasOffence (at : ℕ) (text : List ℕ) (e : FrameFault) : Type 0 where
  pub header : Header
  pub behind : List ℕ
  pub begins : HasHeader text header behind
  pub offends : offence at header ≡ Some e

-- the fields between the length of the padding and the content: those of PRIORITY in HEADERS
abbrev pub IsSkipped : ℕ → ℕ → ℕ → Type 0
IsSkipped kind flags skip = ((kind ≡ 0) × (skip ≡ 0)) ⊎ ((kind ≡ 1) × (skip ≡ priority_len flags))

-- a whole DATA or HEADERS frame, whose padding is longer than what is left of the payload
pub record IsOverpadded (at : ℕ) (text : List ℕ) (e : FrameFault) : Type 0 where
  pub header : Header
  pub behind : List ℕ
  pub begins : HasHeader text header behind
  pub sound : offence 0 header ≡ None
  pub fits : header.len ≤ length behind
  pub padded : has 8 header.flags ≡ true
  pub skip : ℕ
  pub skipped : IsSkipped header.kind header.flags skip
  pub pad : ℕ
  pub fields : List ℕ
  pub left : List ℕ
  pub fields_len : length fields ≡ skip
  pub payload : take header.len behind ≡ pad ∷ (fields ++ left)
  pub over : length left < pad
  pub fault : e ≡ faults.BadPadding at

-- the rest behind all frames: nothing or a proper prefix of a frame, or a malformed frame
abbrev pub IsRest : ℕ → List ℕ → Option FrameFault → Type 0
IsRest at text None = IsFramePrefix text
IsRest at text (Some e) = HasOffence at text e ⊎ IsOverpadded at text e

-- the first byte that differs from the preface
pub record Differs (text : List ℕ) (e : FrameFault) : Type 0 where
  pub front : List ℕ
  pub wanted : ℕ
  pub found : ℕ
  pub wanted_behind : List ℕ
  pub found_behind : List ℕ
  pub wanted_is : preface ≡ front ++ (wanted ∷ wanted_behind)
  pub found_is : text ≡ front ++ (found ∷ found_behind)
  pub other : wanted ≢ found
  pub fault : e ≡ faults.BadPreface (length front)

-- nothing, or a proper prefix of the preface, or bytes that differ from it
abbrev pub IsPrefaceRest : List ℕ → Option FrameFault → Type 0
IsPrefaceRest text None = (more : List ℕ) × (preface ≡ text ++ more) × (0 < length more)
IsPrefaceRest text (Some e) = Differs text e

-- what stands before the first frame
abbrev pub front_of : Bool → List ℕ
front_of due = if due then preface else []

-- all frames, the rest behind them, and where it begins, if it is not empty
pub record HasFrames (due : Bool) (text : List ℕ) (ps : List (ℕ × Frame)) (end : Option FrameFault) (place : Option ℕ) : Type 0 where
  pub middle : List ℕ
  pub rest : List ℕ
  pub whole : text ≡ front_of due ++ (middle ++ rest)
  pub frames : Frames (length (front_of due)) middle ps
  pub rest_is : IsRest (length (front_of due) + length middle) rest end
  pub place_is : place ≡ place_of (length (front_of due) + length middle) rest

-- The bytes are those of a connection, with these frames. They end in nothing or a proper prefix, or in this fault, and
-- what they end in begins at this place, if it is not empty.
abbrev pub IsStream : Bool → List ℕ → List (ℕ × Frame) → Option FrameFault → Option ℕ → Type 0
IsStream due text ps end place = HasFrames due text ps end place ⊎ ((due ≡ true) × (ps ≡ []) × IsPrefaceRest text end × (place ≡ place_of 0 text))

-- ---- what a reader has given

-- the reader stands behind these frames of all bytes that were fed
pub record StandsBehind (due : Bool) (text : List ℕ) (ps : List (ℕ × Frame)) (r : Pending) : Type 0 where
  pub middle : List ℕ
  pub whole : text ≡ front_of due ++ (middle ++ r.rest)
  pub frames : Frames (length (front_of due)) middle ps
  pub at : r.at ≡ length (front_of due) + length middle
  pub begun : r.due ≡ false

-- the reader has not seen the whole preface
pub record StandsBefore (due : Bool) (text : List ℕ) (ps : List (ℕ × Frame)) (r : Pending) : Type 0 where
  pub due_is : due ≡ true
  pub still : r.due ≡ true
  pub at : r.at ≡ 0
  pub rest : r.rest ≡ text
  pub none : ps ≡ []

-- of all bytes that were fed, the reader has given these frames, and no other byte
abbrev pub HasGiven : Bool → List ℕ → List (ℕ × Frame) → Pending → Type 0
HasGiven due text ps r = StandsBehind due text ps r ⊎ StandsBefore due text ps r
