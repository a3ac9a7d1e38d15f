-- The first bytes of a message (gRPC over HTTP/2, Length-Prefixed-Message).
use Rattle.std.specs.Prelude.{◌≡◌, ◌≤◌, ◌<◌, ℕ, List, [], ◌∷◌, length}
use Rattle.h2_frames.specs.Layout.{number_at}

-- the largest content that is taken, in bytes
abbrev pub max_message : ℕ
max_message = 8388608

-- the length of the content, by the bytes behind the flag
abbrev pub size_in : List ℕ → ℕ
size_in behind = number_at 0 behind

-- Bytes in front of the content, and bytes of the content: a part of a message. There are none of the latter before the five of the
-- former.
abbrev pub IsPart : List ℕ → List ℕ → Type 0
IsPart [] content = content ≡ []
IsPart (flag ∷ behind) content =
    (flag ≡ 0) × (length behind ≤ 4) × (length behind < 4 → content ≡ []) × (4 ≤ length behind → (size_in behind ≤ max_message) × (length content < size_in behind))
