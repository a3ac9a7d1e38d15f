-- Flow control of what this end sends (RFC 9113, sections 5.2 and 6.9).
use Rattle.std.specs.Prelude.{◌+◌, ◌-◌, nat_lt, ℕ, Bool}
use Rattle.h2_session.specs.Codes.{max_window}

-- What the peer has granted on a stream beyond its initial window, less what was sent; or what was sent, less what it has
-- granted so. One of the two is 0.
pub record Flow : Type 0 where
  pub granted : ℕ
  pub sent : ℕ

-- nothing was granted, and nothing sent
abbrev pub new_flow : Flow
new_flow = record { granted = 0; sent = 0 }

-- The window of the stream, in bytes: another initial window moves it, maybe below zero (section 6.9.2), and then nothing is left.
abbrev pub window_of : ℕ → Flow → ℕ
window_of initial f = (initial + f.granted) - f.sent

-- the window would be larger than one may be (section 6.9.1)
abbrev pub passes_max : ℕ → Flow → Bool
passes_max initial f = nat_lt (max_window + f.sent) (initial + f.granted)

-- after a WINDOW_UPDATE
abbrev pub grown : ℕ → Flow → Flow
grown increment f = record { granted = (f.granted + increment) - f.sent; sent = f.sent - (f.granted + increment) }

-- after so many bytes of DATA
abbrev pub used : ℕ → Flow → Flow
used size f = record { granted = f.granted - (f.sent + size); sent = (f.sent + size) - f.granted }
