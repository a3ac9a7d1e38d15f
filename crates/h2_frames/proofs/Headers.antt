-- What a header without an offence says, and which headers have none.
use Rattle.std.proofs.Common.{◌≡◌, ℕ, ◌≤◌, Bool, true, false, cond, eqb, not, Option, Some, None, refl}
use Rattle.std.specs.Prelude.{◌&&◌}
use Rattle.std.proofs.lemmas.Bool.{ltb-false, le-ltb}
use Rattle.h2_frames.specs.declared.fault.FrameFault.{FrameFault}
use Rattle.h2_frames.specs.declared.layout.Header.{Header}
use Rattle.h2_frames.specs.Layout.{is_on_stream, is_on_connection, is_bad_length, offence}

-- nothing is wrong that the header shows
pub record Sound (h : Header) : Type 0 where
  pub short : h.len ≤ 16384
  pub on_stream : is_on_stream h.kind && eqb h.stream 0 ≡ false
  pub on_connection : is_on_connection h.kind && not (eqb h.stream 0) ≡ false
  pub good : is_bad_length h ≡ false

passed : (b : Bool) (e : FrameFault) (o : Option FrameFault) → cond b (Some e) o ≡ None → (b ≡ false) × (o ≡ None)
passed true e o h = absurd cc
passed false e o h = (refl, h)

pub sound : (at : ℕ) (h : Header) → offence at h ≡ None → Sound h
unfolding offence
sound at h e =
    let a = passed _ _ _ e in
    let b = passed _ _ _ a.1 in
    let c = passed _ _ _ b.1 in
    let d = passed _ _ _ c.1 in
    record { short = ltb-false _ _ a.0; on_stream = b.0; on_connection = c.0; good = d.0 }

pub no_offence : (at : ℕ) (h : Header) → Sound h → offence at h ≡ None
unfolding offence
no_offence at h s = rw (le-ltb 16384 h.len s.short, s.on_stream, s.on_connection, s.good) refl
