-- Faults of the outside come only where they were counted.
use Rattle.std.specs.Prelude.{◌≡◌, ◌+◌, ◌-◌, ◌^◌, ◌≤◌, min, ℕ, Result, OnOk, OnErr, IsErrOf}
use Rattle.casd_base.specs.declared.sink.SinkEnd.{SinkEnd}
use Rattle.casd_base.specs.declared.sink.SinkEnd.TheVariants.{Failed, OutOfMemory}

-- A count went up. One that stands at its last value, 2^64 - 1, is taken as having gone up.
abbrev pub Rose : ℕ → ℕ → Type 0
Rose before now = min (before + 1) (2 ^ 64 - 1) ≤ now

-- The count never falls, an error comes only where it rose, and `Ok` only where it stayed: no fault is hidden.
pub record HasCause {T E : Type 0} (before now : ℕ) (result : Result T E) : Type 0 where
  pub later : before ≤ now
  pub failed : OnErr result (Rose before now)
  pub ok : OnOk result (now ≡ before)

-- The count never falls, `Failed` comes only where it rose, and every other answer only where it stayed.
pub record HasSinkCause {T : Type 0} (before now : ℕ) (result : Result T SinkEnd) : Type 0 where
  pub later : before ≤ now
  pub failed : IsErrOf result Failed → Rose before now
  pub ok : OnOk result (now ≡ before)
  pub memory : IsErrOf result OutOfMemory → now ≡ before
