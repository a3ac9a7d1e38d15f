-- An expiry pass.
use Rattle.std.specs.Prelude.{◌-◌, ◌||◌, not, nat_le, ℕ, zero, suc, Bool, List, take, filter, length, if◌then◌else◌}
use Rattle.digest_types.specs.Name.{HashAndSize}
use Rattle.store_core.specs.declared.state.Row.{Row}
use Rattle.store_core.specs.State.{State, is_among, digests, total, sizes, used, roots, is_held}
use Rattle.store_core.specs.Reach.{blobs, is_reached}

-- whether some lease reaches the digest, or some owner holds it
abbrev pub is_guarded : State → HashAndSize → Bool
is_guarded s d = is_reached (blobs s.rows) (roots s.leases) d || is_held s.holds d

-- how many bytes the guarded rows have
abbrev pub guarded : State → ℕ
guarded s = sizes (filter (λ row. is_guarded s row.digest) s.rows)

-- the digests that aren't guarded, in the order of use
abbrev pub unguarded : State → List HashAndSize
unguarded s = filter (λ d. not (is_guarded s d)) (digests s.rows)

-- the least number below n that passes the test, or n where none does
unfoldable pub least : (ℕ → Bool) → ℕ → ℕ
least p zero = 0
least p (suc n) = if p 0 then 0 else suc (least (λ k. p (suc k)) n)

-- whether at most `target` of the bytes that are used are left without the first k blobs
abbrev pub frees : List HashAndSize → ℕ → ℕ → ℕ → Bool
frees ds bytes target k = nat_le (bytes - total (take k ds)) target

-- how many of the unguarded blobs a pass removes: the least k such that the bytes used less those of the first k are
-- at most the target, or all of them where there is no such k
unfoldable pub victims : List HashAndSize → ℕ → ℕ → ℕ
victims ds bytes target = least (frees ds bytes target) (length ds)

-- the digests that a pass removes: the first unguarded ones in the order of use
abbrev pub gone : State → ℕ → List HashAndSize
gone s target = take (victims (unguarded s) (used s) target) (unguarded s)

-- the rows without those of these digests
abbrev pub without : List HashAndSize → List Row → List Row
without ds rows = filter (λ row. not (is_among ds row.digest)) rows

-- the state after a pass: these rows are gone, and all else stays
abbrev pub pass : State → ℕ → State
pass s target = record s { rows = without (gone s target) s.rows }
