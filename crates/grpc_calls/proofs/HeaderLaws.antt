-- Headers, and numbers in them.
use Rattle.std.proofs.Common.{◌≡◌, ℕ, ◌+◌, ◌-◌, ◌*◌, ◌^◌, ◌<◌, ◌≤◌, min, Bool, true, false, List, [], ◌∷◌, length, drop, drop-cons, add-one, arith, refl, sym, ap, ◌∙◌, inl, inr}
use Rattle.std.specs.Prelude.{◌==◌, codes, slice_index, if◌then◌else◌}
use Rattle.std.proofs.lemmas.Bool.{ne_eqb, cases_lt}
use Rattle.std.proofs.lemmas.Fmt.{length-decimal-le}
use Rattle.std.proofs.lemmas.List.Sums.{sum_by-cons}
use Rattle.std.specs.Fmt.{decimal}
use Rattle.casd_base.specs.declared.code.Code.TheVariants as code
use Rattle.casd_base.specs.Code.{number_of}
use Rattle.casd_base.specs.declared.code.Code.{Code}
use Rattle.casd_base.specs.declared.status.Status.{Status}
use Rattle.hpack_tables.specs.declared.header.Header.{Header}
use Rattle.hpack_tables.specs.Table.{list_size, size_of, entry_of}
use Rattle.h2_session.specs.Codes.{max_list}
use Rattle.grpc_calls.specs.Codes.{code_of}
use Rattle.grpc_calls.specs.Headers.{number_on, message_header, trailers}
use Rattle.grpc_calls.proofs.EscapeLaws.{escaped_short}

on_large : (m : ℕ) (ds : List ℕ) → 17 ≤ m → 17 ≤ number_on m ds
on_large m [] l = l
on_large m (d ∷ ds) l = on_large (m * 10 + (d - 48)) ds (omega arith)

code_large : (n : ℕ) → 17 ≤ n → code_of n ≡ code.Unknown
code_large n l =
    rw (
      ne_eqb n 0 (λ e. omega arith),
      ne_eqb n 1 (λ e. omega arith),
      ne_eqb n 2 (λ e. omega arith),
      ne_eqb n 3 (λ e. omega arith),
      ne_eqb n 4 (λ e. omega arith),
      ne_eqb n 5 (λ e. omega arith),
      ne_eqb n 6 (λ e. omega arith),
      ne_eqb n 7 (λ e. omega arith),
      ne_eqb n 8 (λ e. omega arith),
      ne_eqb n 9 (λ e. omega arith),
      ne_eqb n 10 (λ e. omega arith),
      ne_eqb n 11 (λ e. omega arith),
      ne_eqb n 12 (λ e. omega arith),
      ne_eqb n 13 (λ e. omega arith),
      ne_eqb n 14 (λ e. omega arith),
      ne_eqb n 15 (λ e. omega arith),
      ne_eqb n 16 (λ e. omega arith),
    ) refl

-- a number that is cut is some number above 16, as it was
pub code_capped : (m : ℕ) (ds : List ℕ) → code_of (number_on (min m 1000) ds) ≡ code_of (number_on m ds)
code_capped m ds = elim (cases_lt m 1000) [
  | inl l ↦ ap (λ (n : ℕ). code_of (number_on n ds)) (omega arith)
  | inr l ↦ code_large (number_on (min m 1000) ds) (on_large (min m 1000) ds (omega arith)) ∙ sym (code_large (number_on m ds) (on_large m ds (omega arith)))
]

-- one more digit
pub digit_more : (xs : List ℕ) (at number less now : ℕ) (t : Code) → at < length xs → less ≡ slice_index xs at - 48 → now ≡ min (number * 10 + less) 1000 → code_of (number_on number (drop at xs)) ≡ t → code_of (number_on now (drop (at + 1) xs)) ≡ t
digit_more xs at number less now t l e f h =
    let front : drop at xs ≡ slice_index xs at ∷ drop (at + 1) xs = rw (add-one, drop-cons xs at 0) refl in
    let more : code_of (number_on (number * 10 + (slice_index xs at - 48)) (drop (at + 1) xs)) ≡ t = ap (λ (ys : List ℕ). code_of (number_on number ys)) (sym front) ∙ h in
    ap (λ (n : ℕ). code_of (number_on n (drop (at + 1) xs))) f
    ∙ (code_capped (number * 10 + less) (drop (at + 1) xs) ∙ (ap (λ (k : ℕ). code_of (number_on (number * 10 + k) (drop (at + 1) xs))) e ∙ more))

-- ---- sizes

code_small : (x : Code) → number_of x < 10 ^ 2
code_small code.Ok = omega arith
code_small code.Cancelled = omega arith
code_small code.Unknown = omega arith
code_small code.InvalidArgument = omega arith
code_small code.DeadlineExceeded = omega arith
code_small code.NotFound = omega arith
code_small code.AlreadyExists = omega arith
code_small code.PermissionDenied = omega arith
code_small code.ResourceExhausted = omega arith
code_small code.FailedPrecondition = omega arith
code_small code.Aborted = omega arith
code_small code.OutOfRange = omega arith
code_small code.Unimplemented = omega arith
code_small code.Internal = omega arith
code_small code.Unavailable = omega arith
code_small code.DataLoss = omega arith
code_small code.Unauthenticated = omega arith

text_small : (text : List ℕ) → length text ≤ 4096 → list_size (message_header text) ≤ 12332
text_small [] l = omega arith
text_small (b ∷ bs) l = let s = escaped_short (b ∷ bs) in omega (arith, s, l)

headers_sum : (h : Header) (hs : List Header) (m : ℕ) → length h.name + length h.value + 32 ≤ 45 → list_size hs ≤ m → list_size (h ∷ hs) ≤ 45 + m
headers_sum h hs m a b = omega (arith, sum_by-cons size_of h hs, a, b)

-- trailers are within the limit of header lists
pub trailers_small : (status : Status) → length status.text ≤ 4096 → list_size (trailers status) ≤ max_list
unfolding trailers
trailers_small status l =
    let n = number_of status.code in
    let c = code_small status.code in
    let d = length-decimal-le 2 n (omega arith) c (omega (arith, c)) in
    let all = headers_sum (entry_of (codes "grpc-status") (decimal n)) (message_header status.text) 12332 (omega (arith, d)) (text_small status.text l) in
    omega (arith, all)
