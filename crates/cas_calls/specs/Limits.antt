-- What the calls on many blobs take: SHA-256, or no digest function named; no compressor; and a batch within its limit.
use Rattle.std.specs.Prelude.{◌==◌, nat_le, ℕ, ℤ, Bool, Result, Ok, Err}
use Rattle.std.specs.Int.{w32, cast_unsigned}

-- how many bytes of data a batch has at most
abbrev pub max_batch : ℕ
max_batch = 3_670_016

-- UNKNOWN and SHA256 of the enum DigestFunction are 0 and 1
abbrev pub is_sha256 : ℤ → Bool
is_sha256 digest_function = nat_le (cast_unsigned w32 digest_function) 1

-- IDENTITY of the enum Compressor is 0
abbrev pub is_plain : ℤ → Bool
is_plain compressor = cast_unsigned w32 compressor == 0

-- what was read, by one part of it
abbrev pub read_as : {A B E : Type 0} → (A → B) → Result A E → Result B E
read_as f (Ok a) = Ok (f a)
read_as f (Err e) = Err e
