-- Reading the text of a digest, with the first fault that is met.
use Rattle.std.specs.Prelude.{◌^◌, ◌+◌, ◌-◌, ◌*◌, ◌==◌, ◌&&◌, not, nat_lt, nat_le, ℕ, Bool, false, List, [], ◌∷◌, Option, Some, None, Result, Ok, Err, if◌then◌else◌}
use Rattle.std.specs.List.{list_all}
use Rattle.digest_types.specs.declared.error.DigestError.{DigestError}
use Rattle.digest_types.specs.declared.error.DigestError.TheVariants as errors
use Rattle.digest_types.specs.Name.{HashAndSize}
use Rattle.digest_types.specs.Reading.{hash_of}

-- what stands before the first slash, or the whole text
abbrev pub before_slash : List ℕ → List ℕ
before_slash [] = []
before_slash (c ∷ cs) = if c == 47 then [] else c ∷ before_slash cs

-- what follows the first slash, if there is one
abbrev pub after_slash : List ℕ → Option (List ℕ)
after_slash [] = None
after_slash (c ∷ cs) = if c == 47 then Some cs else after_slash cs

-- a decimal digit
abbrev pub is_digit : ℕ → Bool
is_digit c = nat_le 48 c && nat_le c 57

-- a decimal number without sign and leading zeros
abbrev pub is_decimal : List ℕ → Bool
is_decimal [] = false
is_decimal (c ∷ []) = is_digit c
is_decimal (c ∷ d ∷ rest) = is_digit c && not (c == 48) && list_all is_digit (d ∷ rest)

-- the number that the digits stand for, after others that stand for `front`
unfoldable pub value_of : ℕ → List ℕ → ℕ
value_of front [] = front
value_of front (c ∷ rest) = value_of (10 * front + (c - 48)) rest

-- a decimal number of at most 2^63 - 1 without sign and leading zeros
unfoldable pub size_of : List ℕ → Option ℕ
size_of text = if is_decimal text && nat_lt (value_of 0 text) (2 ^ 63) then Some (value_of 0 text) else None

-- the digest of a hash and of a size, if there is one
abbrev pub sized : List ℕ → Option ℕ → Result HashAndSize DigestError
sized hash None = Err errors.BadSize
sized hash (Some size) = Ok (record { hash = hash; size = size })

abbrev pub size_in : Option (List ℕ) → Option ℕ
size_in None = None
size_in (Some text) = size_of text

abbrev pub hashed : Option (List ℕ) → List ℕ → Result HashAndSize DigestError
hashed None text = Err errors.BadHash
hashed (Some hash) text = sized hash (size_in (after_slash text))

-- the digest that the text spells
unfoldable pub parsed : List ℕ → Result HashAndSize DigestError
parsed text = hashed (hash_of (before_slash text)) text
