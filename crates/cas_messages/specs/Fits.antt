-- The values that fields can have: numbers in their range, texts in UTF-8, digests, and contents of less than 2^64 bytes.
use Rattle.std.specs.Prelude.{◌≡◌, ◌<◌, ◌^◌, ℕ, true, List, length, FitsSigned, Option, Some, None}
use Rattle.std.specs.Int.{w32, w64}
use Rattle.std.specs.List.{AllByRecursion}
use Rattle.std.specs.Str.{is_utf8}
use Rattle.digest_types.specs.Name.{HashAndSize}
use Rattle.digest_types.specs.Digest.{IsDigest}
use Rattle.cas_messages.specs.Table.{Kind, int32, int64, bool, text, bytes, digest, optional_digest, int32_list, text_list, bytes_list, digest_list, Of, Table, end, field, message, message_list, Value}
use Rattle.cas_messages.specs.Spelling.{spelled, packed_content}

-- a content that a field can have
abbrev pub Short : List ℕ → Type 0
Short b = length b < 2 ^ 64

abbrev pub IsText : List ℕ → Type 0
IsText b = (is_utf8 b ≡ true) × Short b

abbrev pub IsOptional : Option HashAndSize → Type 0
IsOptional None = Unit {0}
IsOptional (Some d) = IsDigest d

-- a value of a kind
abbrev pub FitsKind : (kind : Kind) → Of kind → Type 0
FitsKind int32 z = FitsSigned w32 z
FitsKind int64 z = FitsSigned w64 z
FitsKind bool b = Unit {0}
FitsKind text b = IsText b
FitsKind bytes b = Short b
FitsKind digest d = IsDigest d
FitsKind optional_digest d = IsOptional d
FitsKind int32_list zs = AllByRecursion (FitsSigned w32) zs × Short (packed_content zs)
FitsKind text_list bs = AllByRecursion IsText bs
FitsKind bytes_list bs = AllByRecursion Short bs
FitsKind digest_list ds = AllByRecursion IsDigest ds

-- a value of a message
abbrev pub Fits : (table : Table) → Value table → Type 0
Fits end v = Unit {0}
Fits (field number kind rows) v = FitsKind kind v.0 × Fits rows v.1
Fits (message number inner rows) v = (Short (spelled inner v.0) × Fits inner v.0) × Fits rows v.1
Fits (message_list number inner rows) v = AllByRecursion (λ m. Short (spelled inner m) × Fits inner m) v.0 × Fits rows v.1
