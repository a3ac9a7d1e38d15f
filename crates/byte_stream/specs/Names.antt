-- The resource names of ByteStream (Remote Execution API v2): the segments between the slashes of a name, and the digest that
-- they name.
use Rattle.std.specs.Prelude.{◌==◌, codes, ℕ, Bool, true, false, is_some, List, [], ◌∷◌, ◌++◌, Option, Some, None, Result, Ok, Err, if◌then◌else◌}
use Rattle.std.specs.List.{slice_split}
use Rattle.std.specs.Str.{bytes_eq}
use Rattle.casd_base.specs.declared.status.Status.{Status}
use Rattle.cas_calls.specs.Statuses.{compressed}
use Rattle.digest_types.specs.Name.{HashAndSize}
use Rattle.digest_types.specs.Parsing.{parsed}
use Rattle.digest_types.specs.declared.error.DigestError.{DigestError}
use Rattle.uuid.specs.Text as uuid
use Rattle.byte_stream.specs.Statuses.{bad_name}

-- what a name gives
abbrev pub Named : Type 0
Named = Result HashAndSize Status

-- what stands before, between and behind the slashes
abbrev pub segments : List ℕ → List (List ℕ)
segments name = slice_split (λ c. c == 47) name

-- the segments behind a slash, if there is one
abbrev pub segments_behind : Option (List ℕ) → List (List ℕ)
segments_behind None = []
segments_behind (Some text) = segments text

-- the first two segments, with the slash between them, and whether others stand behind them
abbrev pub two_in : List (List ℕ) → Option (List ℕ × Bool)
two_in (first ∷ second ∷ []) = Some (first ++ 47 ∷ second, false)
two_in (first ∷ second ∷ third ∷ rest) = Some (first ++ 47 ∷ second, true)
two_in _ = None

-- the digest that was read
abbrev pub named : Result HashAndSize DigestError → Named
named (Ok d) = Ok d
named (Err e) = Err bad_name

-- the digest of a hash and a size
abbrev pub digest_in : List ℕ → List ℕ → Named
digest_in hash size = named (parsed (hash ++ 47 ∷ size))

-- ---- names to read from

-- behind `blobs` stand a hash and a size, and nothing else
abbrev pub whole_blob : List (List ℕ) → Named
whole_blob (hash ∷ size ∷ []) = digest_in hash size
whole_blob _ = Err bad_name

-- the name begins, behind the name of an instance, at the first `blobs` or `compressed-blobs`
abbrev pub read_in : List (List ℕ) → Named
read_in [] = Err bad_name
read_in (s ∷ rest) = if bytes_eq s (codes "blobs") then whole_blob rest else if bytes_eq s (codes "compressed-blobs") then Err compressed else read_in rest

-- the blob that is to be read
abbrev pub read_named : List ℕ → Named
read_named name = read_in (segments name)

-- ---- names to write to

-- behind `blobs` stand a hash and a size, and then anything
abbrev pub first_blob : List (List ℕ) → Named
first_blob (hash ∷ size ∷ rest) = digest_in hash size
first_blob _ = Err bad_name

-- behind the number of an upload
abbrev pub kind_in : List (List ℕ) → Named
kind_in [] = Err bad_name
kind_in (s ∷ rest) = if bytes_eq s (codes "blobs") then first_blob rest else if bytes_eq s (codes "compressed-blobs") then Err compressed else Err bad_name

-- behind `uploads` stands a UUID
abbrev pub upload_in : List (List ℕ) → Named
upload_in [] = Err bad_name
upload_in (s ∷ rest) = if is_some (uuid.parsed s) then kind_in rest else Err bad_name

-- the name begins, behind the name of an instance, at the first `uploads`
abbrev pub write_in : List (List ℕ) → Named
write_in [] = Err bad_name
write_in (s ∷ rest) = if bytes_eq s (codes "uploads") then upload_in rest else write_in rest

-- the blob that is to be written
abbrev pub write_named : List ℕ → Named
write_named name = write_in (segments name)
