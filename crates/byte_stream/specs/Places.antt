-- The range of a blob that a Read asks for (google.bytestream), and how far it has come.
use Rattle.std.specs.Prelude.{◌≡◌, ◌+◌, ◌≤◌, ◌==◌, min, nat_lt, pos, negsuc, ℕ, ℤ, List, Option, Some, None, Result, Ok, Err, if◌then◌else◌}
use Rattle.digest_types.specs.Name.{HashAndSize}
use Rattle.cas_messages.specs.declared.byte_stream.ReadRequest.{ReadRequest}
use Rattle.casd_base.specs.declared.status.Status.{Status}
use Rattle.blob_store.specs.Bodies.{max_piece}
use Rattle.byte_stream.specs.declared.place.Place.{Place}
use Rattle.byte_stream.specs.Names.{Named, read_named}
use Rattle.byte_stream.specs.Statuses.{bad_limit, outside}

-- a number that isn't negative
abbrev pub natural : ℤ → Option ℕ
natural (pos n) = Some n
natural (negsuc n) = None

-- where a range ends: a limit of 0 is none
abbrev pub stop_of : ℕ → ℕ → ℕ → ℕ
stop_of from limit size = if limit == 0 then size else min (from + limit) size

-- the range begins within the blob or at its end
abbrev pub ranged : HashAndSize → ℕ → Option ℕ → Result Place Status
ranged d limit None = Err outside
ranged d limit (Some from) = if nat_lt d.size from then Err outside else Ok (record { digest = d; read = 0; next = from; stop = stop_of from limit d.size })

abbrev pub limited : HashAndSize → Option ℕ → Option ℕ → Result Place Status
limited d None from = Err bad_limit
limited d (Some limit) from = ranged d limit from

abbrev pub placed : Named → ReadRequest → Result Place Status
placed (Err status) r = Err status
placed (Ok d) r = limited d (natural r.read_limit) (natural r.read_offset)

-- where a Read begins: the name is looked at first, then the limit, then the offset
abbrev pub place_of : ReadRequest → Result Place Status
place_of r = placed (read_named r.resource_name) r

-- the range lies within the blob
pub record IsRange (p : Place) : Type 0 where
  pub from : p.next ≤ p.stop
  pub within : p.stop ≤ p.digest.size

-- the end of the next piece: it has as many bytes as a piece may have, or the last ones of the range
abbrev pub piece_end : Place → ℕ
piece_end p = min (p.next + max_piece) p.stop
