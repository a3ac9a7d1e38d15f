-- The answers of a door's calls, by the replies.
use Rattle.std.specs.Prelude.{◌≡◌, ℕ, [], Option, Some, None, IfSome, Result, Ok, Err}
use Rattle.digest_types.specs.Name.{HashAndSize}
use Rattle.digest_types.specs.Digest.{digest_of}
use Rattle.store_core.specs.declared.event.Reply.{Reply}
use Rattle.store_core.specs.declared.event.Reply.TheVariants as replies
use Rattle.blob_store.specs.Bodies.{ReadingState, HasRead}
use Rattle.blob_store.specs.declared.door.PutReply.{PutReply}
use Rattle.blob_store.specs.declared.door.PutReply.TheVariants as puts

-- the reply that a put's answer stands for
abbrev pub put_reply : PutReply → Reply
put_reply (puts.Stored removed used) = replies.Stored removed used
put_reply puts.Present = replies.Present
put_reply puts.Repaired = replies.Repaired
put_reply (puts.NoSpace guarded size high) = replies.NoSpace guarded size high

-- a reply that a put may have
abbrev pub IsPutReply : Reply → Type 0
IsPutReply reply = (answer : PutReply) × (put_reply answer ≡ reply)

-- how many bodies a put gives up: its own where it isn't kept, and those of the rows that go
abbrev pub put_discards : {E : Type 0} → Result PutReply E → ℕ
put_discards (Ok (puts.Stored removed used)) = removed
put_discards (Ok puts.Present) = 1
put_discards (Ok puts.Repaired) = 1
put_discards (Ok (puts.NoSpace guarded size high)) = 1
put_discards (Err e) = 1

-- the reply that the answer to a read stands for
abbrev pub read_reply : Option ReadingState → Reply
read_reply None = replies.Absent
read_reply (Some reading) = replies.Found

-- A reading of this digest of which nothing was read. Where it tells its bytes, they have the digest.
pub record Begins (digest : HashAndSize) (reading : ReadingState) : Type 0 where
  pub want : reading.want ≡ digest
  pub going : reading.end ≡ None
  pub begun : HasRead reading []
  pub told : IfSome reading.told (λ bytes. digest_of bytes ≡ digest)
