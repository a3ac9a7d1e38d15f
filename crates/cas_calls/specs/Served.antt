-- What became of a digest of BatchReadBlobs, as an answer.
use Rattle.std.specs.Prelude.{◌≡◌, ◌≢◌, ℕ, List}
use Rattle.digest_types.specs.Name.{HashAndSize}
use Rattle.digest_types.specs.Digest.{digest_of}
use Rattle.blob_store.specs.Shelves.{Shelved}
use Rattle.cas_messages.specs.declared.blobs.BatchReadBlobsResponseItem1.{BatchReadBlobsResponseItem1 as Answer}
use Rattle.blob_store.specs.declared.reading.ReadingEnd.{ReadingEnd}
use Rattle.blob_store.specs.declared.reading.ReadingEnd.TheVariants.{Failed as Fault, Damaged}
use Rattle.cas_calls.specs.declared.served.Served.{Served}
use Rattle.cas_calls.specs.declared.served.Served.TheVariants as served
use Rattle.cas_calls.specs.BatchRead.{read_answer, unread_answer}
use Rattle.cas_calls.specs.Plays.{Lapses}
use Rattle.cas_calls.specs.Statuses.{not_here, damaged, store_fault}

abbrev pub answer_of : HashAndSize → Served → Answer
answer_of d (served.Blob bytes) = read_answer d bytes
answer_of d served.Absent = unread_answer d (not_here d)
answer_of d (served.Damaged got) = unread_answer d (damaged d got)
answer_of d served.Failed = unread_answer d store_fault

-- a body that wasn't read to its end
abbrev pub told_by : ReadingEnd → Served
told_by Fault = served.Failed
told_by (Damaged want got) = served.Damaged got

-- What was told of the body of a digest: bytes that have it, or bytes that have another one, or a fault.
abbrev pub HasTold : HashAndSize → Shelved → Shelved → Served → Type 0
HasTold d x y (served.Blob bytes) = digest_of bytes ≡ d
HasTold d x y served.Absent = ⊥
HasTold d x y (served.Damaged got) = (got ≢ d) × (bytes : List ℕ) × (got ≡ digest_of bytes)
HasTold d x y served.Failed = Lapses x y
