-- What became of an item of BatchUpdateBlobs, as a status.
use Rattle.cas_messages.specs.declared.blobs.BatchUpdateBlobsRequestItem2.{BatchUpdateBlobsRequestItem2 as Item}
use Rattle.casd_base.specs.declared.status.Status.{Status}
use Rattle.blob_store.specs.Calls.{put_reply}
use Rattle.cas_calls.specs.declared.put.Judged.{Judged}
use Rattle.cas_calls.specs.declared.put.Judged.TheVariants as judged
use Rattle.cas_calls.specs.Statuses.{mismatch, put_status, store_fault, compressed}

abbrev pub status_of : Item → Judged → Status
status_of item (judged.Put reply) = put_status (put_reply reply)
status_of item (judged.Other got) = mismatch item.digest got
status_of item judged.Failed = store_fault
status_of item judged.Compressed = compressed
