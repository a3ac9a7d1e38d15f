-- The statuses that calls answer, with their texts.
use Rattle.std.specs.Prelude.{codes, pos, ℕ, List, [], ◌++◌}
use Rattle.std.specs.Fmt.{decimal}
use Rattle.digest_types.specs.Name.{HashAndSize}
use Rattle.digest_types.specs.Digest.{printed}
use Rattle.cas_messages.specs.declared.error.MessageError.{MessageError}
use Rattle.cas_messages.specs.declared.error.MessageError.TheVariants as faults
use Rattle.cas_messages.specs.declared.status.RpcStatus.{RpcStatus}
use Rattle.casd_base.specs.Code.{number_of}
use Rattle.casd_base.specs.declared.code.Code.TheVariants as code
use Rattle.casd_base.specs.declared.status.Status.{Status}
use Rattle.store_core.specs.declared.event.Reply.{Reply}
use Rattle.store_core.specs.declared.event.Reply.TheVariants as replies

-- a status in a message
abbrev pub rpc_of : Status → RpcStatus
rpc_of s = record { code = pos (number_of s.code); message = s.text }

abbrev pub fine : Status
fine = record { code = code.Ok; text = [] }

abbrev pub no_message : Status
no_message = record { code = code.InvalidArgument; text = codes "no message" }

abbrev pub many_messages : Status
many_messages = record { code = code.InvalidArgument; text = codes "more than one message" }

abbrev pub not_built : Status
not_built = record { code = code.Unimplemented; text = codes "not built" }

-- another digest function than SHA-256 is named
abbrev pub other_function : Status
other_function = record { code = code.Unimplemented; text = codes "digest function" }

abbrev pub compressed : Status
compressed = record { code = code.Unimplemented; text = codes "compressor" }

abbrev pub batch_too_large : Status
batch_too_large = record { code = code.InvalidArgument; text = codes "batch too large" }

abbrev pub out_of_memory : Status
out_of_memory = record { code = code.Aborted; text = codes "out of memory" }

abbrev pub store_fault : Status
store_fault = record { code = code.Internal; text = codes "store fault" }

-- the status of a request that was not read
abbrev pub fault_status : MessageError → Status
fault_status (faults.Wire field e) = record { code = code.InvalidArgument; text = codes "bad message" }
fault_status (faults.NotUtf8 field) = record { code = code.InvalidArgument; text = codes "bad message" }
fault_status (faults.BadDigest field index) = record { code = code.InvalidArgument; text = codes "bad digest" }
fault_status faults.OutOfMemory = out_of_memory

-- the status of bytes that have another digest than the declared one
abbrev pub mismatch : HashAndSize → HashAndSize → Status
mismatch want got = record {
  code = code.InvalidArgument;
  text = codes "want " ++ (printed want ++ (codes ", got " ++ printed got));
}

-- there is no sound blob of this digest
abbrev pub not_here : HashAndSize → Status
not_here d = record { code = code.NotFound; text = codes "not here " ++ printed d }

-- the bytes of a body have another digest than its own
abbrev pub damaged : HashAndSize → HashAndSize → Status
damaged want got = record {
  code = code.DataLoss;
  text = codes "want " ++ (printed want ++ (codes ", got " ++ printed got));
}

-- a reply that no call of this kind has
abbrev pub other_reply : Status
other_reply = record { code = code.Internal; text = [] }

-- The status of a put by its reply. The other replies never answer a put of an open owner.
unfoldable pub put_status : Reply → Status
put_status (replies.Stored removed used) = fine
put_status replies.Present = fine
put_status replies.Repaired = fine
put_status (replies.NoSpace guarded size high) = record {
  code = code.ResourceExhausted;
  text = codes "guarded " ++ (decimal guarded ++ (codes " plus " ++ (decimal size ++ (codes " above " ++ decimal high))));
}
put_status _ = other_reply
