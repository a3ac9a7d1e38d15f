use Rattle.std.proofs.Common.{arith, append_assoc}
use Rattle.std.proofs.lemmas.Int.{to_z-of_z}
use Rattle.std.proofs.lemmas.Grind.{common_steps}
use Rattle.cas_messages.specs.Spelling.{spelled}
use Rattle.cas_messages.proofs.blobs.BatchReadBlobsResponseItem1Message.write_fields.Goals as goal

-- src/blobs.rt:252:5
pub returns-clause-wrote : goal.returns-clause-wrote
unfolding spelled
returns-clause-wrote c = grind (arith, to_z-of_z, append_assoc, common_steps, c.in_ok-put_int32.ensures, c.in_ok-put_message.ensures, c.in_ok-put_bytes.ensures, c.in_ok-put_digest.ensures)
