-- The messages so far, then those of the rest, are all.
use Rattle.std.proofs.Common.{◌≡◌, length}
use Rattle.casd_server.specs.Cut.{pieces_of}
use Rattle.casd_server.specs.Record.{each_of}
use Rattle.casd_server.proofs.Messages.{behind}
use Rattle.casd_server.proofs.parse.each_in.Given as goal

abbrev pub invariant-pieces : goal.invariant-pieces
invariant-pieces l = behind l.messages.items (each_of (pieces_of 44 l.rest)) ≡ each_of (pieces_of 44 l.fn.text)

abbrev pub decreases-pieces : goal.decreases-pieces
decreases-pieces l = length l.rest
