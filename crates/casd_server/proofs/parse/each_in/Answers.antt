use Rattle.std.proofs.Common.{sym, ◌∙◌}
use Rattle.casd_server.specs.Cut.{pieces_of}
use Rattle.casd_server.specs.Record.{each_of}
use Rattle.casd_server.proofs.Messages.{goes_on, ends, is_done, is_not_done}
use Rattle.casd_server.proofs.parse.each_in.Goals as goal

pub returns-in_default-2 : goal.returns-in_default-2
returns-in_default-2 c =
    ends c.pieces.messages.items c.pieces.rest.now (c.in-Some.piece.now, c.in-Some.after.now) (each_of (pieces_of 44 c.args.text.now)) (sym c.in-Some.ensures) (sym c.in_ok-message.ensures ∙ c.in_default-2.is) c.pieces.invariant

pub pieces-preserved : goal.pieces-preserved
pieces-preserved c =
    rw c.in_ok-push.ensures.items (goes_on c.pieces.messages.items c.pieces.rest.now (c.in-Some.piece.now, c.in-Some.after.now) c.in-Some-2.message (each_of (pieces_of 44 c.args.text.now)) (sym c.in-Some.ensures) (sym c.in_ok-message.ensures ∙ c.in-Some-2.is) c.pieces.invariant)

pub returns-in_default-3 : goal.returns-in_default-3
returns-in_default-3 c =
    is_not_done c.pieces.messages.items c.pieces.rest.now (each_of (pieces_of 44 c.args.text.now)) (sym c.in_default.ensures) (sym c.in_ok-message-2.ensures ∙ c.in_default-3.is) c.pieces.invariant

pub returns : goal.returns
returns c =
    rw c.in_ok-push-2.ensures.items (is_done c.pieces.messages.items c.pieces.rest.now c.in-Some-3.message (each_of (pieces_of 44 c.args.text.now)) (sym c.in_default.ensures) (sym c.in_ok-message-2.ensures ∙ c.in-Some-3.is) c.pieces.invariant)
