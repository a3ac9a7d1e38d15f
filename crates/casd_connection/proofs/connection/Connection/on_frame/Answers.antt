use Rattle.std.proofs.Common.{◌≡◌, Bool, true, false, inl, inr, [], Result, Ok, Err, refl, subst, sym, ap, ◌∙◌}
use Rattle.h2_session.specs.declared.fault.ConnFault.{ConnFault}
use Rattle.h2_session.specs.declared.fault.ConnFault.TheVariants as faults
use Rattle.grpc_calls.specs.Calls.{GivesFrame}
use Rattle.casd_connection.specs.Steps.{Offended}
use Rattle.casd_connection.proofs.FrameLaws.{heard_moves, none_given, offended_by}
use Rattle.casd_connection.proofs.TurnLaws.{does_none}
use Rattle.casd_connection.proofs.LoopLaws.{framed_by, unframed_by, unframed_none}
use Rattle.casd_connection.proofs.connection.Connection.on_frame.Goals as goal

pub returns-in-Ok-clause-stops : goal.returns-in-Ok-clause-stops
returns-in-Ok-clause-stops g c =
    let read : GivesFrame c.args.self.now.calls c.read_frame.new.self (Ok true) = subst (λ (b : Bool). GivesFrame c.args.self.now.calls c.read_frame.new.self (Ok b)) c.in-Ok-true.field-0-test c.in-Ok-true.ensures.gives in
    let turn = c.in-Ok.ensures.ok in (
      (turn.0, framed_by (g.D.Door.view c.args.door.now) (g.D.Door.view c.on_events.new.door) (g.K.Shelf.shelved c.args.shelf.now) (g.K.Shelf.shelved c.on_events.new.shelf) turn.0 read.0 read.1 c.args.self.now.calls c.read_frame.new.self c.on_events.new.self.calls c.args.self.now.live.items c.on_events.new.self.live.items c.args.self.now.over c.on_events.new.self.over (heard_moves c.args.self.now.calls c.read_frame.new.self c.args.self.now.live.items c.args.self.now.over read.1 c.requires.empty read.2.hears) read.2 c.in-Ok.ensures.reader turn.1),
      c.in-Ok.ensures.serving,
      c.in-Ok.ensures.empty,
    )

pub returns-in-Err-clause-stops : goal.returns-in-Err-clause-stops
returns-in-Err-clause-stops g c =
    let read : GivesFrame c.args.self.now.calls c.read_frame.new.self (Ok true) = subst (λ (b : Bool). GivesFrame c.args.self.now.calls c.read_frame.new.self (Ok b)) c.in-Ok-true.field-0-test c.in-Ok-true.ensures.gives in
    let broken = c.in-Err.ensures.err in
    (broken.0, unframed_by (g.D.Door.view c.args.door.now) (g.D.Door.view c.on_events.new.door) (g.K.Shelf.shelved c.args.shelf.now) (g.K.Shelf.shelved c.on_events.new.shelf) broken.0 read.0 read.1 c.args.self.now.calls c.read_frame.new.self c.args.self.now.live.items c.args.self.now.over (heard_moves c.args.self.now.calls c.read_frame.new.self c.args.self.now.live.items c.args.self.now.over read.1 c.requires.empty read.2.hears) read.2 broken.1)

pub returns-in-Ok-false-clause-stops : goal.returns-in-Ok-false-clause-stops
returns-in-Ok-false-clause-stops g c =
    let none : GivesFrame c.args.self.now.calls c.read_frame.new.self (Ok false) = subst (λ (b : Bool). GivesFrame c.args.self.now.calls c.read_frame.new.self (Ok b)) c.in-Ok-false.field-0-test c.in-Ok-false.ensures.gives in
    (does_none (g.D.Door.view c.args.door.now) (g.K.Shelf.shelved c.args.shelf.now) 0 c.requires.is_in (c.left-turns.ensures.seated c.requires.is_in), none_given c.args.self.now.calls c.read_frame.new.self none, refl, refl)

pub returns-in-Err-Offence-clause-stops : goal.returns-in-Err-Offence-clause-stops
returns-in-Err-Offence-clause-stops g c =
    let gives : GivesFrame c.args.self.now.calls c.read_frame.new.self (Err (faults.Offence c.in-Err-Offence.code c.in-Err-Offence.at)) =
    subst (λ (f : ConnFault). GivesFrame c.args.self.now.calls c.read_frame.new.self (Err f)) c.in-Err-Offence.field-0-is c.in-Err-Offence.ensures.gives in
    (does_none (g.D.Door.view c.args.door.now) (g.K.Shelf.shelved c.args.shelf.now) 0 c.requires.is_in (c.left-turns.ensures.seated c.requires.is_in), offended_by c.args.self.now.calls c.read_frame.new.self c.in-Err-Offence.code c.in-Err-Offence.at gives)

pub returns-in-Err-OutOfMemory-clause-stops : goal.returns-in-Err-OutOfMemory-clause-stops
returns-in-Err-OutOfMemory-clause-stops g c = (0, unframed_none (g.D.Door.view c.args.door.now) (g.K.Shelf.shelved c.args.shelf.now) 0 c.args.self.now.calls c.args.self.now.live.items c.args.self.now.over c.requires.is_in (c.left-turns.ensures.seated c.requires.is_in))
