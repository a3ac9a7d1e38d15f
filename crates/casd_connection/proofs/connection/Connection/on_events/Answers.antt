use Rattle.std.proofs.Common.{◌+◌, ◌^◌, [], refl, ap, ◌∙◌, arith}
use Rattle.grpc_calls.specs.Calls.{Calls}
use Rattle.casd_connection.specs.Steps.{at}
use Rattle.casd_connection.proofs.CourseLaws.{moves_none}
use Rattle.casd_connection.proofs.TurnLaws.{always_err, moved_turned, turned_joined, turned_broken, hands_turned, hands_broken}
use Rattle.casd_connection.proofs.connection.Connection.on_events.Goals as goal

pub events-init : goal.events-init
events-init g c = record {
  turns = 0;
  turned = moved_turned (g.D.Door.view c.args.door.now) (g.K.Shelf.shelved c.args.shelf.now) 0 (at c.args.self.now.calls c.args.self.now.live.items c.args.self.now.over []) (at c.args.self.now.calls c.args.self.now.live.items c.args.self.now.over []) c.args.self.now.calls.session.output c.args.self.now.calls.session.output c.requires.is_in (c.left-turns.ensures.seated c.requires.is_in) (moves_none (at c.args.self.now.calls c.args.self.now.live.items c.args.self.now.over []) c.args.self.now.calls.session.output);
  serving = c.requires.serving;
  reader = refl;
  is_in = c.requires.is_in;
  left = c.requires.turns;
}

pub events-preserved : goal.events-preserved
events-preserved g c =
    let inv = c.events.invariant in
    let turn = c.in_ok-on_event.ensures.ok in
    record {
      turns = inv.turns + 2 ^ 22;
      turned = turned_joined (g.D.Door.view c.args.door.now) (g.D.Door.view c.events.door) (g.D.Door.view c.on_event.new.door) (g.K.Shelf.shelved c.args.shelf.now) (g.K.Shelf.shelved c.events.shelf) (g.K.Shelf.shelved c.on_event.new.shelf) inv.turns (2 ^ 22) (at c.args.self.now.calls c.args.self.now.live.items c.args.self.now.over []) (at c.events.self.calls c.events.self.live.items c.events.self.over []) (at c.on_event.new.self.calls c.on_event.new.self.live.items c.on_event.new.self.over []) c.args.self.now.calls.session.output c.events.self.calls.session.output c.on_event.new.self.calls.session.output inv.turned
          (hands_turned c.in-Some.event c.take_event.new.self.pending c.take_event.new.self c.on_event.new.self.calls c.events.self.calls c.events.self.live.items c.on_event.new.self.live.items c.events.self.over c.on_event.new.self.over (g.D.Door.view c.events.door) (g.D.Door.view c.on_event.new.door) (g.K.Shelf.shelved c.events.shelf) (g.K.Shelf.shelved c.on_event.new.shelf) (2 ^ 22) c.in-Some.ensures.some c.in-Some.ensures.rest turn);
      serving = c.in_ok-on_event.ensures.kept.serving;
      reader = c.in_ok-on_event.ensures.kept.reader ∙ ap (λ (m : Calls). m.reader) c.in-Some.ensures.rest ∙ inv.reader;
      is_in = turn.does.entries.is_in;
      left = omega (arith, turn.does.entries.used, c.left.ensures.left, c.if-left-lt-TURNS.false);
    }

pub returns-in_err-on_event-clause-err : goal.returns-in_err-on_event-clause-err
returns-in_err-on_event-clause-err g c =
    always_err c.from_residual.result (
      c.events.invariant.turns + 2 ^ 22,
      turned_broken (g.D.Door.view c.args.door.now) (g.D.Door.view c.events.door) (g.D.Door.view c.on_event.new.door) (g.K.Shelf.shelved c.args.shelf.now) (g.K.Shelf.shelved c.events.shelf) (g.K.Shelf.shelved c.on_event.new.shelf) c.events.invariant.turns (2 ^ 22) (at c.args.self.now.calls c.args.self.now.live.items c.args.self.now.over []) (at c.events.self.calls c.events.self.live.items c.events.self.over []) c.args.self.now.calls.session.output c.events.self.calls.session.output c.events.invariant.turned
          (hands_broken c.in-Some.event c.take_event.new.self.pending c.take_event.new.self c.events.self.calls c.events.self.live.items c.events.self.over (g.D.Door.view c.events.door) (g.D.Door.view c.on_event.new.door) (g.K.Shelf.shelved c.events.shelf) (g.K.Shelf.shelved c.on_event.new.shelf) (2 ^ 22) c.in-Some.ensures.some c.in-Some.ensures.rest c.in_err-on_event.ensures.err),
    )
