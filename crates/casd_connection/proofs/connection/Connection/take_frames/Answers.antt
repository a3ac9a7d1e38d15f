use Rattle.std.proofs.Common.{◌≡◌, Bool, true, false, Result, Ok, Err, refl, subst, ◌∙◌}
use Rattle.casd_connection.specs.declared.frames.Stop.{Stop}
use Rattle.casd_connection.specs.declared.frames.Stop.TheVariants as stops
use Rattle.casd_connection.specs.Steps.{Stops}
use Rattle.casd_connection.proofs.LoopLaws.{runs_none, runs_more, runs_all, runs_into, runs_out}
use Rattle.casd_connection.proofs.connection.Connection.take_frames.Goals as goal

pub frames-init : goal.frames-init
frames-init g c = record {
  runs = runs_none (g.D.Door.view c.args.door.now) (g.K.Shelf.shelved c.args.shelf.now) c.args.self.now.calls c.args.self.now.live.items c.args.self.now.over c.requires.is_in (c.left-turns.ensures.seated c.requires.is_in) c.requires.serving c.requires.empty;
  is_in = c.requires.is_in;
  left = c.requires.turns;
  fed = refl;
}

pub frames-preserved : goal.frames-preserved
frames-preserved g c =
    let took : Stops (Ok true) (g.D.Door.view c.frames.door) (g.D.Door.view c.on_frame.new.door) (g.K.Shelf.shelved c.frames.shelf) (g.K.Shelf.shelved c.on_frame.new.shelf) c.frames.self.calls c.on_frame.new.self.calls c.frames.self.live.items c.on_frame.new.self.live.items c.frames.self.over c.on_frame.new.self.over = subst (λ (b : Bool). Stops (Ok b) (g.D.Door.view c.frames.door) (g.D.Door.view c.on_frame.new.door) (g.K.Shelf.shelved c.frames.shelf) (g.K.Shelf.shelved c.on_frame.new.shelf) c.frames.self.calls c.on_frame.new.self.calls c.frames.self.live.items c.on_frame.new.self.live.items c.frames.self.over c.on_frame.new.self.over) c.in-Ok-true.field-0-test c.in-Ok-true.ensures.stops in
    record {
      runs = runs_more (g.D.Door.view c.args.door.now) (g.D.Door.view c.frames.door) (g.D.Door.view c.on_frame.new.door) (g.K.Shelf.shelved c.args.shelf.now) (g.K.Shelf.shelved c.frames.shelf) (g.K.Shelf.shelved c.on_frame.new.shelf) took.0.0 c.args.self.now.calls c.frames.self.calls c.on_frame.new.self.calls c.args.self.now.live.items c.frames.self.live.items c.on_frame.new.self.live.items c.args.self.now.over c.frames.self.over c.on_frame.new.self.over c.frames.invariant.runs took.0.1 took.1 took.2;
      is_in = c.on_frame.ensures.is_in;
      left = c.on_frame.ensures.turns;
      fed = c.in-Ok-true.ensures.fed ∙ c.frames.invariant.fed;
    }

pub returns-in-Ok-false-clause-takes : goal.returns-in-Ok-false-clause-takes
returns-in-Ok-false-clause-takes g c =
    let none : Stops (Ok false) (g.D.Door.view c.frames.door) (g.D.Door.view c.on_frame.new.door) (g.K.Shelf.shelved c.frames.shelf) (g.K.Shelf.shelved c.on_frame.new.shelf) c.frames.self.calls c.on_frame.new.self.calls c.frames.self.live.items c.on_frame.new.self.live.items c.frames.self.over c.on_frame.new.self.over = subst (λ (b : Bool). Stops (Ok b) (g.D.Door.view c.frames.door) (g.D.Door.view c.on_frame.new.door) (g.K.Shelf.shelved c.frames.shelf) (g.K.Shelf.shelved c.on_frame.new.shelf) c.frames.self.calls c.on_frame.new.self.calls c.frames.self.live.items c.on_frame.new.self.live.items c.frames.self.over c.on_frame.new.self.over) c.in-Ok-false.field-0-test c.in-Ok-false.ensures.stops in
    runs_all (g.D.Door.view c.args.door.now) (g.D.Door.view c.frames.door) (g.D.Door.view c.on_frame.new.door) (g.K.Shelf.shelved c.args.shelf.now) (g.K.Shelf.shelved c.frames.shelf) (g.K.Shelf.shelved c.on_frame.new.shelf) c.args.self.now.calls c.frames.self.calls c.on_frame.new.self.calls c.args.self.now.live.items c.frames.self.live.items c.on_frame.new.self.live.items c.args.self.now.over c.frames.self.over c.on_frame.new.self.over c.frames.invariant.runs none.0 none.1 none.2 none.3

pub returns-in-Err-Offence-clause-takes : goal.returns-in-Err-Offence-clause-takes
returns-in-Err-Offence-clause-takes g c =
    let offends : Stops (Err (stops.Offence c.in-Err-Offence.code c.in-Err-Offence.at)) (g.D.Door.view c.frames.door) (g.D.Door.view c.on_frame.new.door) (g.K.Shelf.shelved c.frames.shelf) (g.K.Shelf.shelved c.on_frame.new.shelf) c.frames.self.calls c.on_frame.new.self.calls c.frames.self.live.items c.on_frame.new.self.live.items c.frames.self.over c.on_frame.new.self.over = subst (λ (s : Stop). Stops (Err s) (g.D.Door.view c.frames.door) (g.D.Door.view c.on_frame.new.door) (g.K.Shelf.shelved c.frames.shelf) (g.K.Shelf.shelved c.on_frame.new.shelf) c.frames.self.calls c.on_frame.new.self.calls c.frames.self.live.items c.on_frame.new.self.live.items c.frames.self.over c.on_frame.new.self.over) c.in-Err-Offence.field-0-is c.in-Err-Offence.ensures.stops in
    runs_into (g.D.Door.view c.args.door.now) (g.D.Door.view c.frames.door) (g.D.Door.view c.on_frame.new.door) (g.K.Shelf.shelved c.args.shelf.now) (g.K.Shelf.shelved c.frames.shelf) (g.K.Shelf.shelved c.on_frame.new.shelf) c.args.self.now.calls c.frames.self.calls c.args.self.now.live.items c.frames.self.live.items c.args.self.now.over c.frames.self.over c.in-Err-Offence.code c.in-Err-Offence.at c.on_frame.new.self.calls.session.output c.frames.invariant.runs offends.0 offends.1

pub returns-in-Err-OutOfMemory-clause-takes : goal.returns-in-Err-OutOfMemory-clause-takes
returns-in-Err-OutOfMemory-clause-takes g c =
    let out : Stops (Err stops.OutOfMemory) (g.D.Door.view c.frames.door) (g.D.Door.view c.on_frame.new.door) (g.K.Shelf.shelved c.frames.shelf) (g.K.Shelf.shelved c.on_frame.new.shelf) c.frames.self.calls c.on_frame.new.self.calls c.frames.self.live.items c.on_frame.new.self.live.items c.frames.self.over c.on_frame.new.self.over = subst (λ (s : Stop). Stops (Err s) (g.D.Door.view c.frames.door) (g.D.Door.view c.on_frame.new.door) (g.K.Shelf.shelved c.frames.shelf) (g.K.Shelf.shelved c.on_frame.new.shelf) c.frames.self.calls c.on_frame.new.self.calls c.frames.self.live.items c.on_frame.new.self.live.items c.frames.self.over c.on_frame.new.self.over) c.in-Err-OutOfMemory.field-0-is c.in-Err-OutOfMemory.ensures.stops in
    runs_out (g.D.Door.view c.args.door.now) (g.D.Door.view c.frames.door) (g.D.Door.view c.on_frame.new.door) (g.K.Shelf.shelved c.args.shelf.now) (g.K.Shelf.shelved c.frames.shelf) (g.K.Shelf.shelved c.on_frame.new.shelf) out.0 c.args.self.now.calls c.frames.self.calls c.args.self.now.live.items c.frames.self.live.items c.args.self.now.over c.frames.self.over c.frames.invariant.runs out.1
