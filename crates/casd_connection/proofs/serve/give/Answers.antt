use Rattle.std.proofs.Common.{Option, subst, arith}
use Rattle.casd_connection.specs.declared.end.ConnEnd.{ConnEnd}
use Rattle.casd_connection.specs.Linked.{linked}
use Rattle.casd_connection.specs.Stands.{state, Flushes}
use Rattle.casd_connection.proofs.RunLaws.{gave_by, ready_given, give_spent, settle_out}
use Rattle.casd_connection.proofs.serve.give.Goals as goal

pub returns-in-Ok-clause-takes : goal.returns-in-Ok-clause-takes
returns-in-Ok-clause-takes g c = λ v x a k.
    gave_by c.flush.result v (g.D.Door.view c.args.door.now) (g.D.Door.view c.wake.new.door) x (g.K.Shelf.shelved c.args.shelf.now) (g.K.Shelf.shelved c.wake.new.shelf) a (linked (g.L.Link.left c.args.link.now) (g.L.Link.written c.args.link.now) (g.L.Link.read_faults c.args.link.now) (g.L.Link.write_faults c.args.link.now) (g.L.Link.sent c.args.link.now) (g.L.Link.at_end c.args.link.now)) (linked (g.L.Link.left c.flush.new.link) (g.L.Link.written c.flush.new.link) (g.L.Link.read_faults c.flush.new.link) (g.L.Link.write_faults c.flush.new.link) (g.L.Link.sent c.flush.new.link) (g.L.Link.at_end c.flush.new.link)) (state c.args.serving.now.connection.calls c.args.serving.now.connection.live.items c.args.serving.now.connection.over c.args.serving.now.read c.args.serving.now.written) c.wake.new.self.calls c.wake.new.self.live.items c.wake.new.self.over (state c.flush.new.serving.connection.calls c.flush.new.serving.connection.live.items c.flush.new.serving.connection.over c.flush.new.serving.read c.flush.new.serving.written) k c.in-Ok.ensures.ok c.flush.ensures.flushes

pub returns-in-Ok-clause-ready : goal.returns-in-Ok-clause-ready
returns-in-Ok-clause-ready g c = λ none.
    ready_given (g.D.Door.view c.args.door.now) (g.D.Door.view c.wake.new.door) (g.K.Shelf.shelved c.args.shelf.now) (g.K.Shelf.shelved c.wake.new.shelf) (linked (g.L.Link.left c.args.link.now) (g.L.Link.written c.args.link.now) (g.L.Link.read_faults c.args.link.now) (g.L.Link.write_faults c.args.link.now) (g.L.Link.sent c.args.link.now) (g.L.Link.at_end c.args.link.now)) (linked (g.L.Link.left c.flush.new.link) (g.L.Link.written c.flush.new.link) (g.L.Link.read_faults c.flush.new.link) (g.L.Link.write_faults c.flush.new.link) (g.L.Link.sent c.flush.new.link) (g.L.Link.at_end c.flush.new.link)) (state c.args.serving.now.connection.calls c.args.serving.now.connection.live.items c.args.serving.now.connection.over c.args.serving.now.read c.args.serving.now.written) c.wake.new.self.calls c.wake.new.self.live.items c.wake.new.self.over (state c.flush.new.serving.connection.calls c.flush.new.serving.connection.live.items c.flush.new.serving.connection.over c.flush.new.serving.read c.flush.new.serving.written) c.requires.ready c.in-Ok.ensures.ok
    (subst (λ (end : Option ConnEnd). Flushes end (linked (g.L.Link.left c.args.link.now) (g.L.Link.written c.args.link.now) (g.L.Link.read_faults c.args.link.now) (g.L.Link.write_faults c.args.link.now) (g.L.Link.sent c.args.link.now) (g.L.Link.at_end c.args.link.now)) (linked (g.L.Link.left c.flush.new.link) (g.L.Link.written c.flush.new.link) (g.L.Link.read_faults c.flush.new.link) (g.L.Link.write_faults c.flush.new.link) (g.L.Link.sent c.flush.new.link) (g.L.Link.at_end c.flush.new.link)) (state c.wake.new.self.calls c.wake.new.self.live.items c.wake.new.self.over c.args.serving.now.read c.args.serving.now.written) (state c.flush.new.serving.connection.calls c.flush.new.serving.connection.live.items c.flush.new.serving.connection.over c.flush.new.serving.read c.flush.new.serving.written)) none c.flush.ensures.flushes)
    c.wake.ensures.is_in c.wake.ensures.turns

pub returns-in-Ok-clause-less : goal.returns-in-Ok-clause-less
returns-in-Ok-clause-less g c = λ none. rw c.flush.ensures.live c.in-Ok.ensures.ok.less

pub returns-in-Err-clause-takes : goal.returns-in-Err-clause-takes
returns-in-Err-clause-takes g c = λ v x a k. settle_out v (g.D.Door.view c.args.door.now) (g.D.Door.view c.wake.new.door) x (g.K.Shelf.shelved c.args.shelf.now) (g.K.Shelf.shelved c.wake.new.shelf) a (linked (g.L.Link.left c.args.link.now) (g.L.Link.written c.args.link.now) (g.L.Link.read_faults c.args.link.now) (g.L.Link.write_faults c.args.link.now) (g.L.Link.sent c.args.link.now) (g.L.Link.at_end c.args.link.now)) (state c.args.serving.now.connection.calls c.args.serving.now.connection.live.items c.args.serving.now.connection.over c.args.serving.now.read c.args.serving.now.written) k.stands c.in-Err.ensures.err

pub returns-then-left-lt-MANY_TURNS-clause-takes : goal.returns-then-left-lt-MANY_TURNS-clause-takes
returns-then-left-lt-MANY_TURNS-clause-takes g c = λ v x a k.
    give_spent v (g.D.Door.view c.args.door.now) x (g.K.Shelf.shelved c.args.shelf.now) a (linked (g.L.Link.left c.args.link.now) (g.L.Link.written c.args.link.now) (g.L.Link.read_faults c.args.link.now) (g.L.Link.write_faults c.args.link.now) (g.L.Link.sent c.args.link.now) (g.L.Link.at_end c.args.link.now)) (state c.args.serving.now.connection.calls c.args.serving.now.connection.live.items c.args.serving.now.connection.over c.args.serving.now.read c.args.serving.now.written) k c.requires.ready.serving c.requires.ready.pending (omega (arith, c.left.ensures.left, c.if-left-lt-MANY_TURNS.true))
