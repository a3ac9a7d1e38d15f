use Rattle.std.proofs.Common.{◌∙◌, sym, subst, Option}
use Rattle.casd_connection.specs.declared.end.ConnEnd.{ConnEnd}
use Rattle.casd_connection.specs.Linked.{linked}
use Rattle.casd_connection.specs.Stands.{state, TakesAll}
use Rattle.casd_connection.proofs.RunLaws.{settle_out, settle_wrote, settle_refused, out_by, fits_by}
use Rattle.casd_connection.proofs.serve.take_all.Goals as goal

pub returns-then-is_out-clause-takes : goal.returns-then-is_out-clause-takes
returns-then-is_out-clause-takes g c = λ v x a stands.
    settle_out v (g.D.Door.view c.args.door.now) (g.D.Door.view c.take_frames-taken.new.door) x (g.K.Shelf.shelved c.args.shelf.now) (g.K.Shelf.shelved c.take_frames-taken.new.shelf) a (linked (g.L.Link.left c.args.link.now) (g.L.Link.written c.args.link.now) (g.L.Link.read_faults c.args.link.now) (g.L.Link.write_faults c.args.link.now) (g.L.Link.sent c.args.link.now) (g.L.Link.at_end c.args.link.now)) (state c.args.serving.now.connection.calls c.args.serving.now.connection.live.items c.args.serving.now.connection.over c.args.serving.now.read c.args.serving.now.written) stands
    (out_by c.take_frames-taken.result (g.D.Door.view c.args.door.now) (g.D.Door.view c.take_frames-taken.new.door) (g.K.Shelf.shelved c.args.shelf.now) (g.K.Shelf.shelved c.take_frames-taken.new.shelf) c.args.serving.now.connection.calls c.take_frames-taken.new.self.calls c.args.serving.now.connection.live.items c.take_frames-taken.new.self.live.items c.args.serving.now.connection.over c.take_frames-taken.new.self.over
    (sym c.is_out.ensures ∙ c.if-is_out.true) c.take_frames-taken.ensures.takes)

pub returns-in-None-clause-takes : goal.returns-in-None-clause-takes
returns-in-None-clause-takes g c = λ v x a stands.
    subst (λ (end : Option ConnEnd). TakesAll end v (g.D.Door.view c.take_frames-taken.new.door) x (g.K.Shelf.shelved c.take_frames-taken.new.shelf) a (linked (g.L.Link.left c.flush.new.link) (g.L.Link.written c.flush.new.link) (g.L.Link.read_faults c.flush.new.link) (g.L.Link.write_faults c.flush.new.link) (g.L.Link.sent c.flush.new.link) (g.L.Link.at_end c.flush.new.link)) (state c.flush.new.serving.connection.calls c.flush.new.serving.connection.live.items c.flush.new.serving.connection.over c.flush.new.serving.read c.flush.new.serving.written)) (sym c.end_of.ensures)
    (settle_wrote c.take_frames-taken.result v (g.D.Door.view c.args.door.now) (g.D.Door.view c.take_frames-taken.new.door) x (g.K.Shelf.shelved c.args.shelf.now) (g.K.Shelf.shelved c.take_frames-taken.new.shelf) a (linked (g.L.Link.left c.args.link.now) (g.L.Link.written c.args.link.now) (g.L.Link.read_faults c.args.link.now) (g.L.Link.write_faults c.args.link.now) (g.L.Link.sent c.args.link.now) (g.L.Link.at_end c.args.link.now)) (linked (g.L.Link.left c.flush.new.link) (g.L.Link.written c.flush.new.link) (g.L.Link.read_faults c.flush.new.link) (g.L.Link.write_faults c.flush.new.link) (g.L.Link.sent c.flush.new.link) (g.L.Link.at_end c.flush.new.link)) (state c.args.serving.now.connection.calls c.args.serving.now.connection.live.items c.args.serving.now.connection.over c.args.serving.now.read c.args.serving.now.written) c.take_frames-taken.new.self.calls c.take_frames-taken.new.self.live.items c.take_frames-taken.new.self.over (state c.flush.new.serving.connection.calls c.flush.new.serving.connection.live.items c.flush.new.serving.connection.over c.flush.new.serving.read c.flush.new.serving.written) stands c.take_frames-taken.ensures.takes (fits_by c.take_frames-taken.result (sym c.is_out.ensures ∙ c.if-is_out.false)) c.in-None.ensures.flushes)

pub returns-in-Some-clause-takes : goal.returns-in-Some-clause-takes
returns-in-Some-clause-takes g c = λ v x a stands.
    settle_refused c.take_frames-taken.result c.in-Some.end v (g.D.Door.view c.args.door.now) (g.D.Door.view c.take_frames-taken.new.door) x (g.K.Shelf.shelved c.args.shelf.now) (g.K.Shelf.shelved c.take_frames-taken.new.shelf) a (linked (g.L.Link.left c.args.link.now) (g.L.Link.written c.args.link.now) (g.L.Link.read_faults c.args.link.now) (g.L.Link.write_faults c.args.link.now) (g.L.Link.sent c.args.link.now) (g.L.Link.at_end c.args.link.now)) (linked (g.L.Link.left c.flush.new.link) (g.L.Link.written c.flush.new.link) (g.L.Link.read_faults c.flush.new.link) (g.L.Link.write_faults c.flush.new.link) (g.L.Link.sent c.flush.new.link) (g.L.Link.at_end c.flush.new.link)) (state c.args.serving.now.connection.calls c.args.serving.now.connection.live.items c.args.serving.now.connection.over c.args.serving.now.read c.args.serving.now.written) c.take_frames-taken.new.self.calls c.take_frames-taken.new.self.live.items c.take_frames-taken.new.self.over (state c.flush.new.serving.connection.calls c.flush.new.serving.connection.live.items c.flush.new.serving.connection.over c.flush.new.serving.read c.flush.new.serving.written) stands c.take_frames-taken.ensures.takes (fits_by c.take_frames-taken.result (sym c.is_out.ensures ∙ c.if-is_out.false)) c.in-Some.ensures.flushes
