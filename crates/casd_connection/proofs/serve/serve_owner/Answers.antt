use Rattle.std.proofs.Common.{◌∙◌}
use Rattle.casd_connection.specs.Linked.{linked}
use Rattle.casd_connection.specs.Stands.{state}
use Rattle.casd_connection.proofs.ServeLaws.{stands_fresh}
use Rattle.casd_connection.proofs.serve.serve_owner.Goals as goal

pub leave-requires-clause-none : goal.leave-requires-clause-none
leave-requires-clause-none g c = (c.run-end.ensures.ran (g.D.Door.view c.args.door.now) (g.K.Shelf.shelved c.args.shelf.now) (linked (g.L.Link.left c.args.link.now) (g.L.Link.written c.args.link.now) (g.L.Link.read_faults c.args.link.now) (g.L.Link.write_faults c.args.link.now) (g.L.Link.sent c.args.link.now) (g.L.Link.at_end c.args.link.now)) (stands_fresh (g.D.Door.view c.args.door.now) (g.K.Shelf.shelved c.args.shelf.now) (linked (g.L.Link.left c.args.link.now) (g.L.Link.written c.args.link.now) (g.L.Link.read_faults c.args.link.now) (g.L.Link.write_faults c.args.link.now) (g.L.Link.sent c.args.link.now) (g.L.Link.at_end c.args.link.now)) (state c.args.serving.now.connection.calls c.args.serving.now.connection.live.items c.args.serving.now.connection.over c.args.serving.now.read c.args.serving.now.written) c.requires.fresh c.requires.is_in (c.left-turns.ensures.seated c.requires.is_in))).does.leases ∙ c.requires.bare

pub returns : goal.returns
returns g c = record { ran = (g.D.Door.view c.run-end.new.door, (c.run-end.ensures.ran (g.D.Door.view c.args.door.now) (g.K.Shelf.shelved c.args.shelf.now) (linked (g.L.Link.left c.args.link.now) (g.L.Link.written c.args.link.now) (g.L.Link.read_faults c.args.link.now) (g.L.Link.write_faults c.args.link.now) (g.L.Link.sent c.args.link.now) (g.L.Link.at_end c.args.link.now)) (stands_fresh (g.D.Door.view c.args.door.now) (g.K.Shelf.shelved c.args.shelf.now) (linked (g.L.Link.left c.args.link.now) (g.L.Link.written c.args.link.now) (g.L.Link.read_faults c.args.link.now) (g.L.Link.write_faults c.args.link.now) (g.L.Link.sent c.args.link.now) (g.L.Link.at_end c.args.link.now)) (state c.args.serving.now.connection.calls c.args.serving.now.connection.live.items c.args.serving.now.connection.over c.args.serving.now.read c.args.serving.now.written) c.requires.fresh c.requires.is_in (c.left-turns.ensures.seated c.requires.is_in))), c.leave.ensures) }
