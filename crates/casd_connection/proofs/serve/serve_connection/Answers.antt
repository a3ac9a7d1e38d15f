use Rattle.std.proofs.Common.{inl, ◌-◌, arith}
use Rattle.casd_connection.specs.Linked.{linked}
use Rattle.casd_connection.proofs.ServeLaws.{served}
use Rattle.casd_connection.proofs.serve.serve_connection.Goals as goal

pub returns : goal.returns
returns g c =
    let lived = c.serve_owner-end.ensures.ran in
    inl (served c.serve_owner-end.result (g.D.Door.view c.args.door.now) (g.D.Door.view c.enter.new.self) lived.0 (g.D.Door.view c.serve_owner-end.new.door) (g.K.Shelf.shelved c.args.shelf.now) (g.K.Shelf.shelved c.serve_owner-end.new.shelf) (linked (g.L.Link.left c.args.link.now) (g.L.Link.written c.args.link.now) (g.L.Link.read_faults c.args.link.now) (g.L.Link.write_faults c.args.link.now) (g.L.Link.sent c.args.link.now) (g.L.Link.at_end c.args.link.now)) (linked (g.L.Link.left c.serve_owner-end.new.link) (g.L.Link.written c.serve_owner-end.new.link) (g.L.Link.read_faults c.serve_owner-end.new.link) (g.L.Link.write_faults c.serve_owner-end.new.link) (g.L.Link.sent c.serve_owner-end.new.link) (g.L.Link.at_end c.serve_owner-end.new.link)) (c.made.result - c.made-before.result) c.serve_owner-end.new.serving.read c.serve_owner-end.new.serving.written c.in-Ok-enter.ensures.ok lived.1 lived.2 c.left-turns.ensures.sound (omega (arith, c.made.ensures, c.made-before.ensures)))
