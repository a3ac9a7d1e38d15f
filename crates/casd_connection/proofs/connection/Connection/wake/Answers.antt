use Rattle.std.proofs.Common.{◌^◌}
use Rattle.casd_connection.proofs.TurnLaws.{woken_by, out_by, within_due}
use Rattle.casd_connection.proofs.connection.Connection.wake.Goals as goal

pub returns-clause-ok : goal.returns-clause-ok
returns-clause-ok g c =
    woken_by c.resume_row.result (g.D.Door.view c.args.door.now) (g.D.Door.view c.resume_row.new.door) (g.K.Shelf.shelved c.args.shelf.now) (g.K.Shelf.shelved c.resume_row.new.shelf) (2 ^ 22) c.args.row c.args.self.now.calls c.resume_row.new.self.calls c.args.self.now.live.items c.resume_row.new.self.live.items
    c.args.self.now.over c.resume_row.new.self.over c.requires.serving c.requires.empty c.requires.due c.resume_row.ensures.ok c.resume_row.ensures.kept c.resume_row.ensures.less

pub returns-clause-err : goal.returns-clause-err
returns-clause-err g c =
    out_by c.resume_row.result (g.D.Door.view c.args.door.now) (g.D.Door.view c.resume_row.new.door) (g.K.Shelf.shelved c.args.shelf.now) (g.K.Shelf.shelved c.resume_row.new.shelf) (2 ^ 22) c.args.row c.args.self.now.calls c.args.self.now.live.items c.args.self.now.over c.requires.serving c.requires.empty c.requires.due
    c.resume_row.ensures.err
