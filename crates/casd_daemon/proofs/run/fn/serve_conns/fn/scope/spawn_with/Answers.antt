use Rattle.casd_daemon.proofs.run.fn.serve_conns.fn.scope.spawn_with.Goals as goal

pub returns : goal.returns
returns g c = c.hung_up.ensures c.captures.theirs c.captures.conn c.serve_seat.ensures
