use Rattle.std.proofs.Common.{◌∙◌}
use Rattle.casd_connection.proofs.serve.give_all.Goals as goal

pub turns-preserved : goal.turns-preserved
turns-preserved g c = record {
  taken = λ v x a k. c.in-None-give.ensures.takes v x a (c.turns.invariant.taken v x a k);
  ready = c.give.ensures.ready c.in-None-give.is;
  buffer = c.give.ensures.buffer ∙ c.turns.invariant.buffer;
  read = c.give.ensures.read ∙ c.turns.invariant.read;
}

pub returns-in-None-clause-settles : goal.returns-in-None-clause-settles
returns-in-None-clause-settles g c = λ v x a k. record { taken = c.turns.invariant.taken v x a k; none = c.next_due.ensures.none c.in-None.is }
