use Rattle.std.proofs.Common.{sym, ap, ◌∙◌, arith}
use Rattle.casd_server.specs.Answer.{Seated, closed_with, owner_at}
use Rattle.casd_server.specs.Sitting.{seated_at}
use Rattle.casd_server.proofs.SeatedLemmas.{closed_below-none, closed_below-next}
use Rattle.casd_server.proofs.seats.Seats.close_all.Goals as goal

pub seats-init : goal.seats-init
seats-init c = record {
  closed = sym (closed_below-none (seated_at c.self.inside.bench));
  hundred = c.self.invariant.hundred;
  bare = c.self.invariant.bare;
  few = c.self.invariant.few;
}

pub seats-preserved : goal.seats-preserved
seats-preserved c = record {
  closed = c.rise.ensures.closed ∙ ap (λ (s : Seated). closed_with s c.seats.seat (owner_at s c.seats.seat)) c.seats.invariant.closed
      ∙ sym (closed_below-next c.seats.seat (seated_at c.self.inside.bench));
  hundred = c.rise.ensures.len ∙ c.seats.invariant.hundred;
  bare = c.rise.ensures.bare;
  few = omega (arith, c.rise.ensures.one, c.seats.invariant.few);
}
