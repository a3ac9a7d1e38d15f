use Rattle.std.proofs.Common.{◌≡◌, [], ap, ◌∙◌, subst}
use Rattle.turn_lock.specs.declared.phase.Phase.TheVariants.{Idle}
use Rattle.turn_lock.specs.declared.phase.Phase.{Phase}
use Rattle.turn_lock.specs.Seats.{AtLock, Carries, Joined}
use Rattle.turn_lock.proofs.SeatFacts.{joined_seat, joined_views}
use Rattle.turn_lock.proofs.lock.TurnLock.join.Goals as goal

pub invariant_of-into : goal.invariant_of-into
invariant_of-into g c =
    let m = c.into.inside.raw.me in
    let o = c.from.inside.raw.me in
    let idle : m.0.phase ≡ Idle = ap (λ (h : AtLock). h.view.phase) c.into.view_is ∙ c.requires.idle.0 in
    let bare : m.1 ≡ [] = subst (λ (p : Phase). Carries p m.1) idle c.into.invariant.carried in
    joined_seat g.S.Stands.state m o c.unite.new.into.me c.unite.ensures.united idle c.into.inside.left c.from.inside.left c.into.inside.made c.from.inside.made c.into.inside.owner c.from.inside.owner bare c.into.invariant c.from.invariant

pub returns : goal.returns
returns g c =
    let m = c.into.inside.raw.me in
    let o = c.from.inside.raw.me in
    let idle : m.0.phase ≡ Idle = ap (λ (h : AtLock). h.view.phase) c.into.view_is ∙ c.requires.idle.0 in
    let now : AtLock = record { lock = c.unite.new.into.table_id; view = c.unite.new.into.me.0 } in
    record { joined = subst (λ (x : AtLock × AtLock). Joined x.0 x.1 now) (λ i. (c.into.view_is i, c.from.view_is i)) (joined_views g.S.Stands.state m o c.unite.new.into.me c.unite.ensures.united idle c.into.inside.raw.table_id c.from.inside.raw.table_id c.unite.new.into.table_id c.unite.ensures.seat) }
