use Rattle.std.proofs.Common.{◌≡◌, ◌+◌, ◌∙◌, ℕ, take, sym, ap, arith}
use Rattle.digest_types.specs.Name.{HashAndSize}
use Rattle.lease_table.specs.Tallies.{touch}
use Rattle.lease_table.specs.LeaseReaches.{share, shares, whole, total_in}
use Rattle.lease_table.proofs.LeaseReachLaws.{tallied_same, none_left}
use Rattle.lease_table.proofs.LeaseReachesLaws.{total_push, total_fits, whole_share}
use Rattle.lease_table.proofs.lease_reaches.take_up.Goals as goal

swapped : (a b c e : ℕ) → a + c ≡ e → (a + b) + c ≡ e + b
swapped a b c e h = omega (arith, h)

pub returns-clause-tallied : goal.returns-clause-tallied
returns-clause-tallied c = λ others small tallied.
    let rows = c.args.rows.now in
    let kept = c.args.kept.now.items in
    let reach = c.args.reach in
    let y = c.count_pairs.new.reach in
    let counts = c.args.tally.now.counts.entries in
    let bytes = c.args.tally.now.bytes in
    let f = λ (d : HashAndSize). total_in (shares kept) d + others d in
    let after = c.count_pairs.ensures.tallied f (λ d. let few = total_fits kept d in let less = small d in omega (arith, few, less)) c.requires.small
    (tallied_same rows f (λ d. f d + touch (take reach.len reach.pairs) d) counts bytes (λ d. sym (none_left (f d) reach.pairs reach.len d c.requires.none)) tallied) in
    let share_is : share y ≡ whole reach = ap share c.count_pairs.ensures.reach ∙ whole_share reach in
    tallied_same rows (λ d. f d + touch reach.pairs d) (λ d. total_in (shares c.push_reserved.new.self.items) d + others d) c.count_pairs.new.tally.counts.entries c.count_pairs.new.tally.bytes
    (λ d.
    let pushed = ap (λ m. total_in (shares kept) d + touch m.pairs d) (sym share_is) ∙ sym (total_push kept y d) ∙ ap (λ hs. total_in (shares hs) d) (sym c.push_reserved.ensures.items) in
    swapped (total_in (shares kept) d) (others d) (touch reach.pairs d) (total_in (shares c.push_reserved.new.self.items) d) pushed)
    after
