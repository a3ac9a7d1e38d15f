use Rattle.std.proofs.Common.{◌≡◌, map, take}
use Rattle.cas_messages.proofs.get.contents_in.Given as goal

abbrev pub invariant-contents : goal.invariant-contents
invariant-contents l = l.copies.items ≡ map (λ c. c.now) (take l.content-index l.content-items)
