use Rattle.std.proofs.Common.{◌≡◌, Bool, Option, None, true, false, not, cond, refl, ap, ◌∙◌}
use Rattle.store_core.specs.State.{same}
use Rattle.store_core.proofs.Guarding.{same_swap}
use Rattle.indexed_core.specs.Joined.{told, kept_flags}
use Rattle.indexed_core.proofs.flags.Flags.remove.Goals as goal

turned : (b : Bool) (o : Option Bool) → cond b None o ≡ cond (not b) o None
turned true o = refl
turned false o = refl

pub returns : goal.returns
returns c =
    let d = c.args.digest.now in
    let old = told c.self.inside.flags.entries in
    (λ i q. (c.swap_remove.ensures.updates.0 q ∙ turned (same d q) (old q) ∙ ap (λ (b : Bool). cond (not b) (old q) None) (same_swap d q)) i)
    ∙ ap (λ entries. kept_flags (λ q. not (same q d)) (told entries)) c.self.view_is
