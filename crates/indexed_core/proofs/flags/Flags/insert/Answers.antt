use Rattle.std.proofs.Common.{ap, ◌∙◌}
use Rattle.indexed_core.specs.Joined.{told, with_flag}
use Rattle.indexed_core.proofs.flags.Flags.insert.Goals as goal

pub returns-clause-ok : goal.returns-clause-ok
returns-clause-ok c = (λ i q. c.in_ok-insert.ensures.updates.0 q i) ∙ ap (λ entries. with_flag c.args.digest (told entries)) c.self.view_is
