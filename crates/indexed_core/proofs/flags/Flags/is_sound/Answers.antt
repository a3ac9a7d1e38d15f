use Rattle.std.proofs.Common.{false, Bool, List, Option, ap, ◌∙◌}
use Rattle.digest_types.specs.Name.{HashAndSize}
use Rattle.std.specs.Prelude.{unwrap_or}
use Rattle.indexed_core.specs.Joined.{told, sound_in}
use Rattle.indexed_core.proofs.flags.Flags.is_sound.Goals as goal

pub returns : goal.returns
returns c =
    c.unwrap_or.ensures
    ∙ ap (λ (o : Option Bool). unwrap_or o false) (c.copied.ensures ∙ c.get.ensures.value)
    ∙ ap (λ (flags : List (HashAndSize × Bool)). sound_in (told flags) c.args.digest.now) c.self.view_is
