use Rattle.std.proofs.Common.{Bool, sym, ap, ◌∙◌}
use Rattle.std.specs.Option.{option_copied_mut}
use Rattle.indexed_core.specs.declared.flags.Flags.TheInside.{Inside}
use Rattle.indexed_core.specs.Joined.{told, set_flag}
use Rattle.indexed_core.proofs.FlagLaws.{flags_set, flags_none}
use Rattle.indexed_core.proofs.flags.Flags.set.Goals as goal
use Rattle.indexed_core.proofs.flags.Flags.set.Goals.{in-Some, in_default}

pub returns : goal.returns
returns c =
    let d = c.args.digest.now in
    let entries = c.self.inside.flags.entries in
    elim c.match-get_mut.branch [
      | in-Some w ↦
          ap (λ (a : Inside). told a.flags.entries) w.self-inside-is
          ∙ ap told (c.get_mut.follows.holds c.args.sound).0
          ∙ flags_set d c.args.sound entries
          ∙ ap (λ entries. set_flag d c.args.sound (told entries)) c.self.view_is
      | in_default w ↦
          ap (λ (a : Inside). told a.flags.entries) w.self-inside-is
          ∙ ap (λ m. told m.entries) c.get_mut.follows.holds-at-none
          ∙ flags_none d c.args.sound entries (sym c.get_mut.ensures.value ∙ ap (option_copied_mut {T = Bool}) w.in_default.is)
          ∙ ap (λ entries. set_flag d c.args.sound (told entries)) c.self.view_is
    ]
