use Rattle.std.proofs.Common.{sym, ◌∙◌}
use Rattle.casd_server.proofs.WordsLemmas.{texts_from_same, same_from_texts}
use Rattle.casd_server.proofs.command.are_words.Goals as goal

pub returns : goal.returns
returns c = (
  λ yes. texts_from_same c.args.words.now c.args.wanted.now (sym c.eq.ensures ∙ yes),
  λ same. c.eq.ensures ∙ same_from_texts c.args.words.now c.args.wanted.now same,
)
