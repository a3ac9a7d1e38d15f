use Rattle.std.proofs.Common.{◌++◌, ◌∙◌, ap, List, ℕ}
use Rattle.cas_messages.specs.Meaning.{message_in}
use Rattle.cas_messages.specs.Spelling.{spelled}
use Rattle.cas_messages.proofs.WrittenAgain.{written_again}
use Rattle.cas_messages.proofs.message.Message.write.Goals as goal

pub returns-clause-again : goal.returns-clause-again
returns-clause-again g c =
    let value = g.Self.Message.value c.args.self.now in
    let all = c.finish.ensures ∙ c.in_ok-write_fields.ensures.wrote ∙ ap (λ (b : List ℕ). b ++ spelled g.Self.Message.table value) c.new-out.ensures in
    ap (message_in g.Self.Message.table) all ∙ written_again g.Self.Message.table value g.met.Self.Message.ascends c.in_ok-write_fields.ensures.fits
