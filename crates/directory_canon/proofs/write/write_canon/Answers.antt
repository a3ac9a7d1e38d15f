use Rattle.std.proofs.Common.{◌≡◌, List, ℕ, Ok, ap, ◌∙◌}
use Rattle.std.proofs.lemmas.Result.{IfOk-weaker}
use Rattle.directory_canon.specs.Canon.{spelled}
use Rattle.directory_canon.specs.Reading.{canon_of}
use Rattle.directory_canon.proofs.CanonRead.{canon_read}
use Rattle.directory_canon.proofs.write.write_canon.Goals as goal

pub returns-clause-again : goal.returns-clause-again
returns-clause-again c =
    IfOk-weaker c.write_nodes.result (λ (b : List ℕ). b ≡ spelled c.nodes.result.now) (λ (b : List ℕ). canon_of b ≡ Ok c.args.dir.now)
    (λ b written. canon_read b c.args.dir.now (c.nodes.ensures.is, written ∙ ap spelled c.nodes.ensures.same))
    c.write_nodes.ensures
