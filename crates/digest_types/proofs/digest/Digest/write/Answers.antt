use Rattle.std.proofs.Common.{◌≡◌, ap, ◌∙◌, subst, arith}
use Rattle.std.proofs.lemmas.Grind.{common_steps}
use Rattle.digest_types.specs.Digest.{IsDigest, spelled}
use Rattle.digest_types.specs.Reading.{digest_in}
use Rattle.digest_types.proofs.Written.{spelled-read}
use Rattle.digest_types.proofs.digest.Digest.write.Goals as goal

pub returns-clause-again : goal.returns-clause-again
returns-clause-again c =
    let written : c.finish.result ≡ spelled c.args.self.now = grind (arith, common_steps) in
    let is : IsDigest c.args.self.now = subst IsDigest c.self.view_is (record { len = c.self.told; bytes = c.hash_text.ensures.bytes; size = c.self.invariant }) in
    ap digest_in written ∙ spelled-read c.args.self.now is
