use Rattle.std.proofs.Common.{◌≡◌, ◌≢◌, Option, ◌∙◌, sym, ap, subst}
use Rattle.std.specs.Prelude.{IfNone}
use Rattle.std.specs.Str.{IsUtf8}
use Rattle.digest_types.specs.Name.{HashAndSize}
use Rattle.digest_types.specs.Digest.{IsDigest, printed}
use Rattle.digest_types.specs.Parsing.{parsed}
use Rattle.cache_folder.proofs.UseLemmas.{printed_utf8, no_digest}
use Rattle.cache_folder.proofs.use_list.digest_in.Goals as goal

pub returns-in_default-clause-none : goal.returns-in_default-clause-none
returns-in_default-clause-none c = λ d is e. c.in_default.ensures.cases.0 (subst IsUtf8 (sym e) (printed_utf8 d is))

pub returns-clause-none : goal.returns-clause-none
returns-clause-none c =
    let read : c.parse.result ≡ parsed c.args.text.now = c.parse.ensures.value ∙ ap parsed c.in-Ok.ensures.cases.0 in
    subst (λ (o : Option HashAndSize). IfNone o ((d : HashAndSize) → IsDigest d → c.args.text.now ≢ printed d)) (sym c.ok.ensures.value) (no_digest c.args.text.now c.parse.result read)
