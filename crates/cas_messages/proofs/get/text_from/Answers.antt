use Rattle.std.proofs.Common.{◌∙◌, sym, ap, Ok, refl}
use Rattle.cas_messages.proofs.Texts.{text_refused, text_found}
use Rattle.cas_messages.proofs.get.text_from.Goals as goal

pub returns-in_default : goal.returns-in_default
returns-in_default c = text_refused c.args.number c.args.bytes.now c.in_default.ensures.utf8.1

pub returns : goal.returns
returns c = text_found c.args.number c.args.bytes.now (c.in-Some.ensures.utf8.0 refl) ∙ ap Ok (sym (c.in_ok-new.ensures.value ∙ c.in-Some.ensures.same))
