use Rattle.std.proofs.Common.{◌∙◌, sym, arith, subst}
use Rattle.cas_messages.specs.Fits.{IsText}
use Rattle.cas_messages.proofs.Texts.{is_text, empty_text}
use Rattle.cas_messages.proofs.Writing.{on_ok}
use Rattle.cas_messages.proofs.put.put_text.Goals as goal

pub returns-then-is_empty-clause-fits : goal.returns-then-is_empty-clause-fits
returns-then-is_empty-clause-fits c = empty_text c.args.value.now (sym c.is_empty.ensures ∙ c.if-is_empty.true)

pub returns-clause-fits : goal.returns-clause-fits
returns-clause-fits c = on_ok c.bytes.result (subst IsText c.as_str.ensures (is_text c.as_str.result.now c.as_str.utf8 (omega (arith, c.as_bytes.ensures.len))))
