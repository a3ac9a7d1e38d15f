use Rattle.std.proofs.Common.{◌≡◌, true, sym, ◌∙◌, ap}
use Rattle.casd_daemon.specs.Words.{is_number}
use Rattle.casd_daemon.proofs.WordLaws.{number_ok, number_err}
use Rattle.casd_daemon.proofs.words.number_in.Goals as goal

pub returns-in_default : goal.returns-in_default
returns-in_default c =
    let number : is_number c.args.text.now ≡ true = ap is_number (sym c.as_bytes.ensures.value) ∙ sym c.if-not-is_number.ensures in
    number_err c.args.text.now c.parse.result c.in_default.field-0 number c.in_default.is c.parse.ensures.value.0

pub returns : goal.returns
returns c =
    let number : is_number c.args.text.now ≡ true = ap is_number (sym c.as_bytes.ensures.value) ∙ sym c.if-not-is_number.ensures in
    number_ok c.args.text.now c.parse.result c.in-Ok.number number c.in-Ok.is c.parse.ensures.value.0
