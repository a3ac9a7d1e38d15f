use Rattle.std.proofs.Common.{◌≡◌, true, sym, ◌∙◌, ap, arith}
use Rattle.digest_types.specs.Parsing.{is_decimal}
use Rattle.digest_types.proofs.Decimals.{read_small, read_large, read_err}
use Rattle.digest_types.proofs.parse.size_in.Goals as goal

pub returns-in_default : goal.returns-in_default
returns-in_default c =
    let number : is_decimal c.args.text.now ≡ true = ap is_decimal (sym c.as_bytes.ensures.value) ∙ sym c.if-not-is_number.ensures in
    read_err c.args.text.now c.parse.result c.in_default.field-0 number c.in_default.is c.parse.ensures.value.0

pub returns-then-size-gt-MAX_SIZE : goal.returns-then-size-gt-MAX_SIZE
returns-then-size-gt-MAX_SIZE c =
    let number : is_decimal c.args.text.now ≡ true = ap is_decimal (sym c.as_bytes.ensures.value) ∙ sym c.if-not-is_number.ensures in
    read_large c.args.text.now c.parse.result c.in-Ok.size number c.in-Ok.is c.parse.ensures.value.0 (omega arith)

pub returns : goal.returns
returns c =
    let number : is_decimal c.args.text.now ≡ true = ap is_decimal (sym c.as_bytes.ensures.value) ∙ sym c.if-not-is_number.ensures in
    read_small c.args.text.now c.parse.result c.in-Ok.size number c.in-Ok.is c.parse.ensures.value.0 (omega arith)
