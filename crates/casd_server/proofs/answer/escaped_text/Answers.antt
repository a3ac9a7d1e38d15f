use Rattle.std.proofs.Common.{◌<◌, length, arith}
use Rattle.std.proofs.lemmas.Bool.Decides.{nat_tests}
use Rattle.casd_server.proofs.TextLemmas.{IsEscapeSet, text_without_dash}
use Rattle.casd_server.proofs.answer.escaped_text.Goals as goal

pub returns : goal.returns
returns c =
    let is : IsEscapeSet c.add.result = record { percent = c.add.ensures.added; others = c.add.ensures.others } in
    let some : 0 < length c.args.text.now = grind (arith, nat_tests) in
    rw (c.in_ok-append_to.ensures.ok, c.new-escaped.ensures.bytes, c.percent_encode.ensures.text, c.as_bytes.ensures.value) (text_without_dash c.add.result is c.args.text.now some)
