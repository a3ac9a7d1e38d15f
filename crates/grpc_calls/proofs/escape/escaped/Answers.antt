use Rattle.std.proofs.Common.{◌≡◌, ◌≤◌, ◌*◌, ℕ, List, length, sym, ap, subst, ◌∙◌}
use Rattle.std.specs.Prelude.{string_bytes}
use Rattle.grpc_calls.specs.Escape.{escaped}
use Rattle.grpc_calls.proofs.EscapeLaws.{IsEscapeSet, text_escaped, escaped_short}
use Rattle.grpc_calls.proofs.escape.escaped.Goals as goal

pub returns-clause-value : goal.returns-clause-value
returns-clause-value c =
    let is : IsEscapeSet c.add.result = record { percent = c.add.ensures.added; others = c.add.ensures.others } in
    rw (c.in_ok-append_to.ensures.ok, c.new-out.ensures.bytes, c.percent_encode.ensures.text, c.as_bytes.ensures.value) (text_escaped c.add.result is c.args.text.now)

pub returns-clause-size : goal.returns-clause-size
returns-clause-size c =
    let is : IsEscapeSet c.add.result = record { percent = c.add.ensures.added; others = c.add.ensures.others } in
    rw (c.in_ok-append_to.ensures.ok, c.new-out.ensures.bytes, c.percent_encode.ensures.text, c.as_bytes.ensures.value, text_escaped c.add.result is c.args.text.now) (escaped_short c.args.text.now)
