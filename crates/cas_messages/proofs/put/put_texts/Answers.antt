use Rattle.std.proofs.Common.{◌^◌, ◌<◌, length, ◌∙◌, ◌++◌, List, ℕ, ap, subst, arith}
use Rattle.proto_wire.specs.Spelling.{bytes_field}
use Rattle.cas_messages.specs.Fits.{IsText}
use Rattle.cas_messages.proofs.Texts.{is_text}
use Rattle.cas_messages.proofs.Writing.{wrote_more, fits_more, list_part}
use Rattle.cas_messages.proofs.put.put_texts.Goals as goal

pub values-preserved : goal.values-preserved
values-preserved c =
    let long : length c.as_str.result.now < 2 ^ 64 = omega (arith, c.as_bytes.ensures.len) in
    let field = bytes_field c.args.number in
    let step = c.in_ok-bytes.ensures.ok ∙ ap (λ (b : List ℕ). c.values.out ++ field b) (c.as_bytes.ensures.value ∙ c.as_str.ensures) in
    record {
      wrote = wrote_more field c.args.values.now c.values.value-index c.value-item.result c.args.out.now c.values.out c.bytes.new.self c.values-test.true c.value-item.is c.values.invariant.wrote step;
      fits = fits_more IsText c.args.values.now c.values.value-index c.value-item.result c.values-test.true c.value-item.is c.values.invariant.fits (subst IsText c.as_str.ensures (is_text c.as_str.result.now c.as_str.utf8 long));
    }

pub returns-in_err-bytes-clause-err : goal.returns-in_err-bytes-clause-err
returns-in_err-bytes-clause-err c = list_part c.from_residual.result (bytes_field c.args.number) c.args.values.now c.values.value-index c.args.out.now c.values.out c.bytes.new.self c.values.invariant.wrote c.in_err-bytes.ensures.err
