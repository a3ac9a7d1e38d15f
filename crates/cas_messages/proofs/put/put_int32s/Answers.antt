use Rattle.std.proofs.Common.{◌≡◌, pos, get_or, rules, arith}
use Rattle.std.specs.Prelude.{FitsSigned}
use Rattle.std.specs.Int.{w32, w64, cast_unsigned}
use Rattle.std.proofs.lemmas.Int.{ints}
use Rattle.cas_messages.proofs.Writing.{fits_more_at, number_more, packed_fits}
use Rattle.cas_messages.proofs.put.put_int32s.Goals as goal

pub values-preserved : goal.values-preserved
values-preserved c =
    let value = get_or c.args.values.now c.values.value-index (pos 0) in
    let fits : FitsSigned w32 value = search rules in
    let number : c.cast_unsigned.result ≡ cast_unsigned w64 value = omega (arith, ints, c.cast_unsigned.ensures, c.from.ensures) in
    record {
      numbers = number_more c.args.values.now c.values.value-index (pos 0) c.cast_unsigned.result c.values.numbers.items c.push.new.self.items c.values-test.true number c.values.invariant.numbers c.in_ok-push.ensures.items;
      fits = fits_more_at (FitsSigned w32) c.args.values.now c.values.value-index (pos 0) c.values-test.true c.values.invariant.fits fits;
    }

pub returns-clause-fits : goal.returns-clause-fits
returns-clause-fits c = packed_fits c.put_bytes-2.result c.args.values.now c.values.value-index c.values.numbers.items c.in_ok-pack.field-0 c.values-test.false c.values.invariant.fits c.values.invariant.numbers (rw c.deref.ensures.value at c.in_ok-pack.ensures) c.put_bytes-2.ensures.fits
