use Rattle.std.proofs.Common.{arith}
use Rattle.std.proofs.lemmas.Grind.{common_steps}
use Rattle.h2_frames.specs.Spelling.{flag}
use Rattle.h2_frames.proofs.SettingLemmas.{settings_written, settings_part, on_err, typed_more, typed_all}
use Rattle.h2_frames.proofs.write.push_settings.Goals as goal

pub returns-clause-ok : goal.returns-clause-ok
returns-clause-ok c = settings_written c.args.out.now c.values.out c.args.values.now (flag c.args.ack 1) c.values.name-index c.values.auto.name-index-end c.values-test.false c.values.invariant.so_far

pub returns-in_err-push_slice-2-clause-err : goal.returns-in_err-push_slice-2-clause-err
returns-in_err-push_slice-2-clause-err c =
    on_err c.from_residual-in_err-push_slice-2.result (settings_part c.args.out.now c.values.out c.push_slice-in-values.new.self c.args.values.now (flag c.args.ack 1) c.values.name-index c.values.invariant.so_far c.in_err-push_slice-2.ensures.err)

pub returns-clause-typed : goal.returns-clause-typed
returns-clause-typed c = typed_all c.args.values.now c.values.name-index c.values-test.false c.values.invariant.typed

pub values-preserved : goal.values-preserved
values-preserved c = record {
  so_far = grind (arith, common_steps, c.in_ok-push_slice-2.ensures.ok);
  typed = typed_more c.args.values.now c.values.name-index (0, 0) c.values-test.true (omega arith) (omega arith) c.values.invariant.typed;
}
