use Rattle.std.proofs.Common.{arith}
use Rattle.std.proofs.lemmas.Result.{on_ok_weaker}
use Rattle.hpack_tables.proofs.Integers.{groups_pushed}
use Rattle.hpack_tables.proofs.integer.+push_groups.Goals as goal

pub returns : goal.returns
returns t c =
    on_ok_weaker c.push_groups.result (λ e. groups_pushed c.args.most c.args.n _ _ _ (omega arith) (omega arith) c.in_ok-push-2.ensures.items e) c.push_groups.ensures
