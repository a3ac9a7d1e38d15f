use Rattle.std.proofs.Common.{◌^◌, ◌≤◌, length}
use Rattle.std.proofs.lemmas.List.Elements.{All-from_recursion}
use Rattle.casd_server.proofs.PutLaws.{stays_itself, stays_on, is_in_still, none_put, one_put, all_put}
use Rattle.casd_server.proofs.batch.put_all.Goals as goal

pub items-init : goal.items-init
items-init g c = (stays_itself c.args.bench.now, c.requires.few, c.requires.sure, rw c.new-answers.ensures.items (none_put c.args.bench.now c.args.items.now))

pub put_one-requires-clause-is_in : goal.put_one-requires-clause-is_in
put_one-requires-clause-is_in g c = is_in_still c.args.bench.now c.items.bench c.items.invariant.0 c.requires.is_in

pub put_one-requires-clause-few : goal.put_one-requires-clause-few
put_one-requires-clause-few g c = c.items.invariant.1

pub put_one-requires-clause-small : goal.put_one-requires-clause-small
put_one-requires-clause-small g c = rw c.item-item.is (All-from_recursion (λ item. length item.bytes ≤ 2 ^ 60) c.args.items.now c.requires.small c.items.item-index _ c.items-test.true)

pub put_one-requires-clause-sure : goal.put_one-requires-clause-sure
put_one-requires-clause-sure g c = c.items.invariant.2

pub items-preserved : goal.items-preserved
items-preserved g c = (
  stays_on c.args.bench.now c.items.bench c.put_one.new.bench c.items.invariant.0 c.in_ok-status.ensures.seats,
  c.in_ok-status.ensures.few,
  c.in_ok-status.ensures.sure,
  rw (c.in_ok-push.ensures.items, c.rpc_status.ensures)
      (one_put c.args.bench.now c.items.bench c.put_one.new.bench c.args.items.now c.items.answers.items c.items.item-index c.item-item.result c.in_ok-status.status
      c.items-test.true c.item-item.is c.items.invariant.0 c.in_ok-status.ensures.ok c.items.invariant.3),
)

pub returns-in_err-status-clause-seats : goal.returns-in_err-status-clause-seats
returns-in_err-status-clause-seats g c = stays_on c.args.bench.now c.items.bench c.put_one.new.bench c.items.invariant.0 c.in_err-status.ensures.seats

pub returns-in_err-push-clause-seats : goal.returns-in_err-push-clause-seats
returns-in_err-push-clause-seats g c = stays_on c.args.bench.now c.items.bench c.put_one.new.bench c.items.invariant.0 c.in_ok-status.ensures.seats

pub returns-clause-ok : goal.returns-clause-ok
returns-clause-ok g c = all_put c.args.bench.now c.items.bench c.args.items.now c.items.answers.items c.items.item-index c.items-test.false c.items.invariant.3
