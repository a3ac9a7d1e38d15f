use Rattle.std.proofs.Common.{◌≡◌, length, take, arith}
use Rattle.std.proofs.lemmas.List.{length-take-le}
use Rattle.grpc_calls.proofs.MessageLaws.{prefix_part, prefix_judged}
use Rattle.grpc_calls.proofs.unfinished.add_prefix.Goals as goal

pub returns-then-len-lt-PREFIX-clause-takes : goal.returns-then-len-lt-PREFIX-clause-takes
returns-then-len-lt-PREFIX-clause-takes c =
    let len : length (take c.min-count.result c.args.bytes.now) ≡ c.min-count.result = length-take-le c.min-count.result c.args.bytes.now (omega arith) in
    prefix_part c.args.prefix.now.items c.args.bytes.now c.min-count.result c.extend_from_slice.new.self.items c.requires.part c.requires.short c.requires.some c.requires.flag
    (omega (arith, c.args.prefix.now.ok.0, c.in_ok-extend_from_slice.ensures.len, len)) (omega (arith, c.args.prefix.now.ok.0, c.in_ok-extend_from_slice.ensures.len, len)) (omega (arith, c.args.prefix.now.ok.0, c.in_ok-extend_from_slice.ensures.len, len)) c.in_ok-extend_from_slice.ensures.items

pub returns-clause-takes : goal.returns-clause-takes
returns-clause-takes c =
    let len : length (take c.min-count.result c.args.bytes.now) ≡ c.min-count.result = length-take-le c.min-count.result c.args.bytes.now (omega arith) in
    prefix_judged c.args.prefix.now.items c.args.bytes.now c.min-count.result c.extend_from_slice.new.self.items c.judge.new.prefix.items c.judge.result c.requires.part c.requires.short c.requires.some c.requires.flag
    (omega (arith, c.args.prefix.now.ok.0, c.in_ok-extend_from_slice.ensures.len, len)) (omega (arith, c.args.prefix.now.ok.0, c.in_ok-extend_from_slice.ensures.len, len)) (omega (arith, c.args.prefix.now.ok.0, c.in_ok-extend_from_slice.ensures.len, len)) c.in_ok-extend_from_slice.ensures.items c.judge.ensures
