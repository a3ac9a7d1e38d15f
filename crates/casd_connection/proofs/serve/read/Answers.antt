use Rattle.std.proofs.Common.{◌≡◌, ℕ, List, ◌++◌, length, take, drop, subst, arith, take_at}
use Rattle.proto_wire.specs.Reading.{IsBytes}
use Rattle.casd_connection.specs.Linked.{linked}
use Rattle.casd_connection.specs.Stands.{state, TakesIn}
use Rattle.casd_connection.proofs.RunLaws.{read_spent, read_failed, read_done, read_in}
use Rattle.casd_connection.proofs.serve.read.Goals as goal

pub returns-then-room-eq0-clause-reads : goal.returns-then-room-eq0-clause-reads
returns-then-room-eq0-clause-reads g c = λ v w x y a k. read_spent v w x y a (linked (g.L.Link.left c.args.link.now) (g.L.Link.written c.args.link.now) (g.L.Link.read_faults c.args.link.now) (g.L.Link.write_faults c.args.link.now) (g.L.Link.sent c.args.link.now) (g.L.Link.at_end c.args.link.now)) (state c.args.serving.now.connection.calls c.args.serving.now.connection.live.items c.args.serving.now.connection.over c.args.serving.now.read c.args.serving.now.written) k c.requires.serving c.requires.empty (omega (arith, c.requires.few, c.if-room-eq0.true))

pub returns-in-Err-clause-reads : goal.returns-in-Err-clause-reads
returns-in-Err-clause-reads g c = λ v w x y a k.
    let f = c.in-Err.ensures.err in
    read_failed v w x y a (linked (g.L.Link.left c.args.link.now) (g.L.Link.written c.args.link.now) (g.L.Link.read_faults c.args.link.now) (g.L.Link.write_faults c.args.link.now) (g.L.Link.sent c.args.link.now) (g.L.Link.at_end c.args.link.now)) (linked (g.L.Link.left c.read_front.new.link) (g.L.Link.written c.read_front.new.link) (g.L.Link.read_faults c.read_front.new.link) (g.L.Link.write_faults c.read_front.new.link) (g.L.Link.sent c.read_front.new.link) (g.L.Link.at_end c.read_front.new.link)) (state c.args.serving.now.connection.calls c.args.serving.now.connection.live.items c.args.serving.now.connection.over c.args.serving.now.read c.args.serving.now.written) k c.requires.serving c.requires.empty f.left f.written f.read_count f.write_count f.rose

pub returns-in-Ok-eq0-clause-reads : goal.returns-in-Ok-eq0-clause-reads
returns-in-Ok-eq0-clause-reads g c = λ v w x y a k.
    read_done v w x y a (linked (g.L.Link.left c.args.link.now) (g.L.Link.written c.args.link.now) (g.L.Link.read_faults c.args.link.now) (g.L.Link.write_faults c.args.link.now) (g.L.Link.sent c.args.link.now) (g.L.Link.at_end c.args.link.now)) (linked (g.L.Link.left c.read_front.new.link) (g.L.Link.written c.read_front.new.link) (g.L.Link.read_faults c.read_front.new.link) (g.L.Link.write_faults c.read_front.new.link) (g.L.Link.sent c.read_front.new.link) (g.L.Link.at_end c.read_front.new.link)) (state c.args.serving.now.connection.calls c.args.serving.now.connection.live.items c.args.serving.now.connection.over c.args.serving.now.read c.args.serving.now.written) c.read_front.new.buffer c.in-Ok-eq0.field-0 c.end_of_input.result k c.requires.serving c.requires.empty c.in-Ok-eq0.ensures.ok c.in-Ok-eq0.field-0-test (c.in-Ok-eq0.ensures.met c.in-Ok-eq0.field-0-test) c.end_of_input.ensures

pub returns-in-Ok-clause-reads : goal.returns-in-Ok-clause-reads
returns-in-Ok-clause-reads g c = λ v w x y a k.
    let buffer = c.read_front.new.buffer in
    let rest = drop (length buffer) c.args.serving.now.buffer.items in
    let back : take c.args.serving.now.buffer.len (buffer ++ rest) ≡ buffer = take_at buffer rest c.args.serving.now.buffer.len (omega (arith, c.read_front.ensures.len, c.deref_mut.ensures.len)) in
    read_in c.take_in.result v w x y a (linked (g.L.Link.left c.args.link.now) (g.L.Link.written c.args.link.now) (g.L.Link.read_faults c.args.link.now) (g.L.Link.write_faults c.args.link.now) (g.L.Link.sent c.args.link.now) (g.L.Link.at_end c.args.link.now)) (linked (g.L.Link.left c.read_front.new.link) (g.L.Link.written c.read_front.new.link) (g.L.Link.read_faults c.read_front.new.link) (g.L.Link.write_faults c.read_front.new.link) (g.L.Link.sent c.read_front.new.link) (g.L.Link.at_end c.read_front.new.link)) (state c.args.serving.now.connection.calls c.args.serving.now.connection.live.items c.args.serving.now.connection.over c.args.serving.now.read c.args.serving.now.written) (state c.take_in.new.serving.connection.calls c.take_in.new.serving.connection.live.items c.take_in.new.serving.connection.over c.take_in.new.serving.read c.take_in.new.serving.written) buffer c.in-Ok.len k c.in-Ok.ensures.ok (omega (arith, c.in-Ok.len-test)) (omega (arith, c.in-Ok.ensures.within, c.read_front.ensures.len, c.min-most.ensures, c.requires.buffer))
    (subst (λ (xs : List ℕ). IsBytes (take c.in-Ok.len xs)) back c.take_in.ensures.bytes) c.take_in.ensures.sound
    (subst (λ (xs : List ℕ). TakesIn c.take_in.result (state c.args.serving.now.connection.calls c.args.serving.now.connection.live.items c.args.serving.now.connection.over c.args.serving.now.read c.args.serving.now.written) (state c.take_in.new.serving.connection.calls c.take_in.new.serving.connection.live.items c.take_in.new.serving.connection.over c.take_in.new.serving.read c.take_in.new.serving.written) (take c.in-Ok.len xs)) back c.take_in.ensures.takes)
