use Rattle.std.proofs.Common.{◌∙◌, sym, subst, Option}
use Rattle.casd_connection.specs.declared.end.ConnEnd.{ConnEnd}
use Rattle.casd_connection.specs.Linked.{linked}
use Rattle.casd_connection.specs.Stands.{state, Flushes}
use Rattle.casd_connection.proofs.RunLaws.{flushed_by}
use Rattle.casd_connection.proofs.serve.flush.Goals as goal

pub returns-clause-flushes : goal.returns-clause-flushes
returns-clause-flushes g c =
    subst (λ (end : Option ConnEnd). Flushes end (linked (g.L.Link.left c.args.link.now) (g.L.Link.written c.args.link.now) (g.L.Link.read_faults c.args.link.now) (g.L.Link.write_faults c.args.link.now) (g.L.Link.sent c.args.link.now) (g.L.Link.at_end c.args.link.now)) (linked (g.L.Link.left c.write_all-len.new.link) (g.L.Link.written c.write_all-len.new.link) (g.L.Link.read_faults c.write_all-len.new.link) (g.L.Link.write_faults c.write_all-len.new.link) (g.L.Link.sent c.write_all-len.new.link) (g.L.Link.at_end c.write_all-len.new.link)) (state c.args.serving.now.connection.calls c.args.serving.now.connection.live.items c.args.serving.now.connection.over c.args.serving.now.read c.args.serving.now.written) (state c.take_output-output.new.self c.args.serving.now.connection.live.items c.args.serving.now.connection.over c.args.serving.now.read c.saturating_add-serving.result)) (sym c.end_of_write.ensures)
    (flushed_by c.write_all-len.result.1 (linked (g.L.Link.left c.args.link.now) (g.L.Link.written c.args.link.now) (g.L.Link.read_faults c.args.link.now) (g.L.Link.write_faults c.args.link.now) (g.L.Link.sent c.args.link.now) (g.L.Link.at_end c.args.link.now)) (linked (g.L.Link.left c.write_all-len.new.link) (g.L.Link.written c.write_all-len.new.link) (g.L.Link.read_faults c.write_all-len.new.link) (g.L.Link.write_faults c.write_all-len.new.link) (g.L.Link.sent c.write_all-len.new.link) (g.L.Link.at_end c.write_all-len.new.link)) (state c.args.serving.now.connection.calls c.args.serving.now.connection.live.items c.args.serving.now.connection.over c.args.serving.now.read c.args.serving.now.written) c.take_output-output.new.self c.as_slice.result.now c.write_all-len.result.0 c.saturating_add-serving.result
    (c.as_slice.ensures ∙ c.take_output-output.ensures.output) c.take_output-output.ensures.rest c.write_all-len.ensures.within c.write_all-len.ensures.writes c.write_all-len.ensures.all c.write_all-len.ensures.refuses c.saturating_add-serving.ensures)
