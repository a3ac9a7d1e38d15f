use Rattle.std.proofs.Common.{◌∙◌, ap, length, arith}
use Rattle.std.proofs.lemmas.Option.{MatchOption-at_some}
use Rattle.h2_session.proofs.RowLaws.{row_at}
use Rattle.h2_session.proofs.BusyLaws.{busy_small, recounts}
use Rattle.h2_session.proofs.streams.LiveStreams.set_sending.Goals as goal

pub recount-self-inside-requires : goal.recount-self-inside-requires
recount-self-inside-requires c =
    let xs = c.self.inside.rows.items in
    let r = row_at xs c.args.i (omega (arith, c.requires, ap length c.self.view_is)) in
    let e = MatchOption-at_some _ _ r.0 r.1 c.set_sending.ensures in
    let k = recounts xs c.set_sending.new.streams.items c.args.i r.0 (record r.0 { sending = c.args.next }) c.index.result.now c.index-2.result.now c.self.inside.busy c.busy_of-was.result c.busy_of-is.result r.1 e c.index.ensures c.index-2.ensures c.busy_of-was.ensures c.busy_of-is.ensures c.self.invariant in
    let l = busy_small c.set_sending.new.streams.items in
    (k.0, omega (arith, k.1, l, c.len.ensures))

pub invariant_of-self : goal.invariant_of-self
invariant_of-self c =
    let xs = c.self.inside.rows.items in
    let r = row_at xs c.args.i (omega (arith, c.requires, ap length c.self.view_is)) in
    let e = MatchOption-at_some _ _ r.0 r.1 c.set_sending.ensures in
    let k = recounts xs c.set_sending.new.streams.items c.args.i r.0 (record r.0 { sending = c.args.next }) c.index.result.now c.index-2.result.now c.self.inside.busy c.busy_of-was.result c.busy_of-is.result r.1 e c.index.ensures c.index-2.ensures c.busy_of-was.ensures c.busy_of-is.ensures c.self.invariant in
    c.recount-self-inside.ensures ∙ k.1
