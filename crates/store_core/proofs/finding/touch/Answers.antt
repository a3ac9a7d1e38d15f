use Rattle.std.proofs.Common.{sym}
use Rattle.store_core.proofs.UseOrder.{untouched, touched_in_vec}
use Rattle.store_core.proofs.finding.touch.Goals as goal

pub returns-in-Some : goal.returns-in-Some
returns-in-Some c =
    let rows = c.args.rows.now in
    touched_in_vec c.args.digest.now rows.items c.deref_mut.result.now c.move_back.new.rows _ rows.len c.in-Some.place
    c.requires (sym (rw c.deref.ensures.value at c.in-Some.ensures)) rows.ok.0 c.deref_mut.ensures.value c.move_back.ensures

pub returns-in_default : goal.returns-in_default
returns-in_default c = untouched c.args.digest.now c.args.rows.now.items (sym (rw c.deref.ensures.value at c.in_default.ensures))
