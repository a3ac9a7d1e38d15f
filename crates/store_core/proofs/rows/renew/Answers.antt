use Rattle.std.proofs.Common.{true, sym, ap, ◌∙◌, List}
use Rattle.std.specs.Prelude.{slice_get}
use Rattle.store_core.specs.declared.state.Row.{Row}
use Rattle.store_core.proofs.UseOrder.{renewed, row_there}
use Rattle.store_core.proofs.rows.renew.Goals as goal

pub returns : goal.returns
returns c = λ row found.
    let rows = c.args.rows.now in
    let there = ap (λ (xs : List Row). slice_get xs c.args.place) c.deref_mut.ensures.value ∙ sym (row_there c.args.digest.now rows.items c.args.place c.requires.there) ∙ found in
    renewed c.args.digest.now rows.items c.deref_mut.result.now c.renew_at.new.rows _ rows.len c.args.place (record row { sound = true })
    c.requires.distinct c.requires.there rows.ok.0 c.deref_mut.ensures.value (c.renew_at.ensures row there)
