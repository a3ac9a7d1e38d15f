use Rattle.std.proofs.Common.{◌≡◌, List, refl, subst, sym, ap, ◌∙◌, append-nil}
use Rattle.std.specs.Prelude.{Option, Some, None, slice_set, if◌then◌else◌, IfOk, OnOk}
use Rattle.std.proofs.lemmas.Option.{MatchOption-at_some}
use Rattle.std.proofs.lemmas.Bool.{ne_eqb}
use Rattle.h2_session.specs.declared.stream.Stream.{Stream}
use Rattle.h2_session.specs.declared.event.SessionEvent.{SessionEvent}
use Rattle.h2_session.specs.Machine.{part_of}
use Rattle.h2_session.specs.Windows.{Flow, grown, passes_max}
use Rattle.h2_session.specs.Rows.{Rises, top_of}
use Rattle.h2_session.specs.Heard.{Heard}
use Rattle.h2_session.specs.Sent.{Pays}
use Rattle.h2_session.proofs.RowLaws.{Rises-set, same_row}
use Rattle.h2_session.proofs.PartLaws.{pays_by}
use Rattle.h2_session.proofs.HeardLaws.{updated_far, updated_grown, grown_some, grown_none}
use Rattle.h2_session.proofs.machine.Machine.on_live_window.Goals as goal

pub invariant_of-self-clause-rises : goal.invariant_of-self-clause-rises
invariant_of-self-clause-rises c =
    let r = c.requires.row in
    let e = MatchOption-at_some _ _ r.row r.at c.set_flow.ensures in
    subst (λ (x : List Stream). Rises 0 x (top_of c.args.self.now.block c.args.self.now.highest)) (sym e) (Rises-set 0 c.args.self.now.streams (top_of c.args.self.now.block c.args.self.now.highest) c.args.i r.row _ r.at refl c.args.self.now.rises)

pub returns-in-Some-clause-event : goal.returns-in-Some-clause-event
returns-in-Some-clause-event c =
    let r = c.requires.row in
    let m = c.args.self.now in
    let is = same_row m.streams c.args.i c.get.result.now r.row c.get.ensures r.at in
    let g = subst (λ (x : Stream). c.grown_of.result ≡ (if passes_max m.initial (grown c.args.increment x.flow) then None else Some (grown c.args.increment x.flow))) is c.grown_of.ensures in
    let s = grown_some (passes_max m.initial (grown c.args.increment r.row.flow)) (grown c.args.increment r.row.flow) c.in-Some.flow c.grown_of.result g c.in-Some.is in
    ap (λ (x : Heard). x.event) (sym (updated_grown c.args.stream c.args.increment (part_of m) c.args.i r (ne_eqb c.args.increment 0 c.if-increment-eq0.false) s.0))

pub returns-in-Some-clause-pays : goal.returns-in-Some-clause-pays
returns-in-Some-clause-pays c =
    let r = c.requires.row in
    let m = c.args.self.now in
    let e = MatchOption-at_some _ _ r.row r.at c.set_flow.ensures in
    let is = same_row m.streams c.args.i c.get.result.now r.row c.get.ensures r.at in
    let g = subst (λ (x : Stream). c.grown_of.result ≡ (if passes_max m.initial (grown c.args.increment x.flow) then None else Some (grown c.args.increment x.flow))) is c.grown_of.ensures in
    let s = grown_some (passes_max m.initial (grown c.args.increment r.row.flow)) (grown c.args.increment r.row.flow) c.in-Some.flow c.grown_of.result g c.in-Some.is in
    pays_by _ _ _ _ _ (ap (λ (x : Heard). x.part) (updated_grown c.args.stream c.args.increment (part_of m) c.args.i r (ne_eqb c.args.increment 0 c.if-increment-eq0.false) s.0))
    (ap (λ (x : List Stream). record (part_of m) { streams = x }) (e ∙ ap (λ (x : Flow). slice_set m.streams c.args.i (record r.row { flow = x })) s.1)) (sym (append-nil c.args.out.now))

pub returns-in-None-clause-event : goal.returns-in-None-clause-event
returns-in-None-clause-event c =
    let r = c.requires.row in
    let m = c.args.self.now in
    let is = same_row m.streams c.args.i c.get.result.now r.row c.get.ensures r.at in
    let g = subst (λ (x : Stream). c.grown_of.result ≡ (if passes_max m.initial (grown c.args.increment x.flow) then None else Some (grown c.args.increment x.flow))) is c.grown_of.ensures in
    let n = grown_none (passes_max m.initial (grown c.args.increment r.row.flow)) (grown c.args.increment r.row.flow) c.grown_of.result g c.in-None.is in
    let far = updated_far c.args.stream c.args.increment (part_of m) c.args.i r (ne_eqb c.args.increment 0 c.if-increment-eq0.false) n in
    subst (λ (x : Heard). IfOk c.reset-in-None.result (λ (e : Option SessionEvent). e ≡ x.event)) (sym far) c.reset-in-None.ensures.event

pub returns-in-None-clause-pays : goal.returns-in-None-clause-pays
returns-in-None-clause-pays c =
    let r = c.requires.row in
    let m = c.args.self.now in
    let is = same_row m.streams c.args.i c.get.result.now r.row c.get.ensures r.at in
    let g = subst (λ (x : Stream). c.grown_of.result ≡ (if passes_max m.initial (grown c.args.increment x.flow) then None else Some (grown c.args.increment x.flow))) is c.grown_of.ensures in
    let n = grown_none (passes_max m.initial (grown c.args.increment r.row.flow)) (grown c.args.increment r.row.flow) c.grown_of.result g c.in-None.is in
    let far = updated_far c.args.stream c.args.increment (part_of m) c.args.i r (ne_eqb c.args.increment 0 c.if-increment-eq0.false) n in
    subst (λ (x : Heard). OnOk c.reset-in-None.result (Pays x.part c.args.out.now (part_of c.reset-in-None.new.self) c.reset-in-None.new.out)) (sym far) c.reset-in-None.ensures.pays
