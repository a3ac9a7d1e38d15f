use Rattle.std.proofs.Common.{◌≡◌, ℕ, ◌+◌, ◌-◌, ◌/◌, ◌<◌, Some, length, sym, ap, refl, ◌∙◌, arith, inl, inr}
use Rattle.std.specs.Prelude.{slice_get}
use Rattle.std.proofs.lemmas.Option.{slice_get_read}
use Rattle.std.proofs.lemmas.Bool.{cases_lt}
use Rattle.h2_session.specs.declared.stream.Stream.{Stream}
use Rattle.h2_session.specs.Part.{place_of}
use Rattle.h2_session.proofs.RowLaws.{rises_order, place_found, place_missed}
use Rattle.h2_session.proofs.streams.find.Goals as goal

pub returns-then-here-number-clause-value : goal.returns-then-here-number-clause-value
returns-then-here-number-clause-value c =
    let ss = c.args.streams.now in
    let r = c.index-streams-middle.result in
    let m = c.halves.low + (c.halves.high - c.halves.low) / 2 in
    let at : slice_get ss m ≡ Some r = slice_get_read ss (length ss) m r refl (omega arith) c.index-streams-middle.is in
    let n : r.number ≡ c.args.number = omega (arith, ap (λ (x : Stream). x.number) c.index-streams-middle.is) in
    sym (ap (λ (k : ℕ). place_of k ss) (sym n) ∙ place_found 0 ss c.requires.0 m r at c.requires.1)

pub halves-preserved-then-here-number-2 : goal.halves-preserved-then-here-number-2
halves-preserved-then-here-number-2 c =
    let ss = c.args.streams.now in
    let r = c.index-streams-middle.result in
    let m = c.halves.low + (c.halves.high - c.halves.low) / 2 in
    let at : slice_get ss m ≡ Some r = slice_get_read ss (length ss) m r refl (omega arith) c.index-streams-middle.is in
    let n : r.number < c.args.number = omega (arith, ap (λ (x : Stream). x.number) c.index-streams-middle.is) in
    record {
      order = omega arith;
      within = c.halves.invariant.within;
      below = λ k s l e. let o = rises_order 0 ss c.requires.0 k m s r c.requires.1 (omega (arith, l)) e at in omega (arith, o, n);
      above = c.halves.invariant.above;
    }

pub halves-preserved : goal.halves-preserved
halves-preserved c =
    let ss = c.args.streams.now in
    let r = c.index-streams-middle.result in
    let m = c.halves.low + (c.halves.high - c.halves.low) / 2 in
    let at : slice_get ss m ≡ Some r = slice_get_read ss (length ss) m r refl (omega arith) c.index-streams-middle.is in
    let n : c.args.number < r.number = omega (arith, ap (λ (x : Stream). x.number) c.index-streams-middle.is) in
    record {
      order = omega arith;
      within = omega arith;
      below = c.halves.invariant.below;
      above = λ k s l e. let o = rises_order 0 ss c.requires.0 m k r s c.requires.1 l at e in omega (arith, o, n);
    }

pub returns-clause-value : goal.returns-clause-value
returns-clause-value c =
    let i = c.halves.invariant in
    sym (place_missed c.args.number c.args.streams.now (λ k s at e.
    elim (cases_lt k c.halves.low) [ inl l ↦ (let o = i.below k s l at in omega (arith, o, e)) | inr l ↦ (let o = i.above k s (omega arith) at in omega (arith, o, e)) ]))
