use Rattle.std.proofs.Common.{◌≡◌, ℕ, List, ◌∙◌, ap}
use Rattle.std.specs.Prelude.{Option, Some, None, IfSome}
use Rattle.h2_session.specs.declared.stream.Stream.{Stream}
use Rattle.h2_session.specs.Part.{place_of, IsRow}
use Rattle.h2_session.specs.Rows.{top_of}
use Rattle.h2_session.proofs.RowLaws.{place_row}
use Rattle.h2_session.proofs.machine.Machine.place.Goals as goal

found : (number : ℕ) (ss : List Stream) (o : Option ℕ) → o ≡ place_of number ss → IfSome o (λ i. IsRow number ss i)
found number ss None e = tt
found number ss (Some i) e = place_row number ss i (cc e)

pub find-requires : goal.find-requires
find-requires c =
    let m = c.args.self.now in
    (top_of m.block m.highest, rw c.as_slice.ensures m.rises)

pub returns-clause-row : goal.returns-clause-row
returns-clause-row c = found c.args.stream c.args.self.now.streams c.find.result (c.find.ensures.value ∙ ap (λ (x : List Stream). place_of c.args.stream x) c.as_slice.ensures)
