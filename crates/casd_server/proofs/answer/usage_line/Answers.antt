use Rattle.std.proofs.Common.{ℕ, List, [], ◌∷◌, ◌++◌, refl}
use Rattle.std.specs.Fmt.{decimal}
use Rattle.casd_server.specs.Word.{name_of}
use Rattle.casd_server.proofs.TextLemmas.{text_goes_on}
use Rattle.casd_server.proofs.answer.usage_line.Goals as goal

pub returns : goal.returns
returns c =
    let r = c.args.asked.now in
    let u = c.args.usage.now in
    let last : List ℕ = decimal u.high ++ 10 ∷ [] in
    rw (c.in_ok-format.ensures.ok, c.name-word.ensures)
    (text_goes_on (decimal r.seat) _ _ last (text_goes_on (name_of r.word) _ _ last
    (text_goes_on (decimal u.used) _ _ last (text_goes_on (decimal u.guarded) _ _ last
    (text_goes_on (decimal u.rows) _ _ last (text_goes_on (decimal u.low) [] last last refl))))))
