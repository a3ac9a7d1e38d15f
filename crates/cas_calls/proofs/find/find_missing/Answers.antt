use Rattle.std.proofs.Common.{◌∙◌, sym}
use Rattle.cas_calls.specs.Find.{find_view}
use Rattle.cas_calls.proofs.ReadLaws.{took_found, wanting_find, other_find}
use Rattle.cas_calls.proofs.find.find_missing.Goals as goal

pub returns-then-not-is_sha256-clause-plays : goal.returns-then-not-is_sha256-clause-plays
returns-then-not-is_sha256-clause-plays g c = λ x.
    rw c.other_function.ensures (other_find (find_view c.args.request.now) (g.D.Door.view c.args.door.now) x 1 (sym c.is_sha256.ensures ∙ c.if-not-is_sha256.true) (record { is_in = c.requires.is_in; seated = c.left-turns.ensures.seated c.requires.is_in }))

pub returns-in-Ok-clause-plays : goal.returns-in-Ok-clause-plays
returns-in-Ok-clause-plays g c = λ x. took_found (find_view c.args.request.now) (g.D.Door.view c.args.door.now) (g.D.Door.view c.find.new.self) x c.in-Ok.missing (sym c.is_sha256.ensures ∙ c.if-not-is_sha256.false) c.in-Ok.ensures.ok

pub returns-in-Err-clause-plays : goal.returns-in-Err-clause-plays
returns-in-Err-clause-plays g c = λ x. rw c.out_of_memory.ensures (wanting_find (find_view c.args.request.now) (g.D.Door.view c.args.door.now) (g.D.Door.view c.find.new.self) x (sym c.is_sha256.ensures ∙ c.if-not-is_sha256.false) c.in-Err.ensures.err)
