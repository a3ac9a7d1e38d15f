use Rattle.std.proofs.Common.{◌≡◌, List, ℕ, Option, IfSome, subst, ◌∙◌}
use Rattle.digest_types.specs.Digest.{digest_of}
use Rattle.directory_canon.specs.Links.{links}
use Rattle.blob_store.proofs.LoadRows.{takes_row}
use Rattle.blob_store.proofs.load.Found.take.Goals as goal

pub returns-in_ok-keep-in-Some-clause-rows : goal.returns-in_ok-keep-in-Some-clause-rows
returns-in_ok-keep-in-Some-clause-rows g c = λ bytes is.
    let blob = c.in-Some.blob in
    let own = rw c.in-Some.is at c.in_ok-blob.ensures.own in
    let of = subst (λ (o : Option (List ℕ)). IfSome o (λ bs. (blob.digest ≡ digest_of bs) × (blob.edges ≡ links bs))) is own in
    c.in_ok-keep-in-Some.ensures.rows ∙ takes_row c.args.self.now.rows bytes blob.digest blob.edges of.0 of.1
