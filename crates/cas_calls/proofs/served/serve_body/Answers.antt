use Rattle.std.proofs.Common.{◌∙◌, sym, subst, ap}
use Rattle.digest_types.specs.Name.{HashAndSize}
use Rattle.cas_calls.specs.declared.served.Served.{Served}
use Rattle.cas_calls.specs.Served.{HasTold}
use Rattle.cas_calls.proofs.UpdateLaws.{always_err}
use Rattle.cas_calls.proofs.ReadLaws.{took_damaged, took_kept_body, wanting_body, told_of}
use Rattle.cas_calls.proofs.served.serve_body.Goals as goal

pub returns-in_err-served-clause-err : goal.returns-in_err-served-clause-err
returns-in_err-served-clause-err g c = always_err c.from_residual.result (λ next. wanting_body c.args.digest.now (g.D.Door.view c.args.door.now) (g.K.Shelf.shelved c.args.shelf.now) (g.K.Shelf.shelved c.read_body.new.shelf) next c.requires.is_in c.in_err-served.ensures.leaves)

pub returns-in-Damaged-clause-ok : goal.returns-in-Damaged-clause-ok
returns-in-Damaged-clause-ok g c = λ next.
    let told = told_of c.args.reading.want c.args.digest.now (g.K.Shelf.shelved c.args.shelf.now) (g.K.Shelf.shelved c.read_body.new.shelf) c.in_ok-served.served c.in-Damaged.got c.requires.begins.want c.in-Damaged.is c.in_ok-served.ensures.told in
    took_damaged c.args.digest.now c.in-Damaged.got told.1 (g.D.Door.view c.args.door.now) (g.D.Door.view c.damage.new.self) (g.K.Shelf.shelved c.args.shelf.now) (g.K.Shelf.shelved c.read_body.new.shelf) next c.in_ok-served.ensures.leaves told.2 told.0 c.damage.ensures

pub returns-in_default : goal.returns-in_default
returns-in_default g c = record {
  ok = λ next. took_kept_body c.args.digest.now c.in_ok-served.served (g.D.Door.view c.args.door.now) (g.K.Shelf.shelved c.args.shelf.now) (g.K.Shelf.shelved c.read_body.new.shelf) next c.requires.is_in c.in_ok-served.ensures.leaves (subst (λ (d : HashAndSize). HasTold d (g.K.Shelf.shelved c.args.shelf.now) (g.K.Shelf.shelved c.read_body.new.shelf) c.in_ok-served.served) c.requires.begins.want c.in_ok-served.ensures.told) c.in_default.not-Damaged;
  err = tt;
}
