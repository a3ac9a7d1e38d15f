use Rattle.std.proofs.Common.{◌≡◌, ℕ, subst, true, Some}
use Rattle.std.specs.Prelude.{slice_index_or}
use Rattle.blob_store.specs.Benched.{unseated}
use Rattle.casd_server.specs.Sitting.{seated_at}
use Rattle.casd_server.proofs.SittingLaws.{goes, owner_at_in}
use Rattle.casd_server.proofs.asking.close.Goals as goal

pub returns-clause-ok : goal.returns-clause-ok
returns-clause-ok g c = λ owner is_owner.
    let owner_is = owner_at_in c.args.bench.now c.args.seat owner c.requires.within
    (subst (λ (i : ℕ). (slice_index_or c.args.bench.now.seats i unseated).entered ≡ true) c.requires.chosen c.requires.is_in)
    (subst (λ (i : ℕ). (slice_index_or c.args.bench.now.seats i unseated).owner ≡ Some owner) c.requires.chosen is_owner) in
    goes (seated_at c.args.bench.now) (seated_at c.rise.new.bench) c.args.seat owner owner_is (c.rise.ensures.reply owner owner_is) c.rise.ensures.closed
