use Rattle.std.proofs.Common.{◌≡◌, ◌<◌, ◌++◌, List, ℕ, length, take, drop, sym, subst, arith, take_at}
use Rattle.blob_store.proofs.LoadSifts.{Looks, sifted_more}
use Rattle.blob_store.proofs.load.find_all.Goals as goal

pub bodies-preserved : goal.bodies-preserved
bodies-preserved g c =
    let buf = c.take.new.buf in
    let back : take c.bodies.buf.len (buf ++ drop (length buf) c.bodies.buf.items) ≡ buf = take_at buf (drop (length buf) c.bodies.buf.items) c.bodies.buf.len (omega (arith, c.take.auto.buf, c.deref_mut.ensures.len)) in
    let found = c.next_found.ensures in
    let looks : Looks (g.K.Shelf.shelved c.bodies.shelf) (g.K.Shelf.shelved c.next_found.new.self) = record {
      lasts = record { dropped = found.dropped; may_fail = found.may_fail; saved = found.saved; to_find = found.to_find; later = found.later };
      discarded = found.discarded;
    } in record {
      sifted = sifted_more (g.K.Shelf.shelved c.args.shelf.now) (g.K.Shelf.shelved c.bodies.shelf) (g.K.Shelf.shelved c.next_found.new.self) (g.K.Shelf.shelved c.take.new.shelf) c.bodies.found.rows c.take.new.self.rows (g.K.Shelf.kept c.in-Some.body)
          c.bodies.invariant.sifted looks (rw c.in-Some.is at c.in_ok-body.ensures.found) c.in_ok-take-in-Some.ensures.shelf c.in_ok-take-in-Some.ensures.rows;
      buf = subst (λ (xs : List ℕ). 0 < length xs) (sym back) (omega (arith, c.take.auto.buf, c.deref_mut.ensures.len, c.bodies.invariant.buf));
    }
