use Rattle.std.proofs.Common.{◌≡◌, ℕ, List, Option, take, drop, IfSome, refl, subst, ◌∙◌, arith}
use Rattle.std.proofs.lemmas.List.{length-take-le}
use Rattle.blob_store.proofs.LoadScans.{scan_more}
use Rattle.blob_store.proofs.LoadSifts.{stays_itself, stays_twice}
use Rattle.blob_store.proofs.load.read_whole.Goals as goal

pub pieces-init : goal.pieces-init
pieces-init g c = record {
  scan = c.new-scan.ensures.scan (g.K.Shelf.lent c.args.reader.now);
  reader = refl;
  room = omega (arith, c.new-scan.ensures.size);
  buf = c.requires.buf;
  stays = stays_itself (g.K.Shelf.shelved c.args.shelf.now);
}

pub pieces-preserved : goal.pieces-preserved
pieces-preserved g c =
    let old = c.pieces.scan in
    let new = c.add.new.self in
    let n = c.in_ok-count.count in
    let buf = c.read_at.new.buf in
    let held = c.pieces.invariant in
    let piece = subst (λ (o : Option (List ℕ)). IfSome o (λ all. take n buf ≡ take n (drop old.size all))) held.reader c.in_ok-count.ensures.bytes in record {
      scan = scan_more old.hasher new.hasher old.copy new.copy old.size new.size n (g.K.Shelf.lent c.args.reader.now) buf held.scan c.in_ok-count.ensures.bound piece c.in_ok-add.ensures.hash c.in_ok-add.ensures.copy c.in_ok-add.ensures.size;
      reader = c.in_ok-count.ensures.reader ∙ held.reader;
      room = omega (arith, c.in_ok-add.ensures.size, length-take-le n buf c.in_ok-count.ensures.bound, c.if-count-room.false, held.room);
      buf = omega (arith, c.read_at.auto.buf, held.buf);
      stays = stays_twice (g.K.Shelf.shelved c.args.shelf.now) (g.K.Shelf.shelved c.pieces.shelf) (g.K.Shelf.shelved c.read_at.new.self) held.stays c.in_ok-count.ensures.stays;
    }
