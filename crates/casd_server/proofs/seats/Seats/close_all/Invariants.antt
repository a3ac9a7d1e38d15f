use Rattle.std.proofs.Common.{◌≡◌, ◌+◌, ◌≤◌, ◌^◌, [], length}
use Rattle.blob_store.specs.Benched.{store_of}
use Rattle.casd_server.specs.Answer.{closed_below}
use Rattle.casd_server.specs.Sitting.{seated_at}
use Rattle.casd_server.proofs.seats.Seats.close_all.Given as goal

abbrev pub invariant-seats : goal.invariant-seats
invariant-seats l = record {
  closed : seated_at l.bench ≡ closed_below l.seat (seated_at l.initial.bench);
  hundred : length l.bench.seats ≡ 100;
  bare : (store_of l.bench).leases ≡ [];
  few : length l.bench.seen ≤ 2 ^ 62 + l.seat;
}
