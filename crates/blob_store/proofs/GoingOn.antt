-- A door that only puts and finds holds no lease.
use Rattle.std.proofs.Common.{◌≡◌, ℕ, ◌+◌, List, [], ◌∷◌, Option, ◌∙◌, arith}
use Rattle.digest_types.specs.Name.{HashAndSize}
use Rattle.directory_canon.specs.declared.node.Edge.{Edge}
use Rattle.store_core.specs.declared.event.Event.TheVariants as events
use Rattle.store_core.specs.declared.event.Reply.{Reply}
use Rattle.blob_store.specs.View.{View, Makes, Enters, own_now, leases_by}
use Rattle.blob_store.specs.Doors.{GoesOn}
use Rattle.blob_store.proofs.ViewLaws.{own_now_after}

pub entered_goes_on : (a b : View) → Enters a b → GoesOn a b 1
entered_goes_on a b enters = record {
  is_in = enters.is_in;
  none = λ i. leases_by (enters.owner i) (enters.mine i);
  identity = enters.identity;
  grant = enters.grant;
  left = enters.used;
}

pub put_goes_on : (a b : View) (d : HashAndSize) (edges : Option (List Edge)) (reply : Reply) → own_now a ≡ [] → Makes a b (events.Put d edges) reply → GoesOn a b 1
put_goes_on a b d edges reply none makes = record {
  is_in = makes.turns.is_in;
  none = own_now_after a b 1 ((events.Put d edges, reply) ∷ []) makes.turns ∙ none;
  identity = makes.turns.identity;
  grant = makes.turns.grant;
  left = makes.turns.used;
}

pub find_goes_on : (a b : View) (ds : List HashAndSize) (reply : Reply) → own_now a ≡ [] → Makes a b (events.Find ds) reply → GoesOn a b 1
find_goes_on a b ds reply none makes = record {
  is_in = makes.turns.is_in;
  none = own_now_after a b 1 ((events.Find ds, reply) ∷ []) makes.turns ∙ none;
  identity = makes.turns.identity;
  grant = makes.turns.grant;
  left = makes.turns.used;
}

pub goes_further : (a b c : View) (m n : ℕ) → GoesOn a b m → GoesOn b c n → GoesOn a c (m + n)
goes_further a b c m n first rest = record {
  is_in = rest.is_in;
  none = rest.none;
  identity = rest.identity ∙ first.identity;
  grant = rest.grant ∙ first.grant;
  left = omega (arith, first.left, rest.left);
}
