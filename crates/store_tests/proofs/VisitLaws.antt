-- What the callers of any door make, and what their owner holds then.
use Rattle.std.proofs.Common.{◌≡◌, ℕ, ◌+◌, Bool, true, false, cond, not, List, [], ◌∷◌, ◌++◌, Option, Some, Result, Ok, Err, IfOk, OnErr, inl, inr, refl, sym, ap, subst, ◌∙◌, append_assoc, arith}
use Rattle.std.specs.Prelude.{filter, ◌||◌, ◌⊎◌}
use Rattle.std.specs.List.{list_any}
use Rattle.std.proofs.lemmas.Bool.{eq-eqb}
use Rattle.digest_types.specs.Name.{HashAndSize}
use Rattle.directory_canon.specs.declared.node.Kind.TheVariants as kinds
use Rattle.store_core.specs.State.{has_id}
use Rattle.store_core.specs.declared.state.Lease.{Lease}
use Rattle.store_core.specs.declared.event.Event.{Event}
use Rattle.store_core.specs.declared.event.Event.TheVariants as events
use Rattle.store_core.specs.declared.event.Reply.{Reply}
use Rattle.store_core.specs.declared.event.Reply.TheVariants as replies
use Rattle.store_core.specs.History.{Entry, own, own_leases}
use Rattle.blob_store.specs.Bodies.{ReadingState}
use Rattle.blob_store.specs.View.{View, by, Turns, Makes, Waits, Enters, StaysOut, Leaves, leases_by, own_now, holds}
use Rattle.blob_store.specs.Calls.{read_reply}
use Rattle.store_tests.specs.Visits.{taken, given, read_under, IsHeldAtMost, Visits}
use Rattle.blob_store.proofs.ViewLaws.{by_append, extends_more, turns_joined, turns_more, own_leases_append, own_now_after}

-- ---- what is held

-- an owner that held nothing holds what it takes
pub taken_now : (a b : View) (root : HashAndSize) (id : ℕ) → own_now a ≡ [] → Makes a b (events.Lease root kinds.Dir) (replies.Leased id) → (lease : Lease) × (lease.id ≡ id) × (own_now b ≡ lease ∷ [])
taken_now a b root id none makes =
    let owner = makes.turns.owner in
    let lease : Lease = record { id = id; owner = owner; root = record { kind = kinds.Dir; digest = root } } in
    (lease, refl, own_now_after a b 1 (taken root id ∷ []) makes.turns ∙ ap (λ (leases : List Lease). own_leases owner leases (by owner (taken root id ∷ []))) none)

-- a read changes no lease, and nor does one that is refused
pub read_keeps : {E : Type 0} (r : Result (Option ReadingState) E) (b c : View) (root : HashAndSize) → IfOk r (λ o. Makes b c (events.Read root) (read_reply o)) → OnErr r (Waits b c) → own_now c ≡ own_now b
read_keeps (Ok o) b c root ok err = own_now_after b c 1 ((events.Read root, read_reply o) ∷ []) ok.turns
read_keeps (Err e) b c root ok err = own_now_after b c 1 [] err

-- what is held alone
pub holds_one : (v : View) (lease : Lease) (id : ℕ) → lease.id ≡ id → own_now v ≡ lease ∷ [] → holds v id ≡ true
holds_one v lease id is one = ap (λ (leases : List Lease). list_any (has_id id) leases) one ∙ ap (λ (b : Bool). b || false) (eq-eqb lease.id id is)

-- where that is given up, nothing is held
pub given_now : (c d : View) (lease : Lease) (id : ℕ) → lease.id ≡ id → own_now c ≡ lease ∷ [] → Makes c d (events.Release id) replies.Released → own_now d ≡ []
given_now c d lease id is one makes =
    own_now_after c d 1 (given id ∷ []) makes.turns
    ∙ ap (λ (leases : List Lease). filter (λ other. not (has_id id other)) leases) one
    ∙ ap (λ (b : Bool). cond (not b) (lease ∷ []) []) (eq-eqb lease.id id is)

-- a lease that was taken is held after a read
pub held_after : {E : Type 0} (r : Result (Option ReadingState) E) (a b c : View) (root : HashAndSize) (id : ℕ) → own_now a ≡ [] → Makes a b (events.Lease root kinds.Dir) (replies.Leased id)
    → IfOk r (λ o. Makes b c (events.Read root) (read_reply o)) → OnErr r (Waits b c) → holds c id ≡ true
held_after r a b c root id none makes ok err =
    let at = taken_now a b root id none makes in
    holds_one c at.0 id at.1 (read_keeps r b c root ok err ∙ at.2)

-- nothing is held after a lease was taken, a root read, and the lease given up
pub none_after : {E : Type 0} (r : Result (Option ReadingState) E) (a b c d : View) (root : HashAndSize) (id : ℕ) → own_now a ≡ [] → Makes a b (events.Lease root kinds.Dir) (replies.Leased id)
    → IfOk r (λ o. Makes b c (events.Read root) (read_reply o)) → OnErr r (Waits b c) → Makes c d (events.Release id) replies.Released → own_now d ≡ []
none_after r a b c d root id none makes ok err gives =
    let at = taken_now a b root id none makes in
    given_now c d at.0 id at.1 (read_keeps r b c root ok err ∙ at.2) gives

-- ---- what a refused call leaves

pub held_none : {T E : Type 0} (r : Result T E) (a b : View) (root : HashAndSize) → Waits a b → OnErr r ((made : List (Event × Reply)) × IsHeldAtMost root made × Turns a b 3 made)
held_none (Ok x) a b root waits = tt
held_none (Err e) a b root waits = ([], inl refl, turns_more a b 1 3 [] (omega arith) waits)

pub held_only : {T E : Type 0} (r : Result T E) (a b c d : View) (root : HashAndSize) (id : ℕ) → Makes a b (events.Lease root kinds.Dir) (replies.Leased id) → Waits b c → Makes c d (events.Release id) replies.Released
    → OnErr r ((made : List (Event × Reply)) × IsHeldAtMost root made × Turns a d 3 made)
held_only (Ok x) a b c d root id takes waits gives = tt
held_only (Err e) a b c d root id takes waits gives =
    let rest : Turns b d 2 (given id ∷ []) = turns_joined b c d 1 1 [] (given id ∷ []) waits gives.turns in
    (taken root id ∷ given id ∷ [], inr (id, refl), turns_joined a b d 1 2 (taken root id ∷ []) (given id ∷ []) takes.turns rest)

-- ---- a visit

-- an owner that has just come holds nothing
pub none_at_first : (a b : View) → Enters a b → own_now b ≡ []
none_at_first a b enters = ap (λ (o : Option ℕ). leases_by o b.mine) enters.owner ∙ ap (λ (mine : List Entry). own_leases enters.number [] mine) enters.mine

-- the entries of an owner from its Open to its Close
visit_mine : (number : ℕ) (b c d : List Entry) (made : List (Event × Reply)) → b ≡ by number ((events.Open, replies.Opened number) ∷ []) → c ≡ b ++ by number made → d ≡ c ++ by number ((events.Close, replies.Closed) ∷ [])
    → d ≡ by number ((events.Open, replies.Opened number) ∷ made ++ (events.Close, replies.Closed) ∷ [])
visit_mine number b c d made first between last =
    let close : List (Event × Reply) = (events.Close, replies.Closed) ∷ [] in
    let opening : List Entry = by number ((events.Open, replies.Opened number) ∷ []) in
    last
    ∙ ap (λ (front : List Entry). front ++ by number close) (between ∙ ap (λ (front : List Entry). front ++ by number made) first)
    ∙ append_assoc opening (by number made) (by number close)
    ∙ ap (λ (rest : List Entry). opening ++ rest) (sym (by_append number made close))

pub visits : (a b c d : View) (n : ℕ) (made : List (Event × Reply)) → Enters a b → Turns b c n made → own_now c ≡ [] → Leaves c d → Visits a d (n + 2) made
visits a b c d n made enters turns none leaves =
    let close : List (Event × Reply) = (events.Close, replies.Closed) ∷ [] in
    let number = enters.number in
    let in_b : b.owner ≡ Some number = enters.owner in
    let by_turns : b.owner ≡ Some turns.owner = turns.is_owner in
    let in_c : c.owner ≡ Some number = turns.same_owner ∙ enters.owner in
    let by_leaves : c.owner ≡ Some leaves.owner = leaves.is_owner in
    let same_turns : turns.owner ≡ number = cc in
    let same_leaves : leaves.owner ≡ number = cc in
    let last : d.mine ≡ c.mine ++ by number close = subst (λ (o : ℕ). d.mine ≡ c.mine ++ by o close) same_leaves leaves.mine in
    record {
      number = number;
      owner = leaves.same_owner ∙ in_c;
      is_out = leaves.is_out;
      mine = visit_mine number b.mine c.mine d.mine made enters.mine (subst (λ (o : ℕ). c.mine ≡ b.mine ++ by o made) same_turns turns.mine) last;
      is_own = subst (λ (o : ℕ). own o d.seen ≡ d.mine) same_leaves leaves.is_own;
      start = leaves.start ∙ turns.start ∙ enters.start;
      seen = extends_more a.seen b.seen d.seen enters.seen (extends_more b.seen c.seen d.seen turns.seen leaves.seen);
      none =
          ap (λ (o : Option ℕ). leases_by o d.mine) (leaves.same_owner ∙ in_c)
          ∙ ap (λ (mine : List Entry). own_leases number [] mine) last
          ∙ own_leases_append number [] c.mine (by number close)
          ∙ ap (λ (o : Option ℕ). leases_by o c.mine) (sym in_c)
          ∙ none;
      count = omega (arith, enters.count, turns.count, leaves.count);
      grant = leaves.grant ∙ turns.grant ∙ enters.grant;
      identity = leaves.identity ∙ turns.identity ∙ enters.identity;
      left = omega (arith, enters.left, turns.left, leaves.left);
      used = omega (arith, enters.used, turns.used, leaves.used);
    }

-- the same of what a call between the two answered
pub visits_ok : {E : Type 0} (r : Result Bool E) (a b c d : View) (root : HashAndSize) → Enters a b → IfOk r (λ found. (id : ℕ) × Turns b c 3 (read_under root id found)) → own_now c ≡ [] → Leaves c d
    → IfOk r (λ found. (id : ℕ) × Visits a d 5 (read_under root id found))
visits_ok (Ok found) a b c d root enters made none leaves = (made.0, visits a b c d 3 (read_under root made.0 found) enters made.1 none leaves)
visits_ok (Err e) a b c d root enters made none leaves = tt

pub visits_err : {T E : Type 0} (r : Result T E) (a b c d : View) (root : HashAndSize) → Enters a b → OnErr r ((made : List (Event × Reply)) × IsHeldAtMost root made × Turns b c 3 made) → own_now c ≡ [] → Leaves c d
    → OnErr r (StaysOut a d ⊎ ((made : List (Event × Reply)) × IsHeldAtMost root made × Visits a d 5 made))
visits_err (Ok x) a b c d root enters made none leaves = tt
visits_err (Err e) a b c d root enters made none leaves = inr (made.0, made.1, visits a b c d 3 made.0 enters made.2 none leaves)
