-- The turns of a Read, by what was told of the body.
use Rattle.std.proofs.Common.{◌≡◌, ◌≤◌, ◌<◌, ◌-◌, ◌∙◌, ℕ, Bool, true, false, List, Option, Some, None, Result, Ok, Err, drop, refl, sym, ap, subst, arith}
use Rattle.std.specs.Prelude.{IfErr, IfOk, length}
use Rattle.digest_types.specs.Name.{HashAndSize}
use Rattle.store_core.specs.declared.event.Event.TheVariants as events
use Rattle.store_core.specs.declared.event.Reply.TheVariants as replies
use Rattle.blob_store.specs.Bodies.{ReadingState, Explains}
use Rattle.blob_store.specs.declared.reading.ReadingEnd.TheVariants.{Damaged}
use Rattle.blob_store.specs.View.{View, Makes}
use Rattle.blob_store.specs.Shelves.{Shelved}
use Rattle.cas_calls.specs.Bodies.{IsLater, IsReadOn, IsFoundOut, IsReadOut}
use Rattle.cas_calls.specs.Script.{Script, End, Make, Room, Ask, Asked, More, Rest, Told, Failed, Went, Ended, FoundOut}
use Rattle.cas_calls.specs.Plays.{IsIn, Took, Leaves, Lapses}
use Rattle.cas_calls.proofs.TakeLaws.{took_none, took_more, took_fit, took_told, took_lapsed, took_wanting, took_made}
use Rattle.byte_stream.specs.declared.place.Place.{Place}
use Rattle.byte_stream.specs.declared.read_stop.ReadStop.{ReadStop}
use Rattle.byte_stream.specs.declared.read_stop.ReadStop.TheVariants as stops
use Rattle.byte_stream.specs.Places.{piece_end}
use Rattle.byte_stream.specs.Pieces.{IsHalted, IsFinished, IsOther, GivesPiece}
use Rattle.byte_stream.specs.Read.{ReadState, begun_at, Turned, wanting, Notes, is_damage, damage_script, piece_told, rest_told, piece_script, rest_script, turn_script, stop_script}

-- the damage of a body was noted
took_damage : (d got : HashAndSize) (v w : View) (y : Shelved) → Makes v w (events.Damage d) replies.Marked → Took (damage_script d got) v w y y 1 (stop_script d (stops.Damaged got))
took_damage d got v w y makes = took_made (events.Damage d) (λ reply. stop_script d (stops.Damaged got)) v w y y replies.Marked makes refl (λ owner leases. refl)

found_out : (s t : ReadingState) (got : HashAndSize) → IsLater s t → IsOther t got → IsFoundOut s t got
found_out s t got later other = record { later = later; damage = subst (λ (d : HashAndSize). Explains t (Damaged d got)) later.want other }

read_on : (p : Place) (s t : ReadingState) (piece : List ℕ) → IsLater s t → (gives : GivesPiece p s t piece) → IsReadOn s t (piece_end p - p.read) gives.more
read_on p s t piece later gives = record { later = later; reads = gives.reads.on; count_is = omega (arith, gives.all); going = gives.reads.going }

-- ---- a piece

given_piece : (p : Place) (s t : ReadingState) (piece : List ℕ) (v : View) (x y : Shelved) → IsIn v → Leaves x y → IsLater s t → GivesPiece p s t piece → Took (piece_script (begun_at p s)) v v x y 1 (turn_script (begun_at p s) t (Ok piece))
given_piece p s t piece v x y h leaves later gives =
    let state = begun_at p s in
    let asked = More s (piece_end p - p.read) in
    let to = turn_script state t (Ok piece) in
    let there : Took (piece_told state (Went t gives.more)) v v y y 0 to = rw gives.piece_is (took_none _ v y h) in
    took_more (piece_script state) to v v x y 0 1 (omega arith)
    (took_fit wanting (Ask asked (piece_told state)) to v v x y 0
    (took_told asked (Went t gives.more) (piece_told state) to v v x y y 0 refl refl refl (read_on p s t piece later gives) leaves there))

cut_body : (p : Place) (s t : ReadingState) (got : HashAndSize) (v w : View) (x y : Shelved) → Leaves x y → IsLater s t → IsOther t got → Makes v w (events.Damage p.digest) replies.Marked → Took (piece_script (begun_at p s)) v w x y 1 (stop_script p.digest (stops.Damaged got))
cut_body p s t got v w x y leaves later other makes =
    let state = begun_at p s in
    let asked = More s (piece_end p - p.read) in
    let to = stop_script p.digest (stops.Damaged got) in
    took_fit wanting (Ask asked (piece_told state)) to v w x y 1
    (took_told asked (FoundOut t got) (piece_told state) to v w x y y 1 refl refl refl (found_out s t got later other) leaves (took_damage p.digest got v w y makes))

-- ---- the rest

rest_body : (p : Place) (s t : ReadingState) (got : HashAndSize) (v w : View) (x y : Shelved) → Leaves x y → IsLater s t → IsOther t got → Makes v w (events.Damage p.digest) replies.Marked → Took (rest_script (begun_at p s)) v w x y 1 (stop_script p.digest (stops.Damaged got))
rest_body p s t got v w x y leaves later other makes =
    let to = stop_script p.digest (stops.Damaged got) in
    took_fit wanting (Ask (Rest s) (rest_told p.digest)) to v w x y 1
    (took_told (Rest s) (FoundOut t got) (rest_told p.digest) to v w x y y 1 refl refl refl (found_out s t got later other) leaves (took_damage p.digest got v w y makes))

whole_body : (p : Place) (s t : ReadingState) (v : View) (x y : Shelved) → IsIn v → Leaves x y → IsReadOut s t → Took (rest_script (begun_at p s)) v v x y 1 (stop_script p.digest stops.Done)
whole_body p s t v x y h leaves out =
    let to = stop_script p.digest stops.Done in
    took_more (rest_script (begun_at p s)) to v v x y 0 1 (omega arith)
    (took_fit wanting (Ask (Rest s) (rest_told p.digest)) to v v x y 0
    (took_told (Rest s) (Ended t) (rest_told p.digest) to v v x y y 0 refl refl refl out leaves (took_none to v y h)))

-- ---- a fault, and want of memory

failed_turn : (p : Place) (asked : Asked) (k : Told → Script Turned) (v : View) (x y : Shelved) → IsIn v → Leaves x y → Lapses x y → Took (Ask asked k) v v x y 0 (k Failed) → k Failed ≡ stop_script p.digest stops.Failed → Took (Room wanting (Ask asked k)) v v x y 1 (stop_script p.digest stops.Failed)
failed_turn p asked k v x y h leaves lapses took is =
    took_more (Room wanting (Ask asked k)) (stop_script p.digest stops.Failed) v v x y 0 1 (omega arith)
    (took_fit wanting (Ask asked k) (stop_script p.digest stops.Failed) v v x y 0 (subst (λ (s : Script Turned). Took (Ask asked k) v v x y 0 s) is took))

wanting_turn : (p : Place) (asked : Asked) (k : Told → Script Turned) (v : View) (x y : Shelved) → IsIn v → Leaves x y → Took (Room wanting (Ask asked k)) v v x y 1 (stop_script p.digest stops.OutOfMemory)
wanting_turn p asked k v x y h leaves = took_more (Room wanting (Ask asked k)) (stop_script p.digest stops.OutOfMemory) v v x y 0 1 (omega arith) (took_wanting wanting (Ask asked k) v x y h leaves)

pub took_piece : (p : Place) (s t : ReadingState) (served : Result (List ℕ) ReadStop) (v w : View) (x y : Shelved) → IsIn v → Leaves x y → IsLater s t → IfOk served (GivesPiece p s t) → IfErr served (IsHalted t x y) → Notes (is_damage served) p.digest v w
    → Took (piece_script (begun_at p s)) v w x y 1 (turn_script (begun_at p s) t served)
took_piece p s t (Ok piece) v w x y h leaves later gives halted notes = rw notes (given_piece p s t piece v x y h leaves later gives)
took_piece p s t (Err stops.Done) v w x y h leaves later gives halted notes = absurd halted
took_piece p s t (Err stops.Failed) v w x y h leaves later gives halted notes =
    let asked = More s (piece_end p - p.read) in
    let k = piece_told (begun_at p s) in
    rw notes (failed_turn p asked k v x y h leaves halted (took_lapsed asked k v x y refl refl tt h leaves halted) refl)
took_piece p s t (Err (stops.Damaged got)) v w x y h leaves later gives halted notes = cut_body p s t got v w x y leaves later halted notes
took_piece p s t (Err stops.OutOfMemory) v w x y h leaves later gives halted notes = rw notes (wanting_turn p (More s (piece_end p - p.read)) (piece_told (begun_at p s)) v x y h leaves)

pub took_rest : (p : Place) (s t : ReadingState) (stop : ReadStop) (v w : View) (x y : Shelved) → IsIn v → Leaves x y → IsLater s t → IsFinished s t x y stop → Notes (is_damage (Err stop)) p.digest v w
    → Took (rest_script (begun_at p s)) v w x y 1 (stop_script p.digest stop)
took_rest p s t stops.Done v w x y h leaves later finished notes =
    rw notes (whole_body p s t v x y h leaves (record { later = later; rest = finished.more; reads = finished.reads.on; whole = finished.whole }))
took_rest p s t stops.Failed v w x y h leaves later finished notes =
    let k = rest_told p.digest in
    rw notes (failed_turn p (Rest s) k v x y h leaves finished (took_lapsed (Rest s) k v x y refl refl tt h leaves finished) refl)
took_rest p s t (stops.Damaged got) v w x y h leaves later finished notes = rest_body p s t got v w x y leaves later finished notes
took_rest p s t stops.OutOfMemory v w x y h leaves later finished notes = rw notes (wanting_turn p (Rest s) (rest_told p.digest) v x y h leaves)
