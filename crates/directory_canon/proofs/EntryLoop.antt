-- Reading nodes one after the other, as a loop does.
use Rattle.std.proofs.Common.{◌≡◌, ℕ, ◌+◌, ◌-◌, ◌<◌, ◌≤◌, List, [], ◌∷◌, ◌++◌, length, map, get_or, drop, Bor, Option, Some, None, Result, Ok, Err, refl, sym, ap, ◌∙◌, add-one, drop-cons, arith}
use Rattle.std.specs.Option.{option_copied}
use Rattle.std.specs.Prelude.{slice_get}
use Rattle.std.proofs.lemmas.List.{append-nil, drop_all, get_or-map, length-map, map_push, get_or_at, length_push}
use Rattle.std.proofs.lemmas.Option.{slice_get-get_or}
use Rattle.proto_wire.specs.declared.field.Field.{Field}
use Rattle.proto_wire.specs.Field.{WireField, field_view}
use Rattle.proto_wire.specs.Steps.{◌>>=◌, with_front}
use Rattle.proto_wire.proofs.Steps.{fails_along, regroup, same}
use Rattle.directory_canon.specs.declared.node.Node.{Node}
use Rattle.directory_canon.specs.declared.borrowed.Placed.{Placed}
use Rattle.directory_canon.specs.declared.error.DirError.{DirError}
use Rattle.directory_canon.specs.Reading.{wants_memory, Fails, Entry, spelled_in, after, entries_in}
use Rattle.directory_canon.specs.Views.{node_view, entry_view, before_view, entry_after}

-- ---- the node before

abbrev pub placed_view : Option Placed → Option Node
placed_view None = None
placed_view (Some p) = Some (node_view p.node)

-- the last of the nodes read so far
abbrev pub last_before : List Placed → Option Node
last_before items = placed_view (slice_get items (length items - 1))

pub before_is : (found : Option (Bor Placed)) (items : List Placed) → option_copied found ≡ slice_get items (length items - 1) → before_view found ≡ last_before items
before_is None items e = ap placed_view e
before_is (Some p) items e = ap placed_view e

last_is : (items : List Placed) (p : Placed) → last_before (items ++ p ∷ []) ≡ Some (node_view p.node)
last_is items p =
    let at_end : slice_get (items ++ p ∷ []) (length (items ++ p ∷ []) - 1) ≡ Some p =
    slice_get-get_or (items ++ p ∷ []) (length (items ++ p ∷ []) - 1) p (omega (arith, length_push items p))
    ∙ ap (λ (z : Placed). Some z) (get_or_at items p [] p (length (items ++ p ∷ []) - 1) (omega (arith, length_push items p)))
    in
    ap placed_view at_end

-- ---- one node, and the others

by_after : (at : ℕ) (read : Result Node DirError) (more : Entry → Result (List Entry) DirError) → (read >>= λ node. more (record { at = at; node = node })) ≡ (read >>= λ node. Ok (record { at = at; node = node })) >>= more
by_after at (Ok node) more = refl
by_after at (Err e) more = refl

by_spelled : (at : ℕ) (read : Result Node DirError) (next : Node → Result Node DirError) (more : Entry → Result (List Entry) DirError)
    → (read >>= λ s. (next s >>= λ node. more (record { at = at; node = node }))) ≡ (read >>= λ s. (next s >>= λ node. Ok (record { at = at; node = node }))) >>= more
by_spelled at (Ok s) next more = by_after at (next s) more
by_spelled at (Err e) next more = refl

abbrev pub others_of : List ℕ → List WireField → Entry → Result (List Entry) DirError
others_of whole fs e = entries_in whole (Some e.node) fs >>= λ others. Ok (e ∷ others)

pub opens : (whole : List ℕ) (before : Option Node) (f : WireField) (fs : List WireField) → entries_in whole before (f ∷ fs) ≡ entry_after whole before f >>= others_of whole fs
unfolding entries_in
opens whole before f fs = by_spelled f.at (spelled_in whole f) (after before f.at) (others_of whole fs)

-- ---- the loop

pub starts : (whole : List ℕ) (fs : List WireField) → with_front [] (entries_in whole None fs) ≡ entries_in whole None fs
starts whole fs = same (entries_in whole None fs)

-- the fields from the i-th on
from : (fs : List Field) (i : ℕ) (d : Field) → i < length fs → drop i (map field_view fs) ≡ field_view (get_or fs i d) ∷ drop (i + 1) (map field_view fs)
from fs i d lt =
    let short : i < length (map field_view fs) = rw length-map lt in
    rw (add-one, drop-cons (map field_view fs) i (field_view d) short, get_or-map field_view fs i d (field_view d) lt) refl

-- what is still read of the fields from the i-th on, behind these nodes
abbrev pub rest_of : List ℕ → List Placed → List Field → ℕ → Result (List Entry) DirError
rest_of whole items fs i = with_front (map entry_view items) (entries_in whole (last_before items) (drop i (map field_view fs)))

first : (whole : List ℕ) (items : List Placed) (fs : List Field) (i : ℕ) (d : Field) → i < length fs
    → rest_of whole items fs i ≡ with_front (map entry_view items) (entry_after whole (last_before items) (field_view (get_or fs i d)) >>= others_of whole (drop (i + 1) (map field_view fs)))
first whole items fs i d lt =
    ap (λ (xs : List WireField). with_front (map entry_view items) (entries_in whole (last_before items) xs)) (from fs i d lt)
    ∙ ap (with_front (map entry_view items)) (opens whole (last_before items) (field_view (get_or fs i d)) (drop (i + 1) (map field_view fs)))

pub goes_on : (whole : List ℕ) (items : List Placed) (fs : List Field) (i : ℕ) (d : Field) (next : Placed) (total : Result (List Entry) DirError) → i < length fs
    → entry_after whole (last_before items) (field_view (get_or fs i d)) ≡ Ok (entry_view next) → rest_of whole items fs i ≡ total → rest_of whole (items ++ next ∷ []) fs (i + 1) ≡ total
goes_on whole items fs i d next total lt h so_far =
    let more = drop (i + 1) (map field_view fs) in
    let one : rest_of whole items fs i ≡ with_front (map entry_view items ++ entry_view next ∷ []) (entries_in whole (Some (node_view next.node)) more) =
    first whole items fs i d lt
    ∙ ap (λ (r : Result Entry DirError). with_front (map entry_view items) (r >>= others_of whole more)) h
    ∙ regroup (map entry_view items) (entry_view next) (entries_in whole (Some (node_view next.node)) more)
    in
    let now : rest_of whole (items ++ next ∷ []) fs (i + 1) ≡ with_front (map entry_view items ++ entry_view next ∷ []) (entries_in whole (Some (node_view next.node)) more) =
    ap (λ (front : List Entry). with_front front (entries_in whole (last_before (items ++ next ∷ [])) more)) (map_push entry_view items next)
    ∙ ap (λ (before : Option Node). with_front (map entry_view items ++ entry_view next ∷ []) (entries_in whole before more)) (last_is items next)
    in
    now ∙ sym one ∙ so_far

pub ends : (whole : List ℕ) (items : List Placed) (fs : List Field) (i : ℕ) (d : Field) (e : DirError) (total : Result (List Entry) DirError) → i < length fs
    → Fails e (entry_after whole (last_before items) (field_view (get_or fs i d))) → rest_of whole items fs i ≡ total → Fails e total
ends whole items fs i d e total lt fails so_far =
    fails_along wants_memory e (entry_after whole (last_before items) (field_view (get_or fs i d))) total
    (λ (h : entry_after whole (last_before items) (field_view (get_or fs i d)) ≡ Err e).
    sym so_far ∙ first whole items fs i d lt ∙ ap (λ (r : Result Entry DirError). with_front (map entry_view items) (r >>= others_of whole (drop (i + 1) (map field_view fs)))) h)
    fails

pub is_done : (whole : List ℕ) (items : List Placed) (fs : List Field) (i : ℕ) (total : Result (List Entry) DirError) → length fs ≤ i → rest_of whole items fs i ≡ total → total ≡ Ok (map entry_view items)
unfolding entries_in
is_done whole items fs i total le so_far =
    let past : length (map field_view fs) ≤ i = rw length-map le in
    let one : rest_of whole items fs i ≡ Ok (map entry_view items) = rw (drop_all i (map field_view fs) past) (ap (λ (xs : List Entry). Ok xs) (append-nil (map entry_view items))) in
    sym so_far ∙ one
