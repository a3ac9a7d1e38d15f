-- The nodes of a Directory that was read stand in their order.
use Rattle.std.proofs.Common.{◌≡◌, ℕ, zero, suc, ◌<◌, cond, List, [], ◌∷◌, length, map, get_or, Option, Some, None, Result, Ok, Err, sym, ap, subst, ◌∙◌, add-one, arith}
use Rattle.std.specs.Prelude.{◌==◌, nat_lt}
use Rattle.std.specs.Ordering.{nat_cmp, ordering_then, ordering_reverse, is_lt}
use Rattle.std.specs.declared.cmp.Ordering.{Ordering}
use Rattle.std.specs.declared.cmp.Ordering.TheVariants.{Less, Equal, Greater}
use Rattle.std.specs.Cmp.Lexicographic.{slice_cmp}
use Rattle.std.proofs.lemmas.Bool.Decides.{nat_tests}
use Rattle.proto_wire.specs.Field.{WireField}
use Rattle.proto_wire.specs.Steps.{◌>>=◌}
use Rattle.proto_wire.proofs.Steps.{bind_ok, ok_is}
use Rattle.directory_canon.specs.declared.node.Node.{Node}
use Rattle.directory_canon.specs.declared.borrowed.Placed.{Placed}
use Rattle.directory_canon.specs.declared.error.DirError.{DirError}
use Rattle.directory_canon.specs.declared.error.DirError.TheVariants as errors
use Rattle.directory_canon.specs.Node.{number_of, name_of}
use Rattle.directory_canon.specs.Reading.{Entry, by_order, after, spelled_in, entries_in}
use Rattle.directory_canon.specs.Views.{node_view, entry_view, entry_after, place_of, place_cmp, AreInOrder}
use Rattle.directory_canon.proofs.EntryLoop.{opens, others_of}
use Rattle.directory_canon.proofs.TwiceLemmas.{place_cmp_total}

-- the node may stand behind the one before, if there is one
abbrev Behind : Option Node → Node → Type 0
Behind None node = Unit {0}
Behind (Some before) node = place_cmp (number_of before, name_of before) (number_of node, name_of node) ≡ Less

abbrev Chain : Option Node → List Entry → Type 0
Chain before [] = Unit {0}
Chain before (e ∷ es) = Behind before e.node × Chain (Some e.node) es

-- the test of two neighbours, of which the first has the number a, and whose names compare so
abbrev tested : ℕ → ℕ → Ordering → ℕ → Node → Result Node DirError
tested a b o at node = cond (nat_lt b a) (Err (errors.NotCanonical at)) (cond (b == a) (by_order at o node) (Ok node))

passes_as_is : (a b : ℕ) (o : Ordering) (at : ℕ) (node out : Node) → tested a b o at node ≡ Ok out → out ≡ node
passes_as_is a b Less at node out e = grind (arith, nat_tests)
passes_as_is a b Equal at node out e = grind (arith, nat_tests)
passes_as_is a b Greater at node out e = grind (arith, nat_tests)

passes_less : (a b : ℕ) (o : Ordering) (at : ℕ) (node out : Node) → tested a b o at node ≡ Ok out → ordering_then (nat_cmp a b) o ≡ Less
passes_less a b Less at node out e = grind (arith, nat_tests)
passes_less a b Equal at node out e = grind (arith, nat_tests)
passes_less a b Greater at node out e = grind (arith, nat_tests)

after_as_is : (before : Option Node) (at : ℕ) (node out : Node) → after before at node ≡ Ok out → out ≡ node
after_as_is None at node out e = cc
after_as_is (Some before) at node out e = passes_as_is (number_of before) (number_of node) (slice_cmp nat_cmp (name_of before) (name_of node)) at node out e

after_less : (before : Option Node) (at : ℕ) (node out : Node) → after before at node ≡ Ok out → Behind before node
after_less None at node out e = tt
after_less (Some before) at node out e = passes_less (number_of before) (number_of node) (slice_cmp nat_cmp (name_of before) (name_of node)) at node out e

behind : (whole : List ℕ) (before : Option Node) (f : WireField) (e : Entry) → entry_after whole before f ≡ Ok e → Behind before e.node
behind whole before f e h =
    let one = bind_ok (spelled_in whole f) (λ s. after before f.at s >>= λ node. Ok (record { at = f.at; node = node })) e h in
    let two = bind_ok (after before f.at one.0) (λ node. Ok (record { at = f.at; node = node })) e one.2 in
    let made : record { at = f.at; node = two.0 } ≡ e = ok_is _ _ two.2 in
    let same : e.node ≡ one.0 = sym (ap (λ (x : Entry). x.node) made) ∙ after_as_is before f.at one.0 two.0 two.1 in
    subst (Behind before) (sym same) (after_less before f.at one.0 two.0 two.1)

chain : (whole : List ℕ) (before : Option Node) (fs : List WireField) (es : List Entry) → entries_in whole before fs ≡ Ok es → Chain before es
unfolding entries_in
chain whole before [] es h =
    let none : [] ≡ es = cc in
    subst (Chain before) none tt
chain whole before (f ∷ fs) es h =
    let one = bind_ok (entry_after whole before f) (others_of whole fs) es (sym (opens whole before f fs) ∙ h) in
    let two = bind_ok (entries_in whole (Some one.0.node) fs) (λ others. Ok (one.0 ∷ others)) es one.2 in
    subst (Chain before) (ok_is (one.0 ∷ two.0) es two.2) (behind whole before f one.0 one.1, chain whole (Some one.0.node) fs two.0 two.1)

adjacent : (items : List Placed) (before : Option Node) → Chain before (map entry_view items) → (k : ℕ) (d : Placed) → suc k < length items → place_cmp (place_of (get_or items k d)) (place_of (get_or items (suc k) d)) ≡ Less
adjacent [] before ch k d lt = absurd (omega arith)
adjacent (p ∷ []) before ch k d lt = absurd (omega arith)
adjacent (p ∷ q ∷ items) before ch zero d lt = ch.1.0
adjacent (p ∷ q ∷ items) before ch (suc k) d lt = adjacent (q ∷ items) (Some (node_view p.node)) ch.1 k d (omega arith)

pub in_order : (whole : List ℕ) (fs : List WireField) (items : List Placed) → entries_in whole None fs ≡ Ok (map entry_view items) → AreInOrder items
unfolding AreInOrder
in_order whole fs items h k d low lt =
    let less = adjacent items None (chain whole None fs (map entry_view items) h) k d (omega arith) in
    rw add-one (ap is_lt (place_cmp_total.antisymm (place_of (get_or items (suc k) d)) (place_of (get_or items k d)) ∙ ap ordering_reverse less))
