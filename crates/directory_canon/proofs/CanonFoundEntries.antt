-- Nodes that are read one after the other are spelled one after the other.
use Rattle.std.proofs.Common.{◌≡◌, ℕ, ◌+◌, ◌<◌, ◌⊎◌, inl, inr, true, cond, eqb, ltb, nat_eq, nat_cmp, Result, Ok, Err, List, [], ◌∷◌, ◌++◌, take, drop, length, Option, Some, None, refl, sym, ap, ◌∙◌, subst, append_assoc, length-append, take-append-drop, drop_at, arith, Ordering, Less, Equal, Greater, ltb-false, eqb-true}
use Rattle.std.specs.List.{AllByRecursion, starts_with}
use Rattle.std.specs.Cmp.Lexicographic.{slice_cmp, same_text}
use Rattle.std.proofs.lemmas.Bool.{eqb-false}
use Rattle.proto_wire.specs.declared.fault.WireError.{WireError}
use Rattle.proto_wire.specs.Field.{WireField}
use Rattle.proto_wire.specs.Wire.{IsSpelling, Wire}
use Rattle.proto_wire.specs.Reading.{field_at}
use Rattle.proto_wire.proofs.Steps.{bind_ok, held_ok, passed, chosen, done, ok_is}
use Rattle.proto_wire.proofs.Again.{field_again}
use Rattle.directory_canon.specs.declared.error.DirError.{DirError}
use Rattle.directory_canon.specs.declared.error.DirError.TheVariants as errors
use Rattle.directory_canon.specs.declared.node.Node.{Node}
use Rattle.directory_canon.specs.Node.{number_of, name_of, IsNode}
use Rattle.directory_canon.specs.Canon.{content_of, node_spelled, spelled}
use Rattle.directory_canon.specs.Reading.{Entry, node_in, spelled_in, by_order, after, entries_in}
use Rattle.directory_canon.proofs.CanonReadOrder.{MayFollow, Chain, node_cmp-names, node_cmp-lists}
use Rattle.directory_canon.proofs.CanonReadNode.{Short, field_of}
use Rattle.directory_canon.proofs.CanonReadEntries.{node-spelling, short_content}
use Rattle.directory_canon.proofs.CanonReadTwice.{nodes_of}
use Rattle.directory_canon.proofs.CanonFoundNode.{ReadsDigests, node_found}

-- ---- the spelling

spelled_found : (whole : List ℕ) (f : WireField) (node : Node) → spelled_in whole f ≡ Ok node → (node_in f ≡ Ok node) × (starts_with nat_eq (drop f.at whole) (node_spelled node) ≡ true)
unfolding spelled_in
spelled_found whole f node e =
    let p = bind_ok (node_in f) _ node e in
    let g = held_ok (starts_with nat_eq (drop f.at whole) (node_spelled p.0)) (errors.NotCanonical f.at) p.0 node p.2 in
    (p.1 ∙ ap (done DirError) g.1, subst (λ (n : Node). starts_with nat_eq (drop f.at whole) (node_spelled n) ≡ true) g.1 g.0)

starts_found : (text a : List ℕ) → starts_with nat_eq text a ≡ true → text ≡ a ++ drop (length a) text
starts_found text a h =
    let same : a ≡ take (length a) text = same_text a (take (length a) text) (sym h) in
    sym (ap (λ (x : List ℕ). x ++ drop (length a) text) same ∙ take-append-drop (length a) text)

two_reads : (r : Result (WireField × List ℕ) WireError) (f g : WireField) (x y : List ℕ) → r ≡ Ok (f, x) → r ≡ Ok (g, y) → x ≡ y
two_reads r f g x y left right = ap (λ (p : WireField × List ℕ). p.1) (ok_is (f, x) (g, y) (sym left ∙ right))

-- a field has one rest
one_rest : (at : ℕ) (text first rest tail : List ℕ) (f : WireField) (node : Node) → IsSpelling first f → text ≡ first ++ rest → text ≡ node_spelled node ++ tail → Short (content_of node) → rest ≡ tail
one_rest at text first rest tail f node s parts other short =
    two_reads (field_at at text) (record { number = f.number; at = at; value = f.value }) (field_of at node) rest tail
    (ap (field_at at) parts ∙ field_again at first rest f s) (ap (field_at at) other ∙ field_again at (node_spelled node) tail (field_of at node) (node-spelling at node short))

-- the field is the node's, spelled in the canonical way
split_found : (whole front text first rest : List ℕ) (f : WireField) (node : Node) → whole ≡ front ++ text → Short whole → IsSpelling first f → f.at ≡ length front → text ≡ first ++ rest
    → starts_with nat_eq (drop f.at whole) (node_spelled node) ≡ true → text ≡ node_spelled node ++ rest
split_found whole front text first rest f node parts short s place cut h =
    let behind : drop f.at whole ≡ text = ap (drop f.at) parts ∙ drop_at front text f.at (sym place) in
    let tail = drop (length (node_spelled node)) text in
    let starts : text ≡ node_spelled node ++ tail = starts_found text (node_spelled node) (subst (λ (x : List ℕ). starts_with nat_eq x (node_spelled node) ≡ true) behind h) in
    let within : Short (node_spelled node ++ tail) = omega (arith, ap length parts, length-append front text, ap length starts) in
    let one = one_rest f.at text first rest tail f node s cut starts (short_content node tail within) in
    starts ∙ ap (λ (x : List ℕ). node_spelled node ++ x) (sym one)

next_place : (front text first own rest : List ℕ) → text ≡ first ++ rest → text ≡ own ++ rest → length front + length first ≡ length (front ++ own)
next_place front text first own rest cut split = omega (arith, ap length cut, ap length split, length-append first rest, length-append own rest, length-append front own)

-- ---- the order

order_found : (at : ℕ) (o : Ordering) (node found : Node) → by_order at o node ≡ Ok found → (o ≡ Less) × (node ≡ found)
order_found at Less node found e = (refl, cc)
order_found at Equal node found e = absurd cc
order_found at Greater node found e = absurd cc

behind_found : (m n : ℕ) (o : Ordering) (at : ℕ) (node found : Node) → cond (ltb n m) (Err (errors.NotCanonical at)) (cond (eqb n m) (by_order at o node) (Ok node)) ≡ Ok found
    → (node ≡ found) × (((m ≡ n) × (o ≡ Less)) ⊎ (m < n))
behind_found m n o at node found e =
    let p = passed (ltb n m) (errors.NotCanonical at) (cond (eqb n m) (by_order at o node) (Ok node)) found e in
    elim (chosen (eqb n m) (by_order at o node) (Ok node) (Ok found) p.1) [
      | inl q ↦
          let less = order_found at o node found q.1 in
          (less.1, inl (sym (eqb-true n m q.0), less.0))
      | inr q ↦
          let apart = eqb-false n m q.0 in
          let le = ltb-false n m p.0 in
          (ok_is node found q.1, inr (omega (arith, apart, le)))
    ]

after_found : (before : Option Node) (at : ℕ) (node found : Node) → after before at node ≡ Ok found → (node ≡ found) × MayFollow before node
after_found None at node found e = (ok_is node found e, tt)
after_found (Some before) at node found e =
    let p = behind_found (number_of before) (number_of node) (slice_cmp nat_cmp (name_of before) (name_of node)) at node found e in
    (p.0, elim p.1 [ inl same ↦ node_cmp-names before node same.0 ∙ same.1 | inr lt ↦ node_cmp-lists before node lt ])

-- ---- all nodes

-- what the nodes that were read are
pub record Found (before : Option Node) (text : List ℕ) (dir : List Node) : Type 0 where
  pub whole : text ≡ spelled dir
  pub valid : AllByRecursion IsNode dir
  pub chain : Chain before dir

pub entries_found : ReadsDigests → (whole : List ℕ) (before : Option Node) (front text : List ℕ) (fs : List WireField) (all : List Entry) → whole ≡ front ++ text → Short whole → Wire (length front) text fs
    → entries_in whole before fs ≡ Ok all → Found before text (nodes_of all)
unfolding entries_in
entries_found read whole before front text [] all parts short w e =
    subst (λ (es : List Entry). Found before text (nodes_of es)) (ok_is [] all e) (record { whole = w; valid = tt; chain = tt })
entries_found read whole before front text (f ∷ fs) all parts short w e =
    let p1 = bind_ok (spelled_in whole f) _ all e in
    let p2 = bind_ok (after before f.at p1.0) _ all p1.2 in
    let node = p2.0 in
    let p3 = bind_ok (entries_in whole (Some node) fs) _ all p2.2 in
    let others = p3.0 in
    let rest = w.1 in
    let follows = after_found before f.at p1.0 node p2.1 in
    let here = spelled_found whole f node (p1.1 ∙ ap (done DirError) follows.0) in
    let split = split_found whole front text w.0 rest f node parts short w.2 w.3 w.4 here.1 in
    let parts_on : whole ≡ (front ++ node_spelled node) ++ rest = parts ∙ ap (λ (x : List ℕ). front ++ x) split ∙ sym (append_assoc front (node_spelled node) rest) in
    let wire_on = subst (λ (at : ℕ). Wire at rest fs) (next_place front text w.0 (node_spelled node) rest w.4 split) w.5 in
    let more = entries_found read whole (Some node) (front ++ node_spelled node) rest fs others parts_on short wire_on p3.1 in
    let made : Found before text (node ∷ nodes_of others) = record {
      whole = split ∙ ap (λ (x : List ℕ). node_spelled node ++ x) more.whole;
      valid = (node_found read f node here.0, more.valid);
      chain = (subst (λ (n : Node). MayFollow before n) follows.0 follows.1, more.chain);
    } in
    subst (λ (es : List Entry). Found before text (nodes_of es)) (ok_is (record { at = f.at; node = node } ∷ others) all p3.2) made
