-- The nodes of a Directory are read one after the other.
use Rattle.std.proofs.Common.{◌≡◌, ℕ, ◌+◌, ◌^◌, ◌<◌, true, Ok, List, [], ◌∷◌, ◌++◌, map, drop, length, Option, Some, refl, sym, ap, ◌∙◌, subst, append_assoc, length-append, take_at, drop_at, nat_eq, arith}
use Rattle.std.specs.List.{AllByRecursion, starts_with}
use Rattle.std.proofs.lemmas.Cmp.{nat_list_eq_equiv}
use Rattle.proto_wire.specs.Field.{WireField}
use Rattle.proto_wire.specs.Wire.{IsSpelling, Wire}
use Rattle.proto_wire.proofs.WireLaws.{bytes_field-spelling}
use Rattle.directory_canon.specs.declared.node.Node.{Node}
use Rattle.directory_canon.specs.declared.node.Node.TheVariants as nodes
use Rattle.directory_canon.specs.Node.{number_of, IsNode}
use Rattle.directory_canon.specs.Canon.{content_of, node_spelled, spelled}
use Rattle.directory_canon.specs.Reading.{Entry, spelled_in, entries_in}
use Rattle.directory_canon.proofs.CanonReadOrder.{Chain, after_again}
use Rattle.directory_canon.proofs.CanonReadNode.{Short, field_of, node_again, within_field}

-- the fields of the nodes, the first of which stands at `at`
abbrev pub node_fields : ℕ → List Node → List WireField
node_fields at [] = []
node_fields at (node ∷ dir) = field_of at node ∷ node_fields (at + length (node_spelled node)) dir

-- the nodes with their places
abbrev pub placed : ℕ → List Node → List Entry
placed at [] = []
placed at (node ∷ dir) = record { at = at; node = node } ∷ placed (at + length (node_spelled node)) dir

pub placed-nodes : (at : ℕ) (dir : List Node) → map (λ (e : Entry). e.node) (placed at dir) ≡ dir
placed-nodes at [] = refl
placed-nodes at (node ∷ dir) = ap (λ (nodes : List Node). node ∷ nodes) (placed-nodes (at + length (node_spelled node)) dir)

number_low : (node : Node) → 0 < number_of node
number_low (nodes.File name d exec) = omega arith
number_low (nodes.Dir name d) = omega arith
number_low (nodes.Link name target) = omega arith

number_high : (node : Node) → number_of node < 2 ^ 29
number_high (nodes.File name d exec) = omega arith
number_high (nodes.Dir name d) = omega arith
number_high (nodes.Link name target) = omega arith

pub node-spelling : (at : ℕ) (node : Node) → Short (content_of node) → IsSpelling (node_spelled node) (field_of at node)
node-spelling at node short = bytes_field-spelling (number_of node) at (content_of node) (number_low node) (number_high node) short

pub short_content : (node : Node) (rest : List ℕ) → Short (node_spelled node ++ rest) → Short (content_of node)
short_content node rest short = omega (arith, length-append (node_spelled node) rest, within_field (number_of node) (content_of node))

short_rest : (node : Node) (rest : List ℕ) → Short (node_spelled node ++ rest) → Short rest
short_rest node rest short = omega (arith, length-append (node_spelled node) rest)

pub node_fields-wire : (at : ℕ) (dir : List Node) → Short (spelled dir) → Wire at (spelled dir) (node_fields at dir)
node_fields-wire at [] short = refl
node_fields-wire at (node ∷ dir) short =
    (node_spelled node, spelled dir, node-spelling at node (short_content node (spelled dir) short), refl, refl, node_fields-wire (at + length (node_spelled node)) dir (short_rest node (spelled dir) short))

starts_again : (front a rest : List ℕ) → starts_with nat_eq (drop (length front) (front ++ (a ++ rest))) a ≡ true
starts_again front a rest = rw (drop_at front (a ++ rest) (length front) refl, take_at a rest (length a) refl) (nat_list_eq_equiv.refl a)

spelled_again : (whole front : List ℕ) (node : Node) (rest : List ℕ) → whole ≡ front ++ (node_spelled node ++ rest) → IsNode node → Short (content_of node) → spelled_in whole (field_of (length front) node) ≡ Ok node
unfolding spelled_in
spelled_again whole front node rest parts is short =
    let starts : starts_with nat_eq (drop (length front) whole) (node_spelled node) ≡ true = ap (λ (text : List ℕ). starts_with nat_eq (drop (length front) text) (node_spelled node)) parts ∙ starts_again front (node_spelled node) rest in
    rw (node_again (length front) node is short, starts) refl

pub entries_again : (whole : List ℕ) (before : Option Node) (front : List ℕ) (dir : List Node) → whole ≡ front ++ spelled dir → AllByRecursion IsNode dir → Short (spelled dir) → Chain before dir
    → entries_in whole before (node_fields (length front) dir) ≡ Ok (placed (length front) dir)
unfolding entries_in
entries_again whole before front [] parts is short chain = refl
entries_again whole before front (node ∷ dir) parts is short chain =
    let here = spelled_again whole front node (spelled dir) parts is.0 (short_content node (spelled dir) short) in
    let next = after_again before (length front) node chain.0 in
    let others = entries_again whole (Some node) (front ++ node_spelled node) dir (parts ∙ sym (append_assoc front (node_spelled node) (spelled dir))) is.1 (short_rest node (spelled dir) short) chain.1 in
    let moved : entries_in whole (Some node) (node_fields (length front + length (node_spelled node)) dir) ≡ Ok (placed (length front + length (node_spelled node)) dir) =
    subst (λ (at : ℕ). entries_in whole (Some node) (node_fields at dir) ≡ Ok (placed at dir)) (length-append front (node_spelled node)) others in
    rw (here, next, moved) refl
