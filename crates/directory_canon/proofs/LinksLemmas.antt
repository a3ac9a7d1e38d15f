-- What a Directory links to.
use Rattle.std.proofs.Common.{◌≡◌, ℕ, ◌+◌, ◌<◌, List, [], ◌∷◌, ◌++◌, length, map, get_or, take, Some, None, Result, Ok, refl, sym, ap, ◌∙◌}
use Rattle.std.specs.List.{filter_map}
use Rattle.proto_wire.proofs.Finds.{one_more, no_more}
use Rattle.directory_canon.specs.declared.node.Node.{Node}
use Rattle.directory_canon.specs.declared.node.Edge.{Edge}
use Rattle.directory_canon.specs.declared.borrowed.Placed.{Placed}
use Rattle.directory_canon.specs.declared.error.DirError.{DirError}
use Rattle.directory_canon.specs.declared.error.DirError.TheVariants as errors
use Rattle.directory_canon.specs.Node.{edge_of}
use Rattle.directory_canon.specs.Reading.{Fails, canon_of}
use Rattle.directory_canon.specs.Links.{edges_by, links}
use Rattle.directory_canon.specs.Views.{node_of}

-- the links so far, one node on
pub edge_more : (items : List Placed) (i : ℕ) (item : Placed) (edge : Edge) (old new : List Edge) → i < length items → item ≡ get_or items i item → Some edge ≡ edge_of (node_of item) → new ≡ old ++ edge ∷ []
    → old ≡ filter_map edge_of (map node_of (take i items)) → new ≡ filter_map edge_of (map node_of (take (i + 1) items))
edge_more items i item edge old new lt is h added so_far =
    let here : edge_of (node_of (get_or items i item)) ≡ Some edge = ap (λ (p : Placed). edge_of (node_of p)) (sym is) ∙ sym h in
    added ∙ ap (λ (es : List Edge). es ++ edge ∷ []) so_far ∙ sym (one_more edge_of node_of items i item edge lt here)

pub edge_same : (items : List Placed) (i : ℕ) (item : Placed) (old new : List Edge) → i < length items → item ≡ get_or items i item → None ≡ edge_of (node_of item) → new ≡ old
    → old ≡ filter_map edge_of (map node_of (take i items)) → new ≡ filter_map edge_of (map node_of (take (i + 1) items))
edge_same items i item old new lt is h kept so_far =
    let here : edge_of (node_of (get_or items i item)) ≡ None = ap (λ (p : Placed). edge_of (node_of p)) (sym is) ∙ sym h in
    kept ∙ so_far ∙ sym (no_more edge_of node_of items i item lt here)

-- what is read has the links of its nodes
pub some_links : (bytes : List ℕ) (dir : List Node) (edges : List Edge) → canon_of bytes ≡ Ok dir → edges ≡ filter_map edge_of dir → Some edges ≡ links bytes
unfolding links
some_links bytes dir edges read is = ap (λ (es : List Edge). Some es) is ∙ sym (ap edges_by read)

refused : (e : DirError) (read : Result (List Node) DirError) → (e ≡ errors.OutOfMemory → ⊥) → Fails e read → None ≡ edges_by read
refused errors.OutOfMemory read other f = absurd (other refl)
refused e read other f = sym (ap edges_by f)

-- what is refused has none
pub no_links : (bytes : List ℕ) (e : DirError) → (e ≡ errors.OutOfMemory → ⊥) → Fails e (canon_of bytes) → None ≡ links bytes
unfolding links
no_links bytes e other f = refused e (canon_of bytes) other f
