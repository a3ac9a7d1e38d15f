-- What a lease reaches, as a list of pairs that is kept.
use Rattle.std.specs.Prelude.{◌≡◌, ◌&&◌, ℕ, Bool, true, List, [], ◌∷◌, take}
use Rattle.std.specs.List.{list_any}
use Rattle.directory_canon.specs.declared.node.Edge.{Edge}
use Rattle.store_core.specs.Reach.{Linked, is_pair, links_to, as_dir, reaches}

-- whether the pair is among these
abbrev pub has : List Edge → Edge → Bool
has pairs pair = list_any (is_pair pair) pairs

-- whether a row that is this pair, as a Directory, links to another
abbrev pub leads : List Linked → Edge → Edge → Bool
leads rows from pair = list_any (λ row. is_pair from (as_dir row.digest) && links_to row.edges pair) rows

-- whether a row that is one of these pairs, as a Directory, links to another
abbrev pub lead : List Linked → List Edge → Edge → Bool
lead rows from pair = list_any (λ x. leads rows x pair) from

-- the pairs are just those that the root reaches among these rows
abbrev pub IsReach : List Linked → Edge → List Edge → Type 0
IsReach rows root pairs = (pair : Edge) → has pairs pair ≡ reaches rows (root ∷ []) pair

-- The root is among the pairs, they are all reached, and what the first n of them link to is among them.
pub record IsWalked (rows : List Linked) (root : Edge) (pairs : List Edge) (n : ℕ) : Type 0 where
  pub has_root : has pairs root ≡ true
  pub sound : (pair : Edge) → has pairs pair ≡ true → reaches rows (root ∷ []) pair ≡ true
  pub followed : (from pair : Edge) → has (take n pairs) from ≡ true → leads rows from pair ≡ true → has pairs pair ≡ true
