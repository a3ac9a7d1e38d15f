-- Making a Directory of nodes in any order.
use Rattle.std.specs.Prelude.{◌≡◌, ◌+◌, not, nat_eq, nat_lt, ℕ, Bool, true, List, [], ◌∷◌, length, Option, Some, None, if◌then◌else◌}
use Rattle.std.specs.List.{list_any}
use Rattle.std.specs.List.Sorted.{IsPermutation}
use Rattle.std.specs.Cmp.Lexicographic.{pointwise}
use Rattle.directory_canon.specs.declared.error.DirError.{DirError}
use Rattle.directory_canon.specs.declared.error.DirError.TheVariants as errors
use Rattle.directory_canon.specs.declared.node.Node.{Node}
use Rattle.directory_canon.specs.declared.node.Node.TheVariants as nodes
use Rattle.directory_canon.specs.Node.{name_of, is_name, is_target}
use Rattle.directory_canon.specs.Canon.{max_len, spelled, IsDirectory}

-- a symlink's target is valid; other nodes have none
abbrev pub has_target : Node → Bool
has_target (nodes.File name digest exec) = true
has_target (nodes.Dir name digest) = true
has_target (nodes.Link name target) = is_target target

-- one of the names is this one
abbrev pub has_name : List (List ℕ) → List ℕ → Bool
has_name names name = list_any (λ other. pointwise nat_eq other name) names

-- The first fault of nodes whose positions count from `at`: of a node that isn't valid, or that repeats one of the names or
-- the name of a node before it.
unfoldable pub offence : List (List ℕ) → ℕ → List Node → Option DirError
offence names at [] = None
offence names at (node ∷ others) =
    if not (is_name (name_of node)) then Some (errors.BadName at)
    else if not (has_target node) then Some (errors.BadTarget at)
    else if has_name names (name_of node) then Some (errors.Twice at)
    else offence (name_of node ∷ names) (at + 1) others

-- the first fault of nodes, or else whether they are too long
abbrev pub refusal_by : Option DirError → List Node → Option DirError
refusal_by (Some e) nodes = Some e
refusal_by None nodes = if nat_lt max_len (length (spelled nodes)) then Some errors.TooLong else None

-- why nodes make no Directory, if they make none
unfoldable pub refusal : List Node → Option DirError
refusal nodes = refusal_by (offence [] 0 nodes) nodes

-- the Directory that nodes make: exactly these nodes, in canonical order
pub record Made (nodes : List Node) (dir : List Node) : Type 0 where
  pub none : refusal nodes ≡ None
  pub same : IsPermutation nodes dir
  pub is : IsDirectory dir
