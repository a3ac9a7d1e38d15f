-- Files, directories and symlinks, each ascending by name, are one ascending list.
use Rattle.std.proofs.Common.{◌≡◌, ℕ, ◌<◌, inl, inr, Bool, true, false, cond, eqb, ltb, List, [], ◌∷◌, ◌++◌, map, Option, Some, None, Result, Ok, Err, refl, sym, ap, ◌∙◌, subst, lt-ltb, le-ltb, ne_eqb, eq-eqb, arith, Ordering, Less, Equal, Greater, eqb-true}
use Rattle.std.specs.List.{AllByRecursion}
use Rattle.std.specs.List.Sorted.{IsStrictlySortedBy}
use Rattle.std.specs.Ordering.{nat_cmp, on, then_cmp, ordering_then}
use Rattle.std.specs.Cmp.{IsTotalOrder}
use Rattle.std.specs.Cmp.Lexicographic.{slice_cmp}
use Rattle.std.proofs.lemmas.Cmp.{then_total, on_total, nat_cmp_total, nat_list_cmp_total, tied_itself}
use Rattle.std.proofs.lemmas.Bool.{cases_order}
use Rattle.directory_canon.specs.declared.node.Node.{Node}
use Rattle.directory_canon.specs.Node.{number_of, name_of}
use Rattle.directory_canon.specs.Canon.{list_of, Ascends, IsDirectory}
use Rattle.directory_canon.specs.declared.error.DirError.{DirError}
use Rattle.directory_canon.specs.declared.error.DirError.TheVariants as errors
use Rattle.directory_canon.specs.Reading.{by_order, after}

-- first by the list, then by the name
abbrev pub node_cmp : Node → Node → Ordering
node_cmp = then_cmp (on number_of nat_cmp) (on name_of (slice_cmp nat_cmp))

pub node_total : IsTotalOrder node_cmp
node_total = then_total (on_total number_of nat_cmp_total) (on_total name_of nat_list_cmp_total)

nat_cmp-less : (m n : ℕ) → m < n → nat_cmp m n ≡ Less
nat_cmp-less m n lt = rw (lt-ltb m n lt) refl

pub nat_cmp-greater : (m n : ℕ) → n < m → nat_cmp m n ≡ Greater
nat_cmp-greater m n gt = rw (le-ltb m n (omega (arith, gt)), ne_eqb m n (λ e. omega (arith, gt))) refl

pub not_less : (o : Ordering) → ordering_then Greater o ≡ Less → ⊥
not_less o e = cc

-- two nodes of one list are compared by their names, and those of two lists by the lists
pub node_cmp-names : (a b : Node) → number_of a ≡ number_of b → node_cmp a b ≡ slice_cmp nat_cmp (name_of a) (name_of b)
node_cmp-names a b e =
    let tied : nat_cmp (number_of a) (number_of b) ≡ Equal = ap (nat_cmp (number_of a)) (sym e) ∙ tied_itself nat_cmp_total (number_of a) in
    ap (λ (o : Ordering). ordering_then o (slice_cmp nat_cmp (name_of a) (name_of b))) tied

pub node_cmp-lists : (a b : Node) → number_of a < number_of b → node_cmp a b ≡ Less
node_cmp-lists a b lt = ap (λ (o : Ordering). ordering_then o (slice_cmp nat_cmp (name_of a) (name_of b))) (nat_cmp-less (number_of a) (number_of b) lt)

abbrev pub Numbered : ℕ → List Node → Type 0
Numbered n nodes = AllByRecursion (λ node. number_of node ≡ n) nodes

-- one list that ascends by name
above_names : (n : ℕ) (a : Node) (nodes : List Node) → number_of a ≡ n → Numbered n nodes
    → AllByRecursion (λ name. slice_cmp nat_cmp (name_of a) name ≡ Less) (map name_of nodes) → AllByRecursion (λ b. node_cmp a b ≡ Less) nodes
above_names n a [] e all up = tt
above_names n a (b ∷ nodes) e all up = (node_cmp-names a b (e ∙ sym all.0) ∙ up.0, above_names n a nodes e all.1 up.1)

names_above : (n : ℕ) (a : Node) (nodes : List Node) → number_of a ≡ n → Numbered n nodes
    → AllByRecursion (λ b. node_cmp a b ≡ Less) nodes → AllByRecursion (λ name. slice_cmp nat_cmp (name_of a) name ≡ Less) (map name_of nodes)
names_above n a [] e all up = tt
names_above n a (b ∷ nodes) e all up = (sym (node_cmp-names a b (e ∙ sym all.0)) ∙ up.0, names_above n a nodes e all.1 up.1)

nodes_ascend : (n : ℕ) (nodes : List Node) → Numbered n nodes → IsStrictlySortedBy (slice_cmp nat_cmp) (map name_of nodes) → IsStrictlySortedBy node_cmp nodes
unfolding IsStrictlySortedBy
nodes_ascend n [] all up = tt
nodes_ascend n (a ∷ nodes) all up = (above_names n a nodes all.0 all.1 up.0, nodes_ascend n nodes all.1 up.1)

pub names_ascend : (n : ℕ) (nodes : List Node) → Numbered n nodes → IsStrictlySortedBy node_cmp nodes → IsStrictlySortedBy (slice_cmp nat_cmp) (map name_of nodes)
unfolding IsStrictlySortedBy
names_ascend n [] all up = tt
names_ascend n (a ∷ nodes) all up = (names_above n a nodes all.0 all.1 up.0, names_ascend n nodes all.1 up.1)

numbered_either : (n : ℕ) (node : Node) (others : List Node) → Numbered n others → (is : Bool) → eqb (number_of node) n ≡ is → Numbered n (cond is (node ∷ others) others)
numbered_either n node others all true e = (eqb-true (number_of node) n e, all)
numbered_either n node others all false e = all

pub list_of-numbered : (n : ℕ) (dir : List Node) → Numbered n (list_of n dir)
list_of-numbered n [] = tt
list_of-numbered n (node ∷ dir) = numbered_either n node (list_of n dir) (list_of-numbered n dir) (eqb (number_of node) n) refl

list_ascends : (n : ℕ) (dir : List Node) → Ascends n dir → IsStrictlySortedBy node_cmp (list_of n dir)
list_ascends n dir up = nodes_ascend n (list_of n dir) (list_of-numbered n dir) up

-- a list before another
all_append : (a : Node) (xs ys : List Node) → AllByRecursion (λ b. node_cmp a b ≡ Less) xs → AllByRecursion (λ b. node_cmp a b ≡ Less) ys → AllByRecursion (λ b. node_cmp a b ≡ Less) (xs ++ ys)
all_append a [] ys left right = right
all_append a (x ∷ xs) ys left right = (left.0, all_append a xs ys left.1 right)

below_list : (m n : ℕ) (a : Node) (ys : List Node) → m < n → number_of a ≡ m → Numbered n ys → AllByRecursion (λ b. node_cmp a b ≡ Less) ys
below_list m n a [] lt e all = tt
below_list m n a (y ∷ ys) lt e all = (node_cmp-lists a y (omega (arith, e, all.0)), below_list m n a ys lt e all.1)

-- each of the first nodes is below each of the others
abbrev AllBelow : List Node → List Node → Type 0
AllBelow xs ys = AllByRecursion (λ a. AllByRecursion (λ b. node_cmp a b ≡ Less) ys) xs

lists_below : (m n : ℕ) (xs ys : List Node) → m < n → Numbered m xs → Numbered n ys → AllBelow xs ys
lists_below m n [] ys lt left right = tt
lists_below m n (x ∷ xs) ys lt left right = (below_list m n x ys lt left.0 right, lists_below m n xs ys lt left.1 right)

below_both : (xs ys zs : List Node) → AllBelow xs ys → AllBelow xs zs → AllBelow xs (ys ++ zs)
below_both [] ys zs left right = tt
below_both (x ∷ xs) ys zs left right = (all_append x ys zs left.0 right.0, below_both xs ys zs left.1 right.1)

append_ascends : (xs ys : List Node) → AllBelow xs ys → IsStrictlySortedBy node_cmp xs → IsStrictlySortedBy node_cmp ys → IsStrictlySortedBy node_cmp (xs ++ ys)
unfolding IsStrictlySortedBy
append_ascends [] ys below left right = right
append_ascends (x ∷ xs) ys below left right = (all_append x xs ys left.0 below.0, append_ascends xs ys below.1 left.1 right)

pub directory_ascends : (dir : List Node) → IsDirectory dir → IsStrictlySortedBy node_cmp dir
directory_ascends dir is =
    let files = list_of-numbered 1 dir in
    let directories = list_of-numbered 2 dir in
    let symlinks = list_of-numbered 3 dir in
    let last = append_ascends (list_of 2 dir) (list_of 3 dir) (lists_below 2 3 (list_of 2 dir) (list_of 3 dir) (omega arith) directories symlinks) (list_ascends 2 dir is.directories) (list_ascends 3 dir is.symlinks) in
    let below = below_both (list_of 1 dir) (list_of 2 dir) (list_of 3 dir) (lists_below 1 2 (list_of 1 dir) (list_of 2 dir) (omega arith) files directories) (lists_below 1 3 (list_of 1 dir) (list_of 3 dir) (omega arith) files symlinks) in
    let all = append_ascends (list_of 1 dir) (list_of 2 dir ++ list_of 3 dir) below (list_ascends 1 dir is.files) last in
    subst (λ (nodes : List Node). IsStrictlySortedBy node_cmp nodes) (sym is.parts) all

-- the node may stand right behind the one before, if there is one
abbrev pub MayFollow : Option Node → Node → Type 0
MayFollow None node = Unit {0}
MayFollow (Some before) node = node_cmp before node ≡ Less

-- each node may stand right behind the one before it
abbrev pub Chain : Option Node → List Node → Type 0
Chain before [] = Unit {0}
Chain before (node ∷ dir) = MayFollow before node × Chain (Some node) dir

chain_behind : (before : Node) (dir : List Node) → AllByRecursion (λ b. node_cmp before b ≡ Less) dir → IsStrictlySortedBy node_cmp dir → Chain (Some before) dir
unfolding IsStrictlySortedBy
chain_behind before [] below up = tt
chain_behind before (node ∷ dir) below up = (below.0, chain_behind node dir up.0 up.1)

pub chain_from_ascending : (dir : List Node) → IsStrictlySortedBy node_cmp dir → Chain None dir
unfolding IsStrictlySortedBy
chain_from_ascending [] up = tt
chain_from_ascending (node ∷ dir) up = (tt, chain_behind node dir up.0 up.1)

below_all : (a b : Node) (dir : List Node) → node_cmp a b ≡ Less → AllByRecursion (λ c. node_cmp b c ≡ Less) dir → AllByRecursion (λ c. node_cmp a c ≡ Less) dir
below_all a b [] lt below = tt
below_all a b (c ∷ dir) lt below = (node_total.trans a b c lt below.0, below_all a b dir lt below.1)

ascending_behind : (before : Node) (dir : List Node) → Chain (Some before) dir → AllByRecursion (λ b. node_cmp before b ≡ Less) dir × IsStrictlySortedBy node_cmp dir
unfolding IsStrictlySortedBy
ascending_behind before [] chain = (tt, tt)
ascending_behind before (node ∷ dir) chain =
    let rest = ascending_behind node dir chain.1 in
    ((chain.0, below_all before node dir chain.0 rest.0), rest)

pub ascending_from_chain : (dir : List Node) → Chain None dir → IsStrictlySortedBy node_cmp dir
unfolding IsStrictlySortedBy
ascending_from_chain [] chain = tt
ascending_from_chain (node ∷ dir) chain = ascending_behind node dir chain.1

-- the test of two neighbours
behind : ℕ → ℕ → Ordering → ℕ → Node → Result Node DirError
behind m n o at node = cond (ltb n m) (Err (errors.NotCanonical at)) (cond (eqb n m) (by_order at o node) (Ok node))

behind_again : (m n : ℕ) (o : Ordering) (at : ℕ) (node : Node) → ordering_then (nat_cmp m n) o ≡ Less → behind m n o at node ≡ Ok node
unfolding behind
behind_again m n o at node e =
    elim (cases_order m n) [
      | inl same ↦
          let tied : nat_cmp m n ≡ Equal = ap (nat_cmp m) (sym same) ∙ tied_itself nat_cmp_total m in
          let less : o ≡ Less = ap (λ (r : Ordering). ordering_then r o) (sym tied) ∙ e in
          rw (le-ltb n m (omega (arith, same)), eq-eqb n m (sym same), less) refl
      | inr apart ↦
          elim apart [
            | inl lt ↦ rw (le-ltb n m (omega (arith, lt)), ne_eqb n m (λ e. omega (arith, lt))) refl
            | inr gt ↦ absurd (not_less o (ap (λ (r : Ordering). ordering_then r o) (sym (nat_cmp-greater m n gt)) ∙ e))
          ]
    ]

pub after_again : (before : Option Node) (at : ℕ) (node : Node) → MayFollow before node → after before at node ≡ Ok node
unfolding behind
after_again None at node h = refl
after_again (Some before) at node h = behind_again (number_of before) (number_of node) (slice_cmp nat_cmp (name_of before) (name_of node)) at node h
