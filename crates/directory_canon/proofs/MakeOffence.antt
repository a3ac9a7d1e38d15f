-- The first node that offends, met node by node.
use Rattle.std.proofs.Common.{◌≡◌, refl, sym, ◌∙◌, ap, ℕ, ◌+◌, ◌<◌, suc, true, false, not, List, [], ◌∷◌, ◌++◌, take, drop, length, get_or, add-one, Some, None, if◌then◌else◌}
use Rattle.std.proofs.Math.Seq.{drop-cons}
use Rattle.std.proofs.lemmas.List.{take_more}
use Rattle.directory_canon.specs.declared.error.DirError.TheVariants as errors
use Rattle.directory_canon.specs.declared.node.Node.{Node}
use Rattle.directory_canon.specs.Node.{name_of, is_name}
use Rattle.directory_canon.specs.Making.{has_target, has_name, offence}

-- the names of nodes, the last first, before names that were there
abbrev pub seen : List (List ℕ) → List Node → List (List ℕ)
seen names [] = names
seen names (node ∷ others) = seen (name_of node ∷ names) others

pub seen-push : (names : List (List ℕ)) (xs : List Node) (node : Node) → seen names (xs ++ node ∷ []) ≡ name_of node ∷ seen names xs
seen-push names [] node = refl
seen-push names (x ∷ xs) node = seen-push (name_of x ∷ names) xs node

-- what is left of the search at a node
abbrev pub Left : List Node → ℕ → Type 0
Left nodes i = offence (seen [] (take i nodes)) i (drop i nodes) ≡ offence [] 0 nodes

step : (names : List (List ℕ)) (i : ℕ) (node : Node) (others : List Node) → offence names i (node ∷ others) ≡ (if not (is_name (name_of node)) then Some (errors.BadName i) else if not (has_target node) then Some (errors.BadTarget i) else if has_name names (name_of node) then Some (errors.Twice i) else offence (name_of node ∷ names) (i + 1) others)
unfolding offence
step names i node others = refl

module _ (nodes : List Node) (i : ℕ) (node : Node) (lt : i < length nodes) (is : node ≡ get_or nodes i node) (left : Left nodes i) where
  names : List (List ℕ)
  names = seen [] (take i nodes)

  here : offence [] 0 nodes ≡ (if not (is_name (name_of node)) then Some (errors.BadName i) else if not (has_target node) then Some (errors.BadTarget i) else if has_name (seen [] (take i nodes)) (name_of node) then Some (errors.Twice i) else offence (name_of node ∷ seen [] (take i nodes)) (i + 1) (drop (i + 1) nodes))
  here =
      let cut : drop i nodes ≡ node ∷ drop (i + 1) nodes =
      drop-cons nodes i node lt ∙ ap (λ (x : Node). x ∷ drop (suc i) nodes) (sym is) ∙ ap (λ (k : ℕ). node ∷ drop k nodes) (sym (add-one i)) in
      sym left ∙ ap (λ (xs : List Node). offence (seen [] (take i nodes)) i xs) cut ∙ step (seen [] (take i nodes)) i node (drop (i + 1) nodes)

  pub bad_name : is_name (name_of node) ≡ false → offence [] 0 nodes ≡ Some (errors.BadName i)
  bad_name n = here ∙ ap (λ b. if not b then Some (errors.BadName i) else if not (has_target node) then Some (errors.BadTarget i) else if has_name (seen [] (take i nodes)) (name_of node) then Some (errors.Twice i) else offence (name_of node ∷ seen [] (take i nodes)) (i + 1) (drop (i + 1) nodes)) n

  named : is_name (name_of node) ≡ true → offence [] 0 nodes ≡ (if not (has_target node) then Some (errors.BadTarget i) else if has_name (seen [] (take i nodes)) (name_of node) then Some (errors.Twice i) else offence (name_of node ∷ seen [] (take i nodes)) (i + 1) (drop (i + 1) nodes))
  named n = here ∙ ap (λ b. if not b then Some (errors.BadName i) else if not (has_target node) then Some (errors.BadTarget i) else if has_name (seen [] (take i nodes)) (name_of node) then Some (errors.Twice i) else offence (name_of node ∷ seen [] (take i nodes)) (i + 1) (drop (i + 1) nodes)) n

  pub bad_target : is_name (name_of node) ≡ true → has_target node ≡ false → offence [] 0 nodes ≡ Some (errors.BadTarget i)
  bad_target n t = named n ∙ ap (λ b. if not b then Some (errors.BadTarget i) else if has_name (seen [] (take i nodes)) (name_of node) then Some (errors.Twice i) else offence (name_of node ∷ seen [] (take i nodes)) (i + 1) (drop (i + 1) nodes)) t

  valid : is_name (name_of node) ≡ true → has_target node ≡ true → offence [] 0 nodes ≡ (if has_name (seen [] (take i nodes)) (name_of node) then Some (errors.Twice i) else offence (name_of node ∷ seen [] (take i nodes)) (i + 1) (drop (i + 1) nodes))
  valid n t = named n ∙ ap (λ b. if not b then Some (errors.BadTarget i) else if has_name (seen [] (take i nodes)) (name_of node) then Some (errors.Twice i) else offence (name_of node ∷ seen [] (take i nodes)) (i + 1) (drop (i + 1) nodes)) t

  pub twice : is_name (name_of node) ≡ true → has_target node ≡ true → has_name (seen [] (take i nodes)) (name_of node) ≡ true → offence [] 0 nodes ≡ Some (errors.Twice i)
  twice n t h = valid n t ∙ ap (λ b. if b then Some (errors.Twice i) else offence (name_of node ∷ seen [] (take i nodes)) (i + 1) (drop (i + 1) nodes)) h

  -- the names before the next node
  pub seen_more : seen [] (take (i + 1) nodes) ≡ name_of node ∷ seen [] (take i nodes)
  seen_more =
      ap (seen []) (take_more nodes i node lt ∙ ap (λ (x : Node). take i nodes ++ x ∷ []) (sym is)) ∙ seen-push [] (take i nodes) node

  pub goes_on : is_name (name_of node) ≡ true → has_target node ≡ true → has_name (seen [] (take i nodes)) (name_of node) ≡ false → Left nodes (i + 1)
  goes_on n t h =
      ap (λ (names : List (List ℕ)). offence names (i + 1) (drop (i + 1) nodes)) seen_more
      ∙ sym (valid n t ∙ ap (λ b. if b then Some (errors.Twice i) else offence (name_of node ∷ seen [] (take i nodes)) (i + 1) (drop (i + 1) nodes)) h)

pub starts : (nodes : List Node) → Left nodes 0
starts nodes = refl

pub ends : (nodes : List Node) (names : List (List ℕ)) (i : ℕ) → drop i nodes ≡ [] → offence names i (drop i nodes) ≡ None
unfolding offence
ends nodes names i e = ap (offence names i) e
