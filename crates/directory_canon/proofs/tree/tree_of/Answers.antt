-- The children are the rows that are kept.
use Rattle.std.proofs.Common.{◌≡◌, refl, sym, subst, ◌↔◌, Contains, List}
use Rattle.std.specs.List.Sorted.{IsStrictlySortedBy}
use Rattle.directory_canon.specs.declared.node.Node.{Node}
use Rattle.directory_canon.specs.Tree.{tree_cmp}
use Rattle.directory_canon.proofs.tree.tree_of.Goals as goal

pub returns : goal.returns
returns c =
    let kept : c.in_ok-children.children ≡ c.keep_distinct.new.rows.items = c.in_ok-children.ensures in
    record {
      root = refl;
      children = λ dir.
          subst (λ (dirs : List (List Node)). Contains dirs dir ↔ Contains c.args.below.items dir) (sym kept)
          (subst (λ (dirs : List (List Node)). Contains c.keep_distinct.new.rows.items dir ↔ Contains dirs dir) c.in_ok-rows.ensures.same
          (c.keep_distinct.ensures.same c.in_ok-rows.ensures.are dir));
      ascending = subst (IsStrictlySortedBy tree_cmp) (sym kept) c.keep_distinct.ensures.ascending;
    }
