-- Each refusal is the offence, and a node without one leaves the search to the next.
use Rattle.std.proofs.Common.{◌≡◌, ◌∙◌, sym, ap, subst, inr, ◌||◌, nat_eq, true, false, [], ◌<◌, ℕ, List, length, get_or, take, arith}
use Rattle.std.proofs.lemmas.List.{drop_all}
use Rattle.std.specs.Cmp.Lexicographic.{pointwise}
use Rattle.std.proofs.lemmas.List.Elements.{All-more}
use Rattle.directory_canon.specs.declared.node.Node.{Node}
use Rattle.directory_canon.specs.Node.{name_of, is_name, IsNode}
use Rattle.directory_canon.specs.Making.{has_target, has_name}
use Rattle.directory_canon.proofs.MakeNames.{texts, has_more, was_new, was_there}
use Rattle.directory_canon.proofs.MakeOffence.{seen, bad_name, bad_target, twice, goes_on, seen_more, ends}
use Rattle.directory_canon.proofs.first.refuse_first.Goals as goal

pub returns-then-not-is_name-clause-refused : goal.returns-then-not-is_name-clause-refused
returns-then-not-is_name-clause-refused c =
    let lt : c.loop-at.at < length c.args.nodes.now = omega arith in
    let n : is_name (name_of c.index-nodes-at.result) ≡ false = cc in
    inr (bad_name c.args.nodes.now c.loop-at.at c.index-nodes-at.result lt c.index-nodes-at.is c.loop-at.invariant.left n)

pub returns-then-not-target_fits-clause-refused : goal.returns-then-not-target_fits-clause-refused
returns-then-not-target_fits-clause-refused c =
    let lt : c.loop-at.at < length c.args.nodes.now = omega arith in
    let n : is_name (name_of c.index-nodes-at.result) ≡ true = cc in
    let t : has_target c.index-nodes-at.result ≡ false = cc in
    inr (bad_target c.args.nodes.now c.loop-at.at c.index-nodes-at.result lt c.index-nodes-at.is c.loop-at.invariant.left n t)

pub returns-then-not-branch-clause-refused : goal.returns-then-not-branch-clause-refused
returns-then-not-branch-clause-refused c =
    let lt : c.loop-at.at < length c.args.nodes.now = omega arith in
    let n : is_name (name_of c.index-nodes-at.result) ≡ true = cc in
    let t : has_target c.index-nodes-at.result ≡ true = cc in
    let there : has_name (texts c.loop-at.names.keys) c.name-name.result.now ≡ true =
    was_there c.loop-at.names.keys c.name-name.result (sym c.if-not-branch.true ∙ c.in_ok-insert.ensures.added) in
    let h : has_name (seen [] (take c.loop-at.at c.args.nodes.now)) (name_of c.index-nodes-at.result) ≡ true =
    sym (c.loop-at.invariant.names (name_of c.index-nodes-at.result))
    ∙ ap (has_name (texts c.loop-at.names.keys)) (sym c.name-name.ensures) ∙ there in
    inr (twice c.args.nodes.now c.loop-at.at c.index-nodes-at.result lt c.index-nodes-at.is c.loop-at.invariant.left n t h)

pub loop-at-preserved : goal.loop-at-preserved
loop-at-preserved c =
    let nodes : List Node = c.args.nodes.now in
    let at : ℕ = c.loop-at.at in
    let node : Node = c.index-nodes-at.result in
    let lt : c.loop-at.at < length c.args.nodes.now = omega arith in
    let is : node ≡ get_or nodes at node = c.index-nodes-at.is in
    let n : is_name (name_of c.index-nodes-at.result) ≡ true = cc in
    let t : has_target c.index-nodes-at.result ≡ true = cc in
    let new : has_name (texts c.loop-at.names.keys) c.name-name.result.now ≡ false =
    was_new c.loop-at.names.keys c.name-name.result (sym c.if-not-branch.false ∙ c.in_ok-insert.ensures.added) in
    let h : has_name (seen [] (take c.loop-at.at c.args.nodes.now)) (name_of c.index-nodes-at.result) ≡ false =
    sym (c.loop-at.invariant.names (name_of c.index-nodes-at.result))
    ∙ ap (has_name (texts c.loop-at.names.keys)) (sym c.name-name.ensures) ∙ new in
    record {
      left = goes_on nodes at node lt is c.loop-at.invariant.left n t h;
      valid = All-more IsNode nodes at node lt c.loop-at.invariant.valid (subst IsNode is (c.target_fits.ensures.node n t));
      names = λ name.
          ap (λ (keys : List _). has_name (texts keys) name) c.in_ok-insert.ensures.keys
          ∙ has_more c.loop-at.names.keys c.name-name.result name
          ∙ ap (λ (first : List ℕ). pointwise nat_eq first name || has_name (texts c.loop-at.names.keys) name) c.name-name.ensures
          ∙ ap (λ b. pointwise nat_eq (name_of node) name || b) (c.loop-at.invariant.names name)
          ∙ ap (λ (names : List (List ℕ)). has_name names name) (sym (seen_more nodes at node lt is c.loop-at.invariant.left));
    }

pub returns-clause-none : goal.returns-clause-none
returns-clause-none c =
    sym c.loop-at.invariant.left ∙ ends c.args.nodes.now _ c.loop-at.at (drop_all c.loop-at.at c.args.nodes.now (omega arith))
