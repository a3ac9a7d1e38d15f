use Rattle.std.proofs.Common.{◌≡◌, ◌≢◌, ◌++◌, ◌∙◌, List, ℕ, [], ◌∷◌, Some, length, sym, ap, subst, append_assoc}
use Rattle.std.specs.List.{AllByRecursion}
use Rattle.digest_types.specs.Name.{HashAndSize}
use Rattle.digest_types.specs.Digest.{IsDigest}
use Rattle.cache_folder.specs.UseList.{lines, line, last_line, IsUseText}
use Rattle.cache_folder.proofs.UseLemmas.{from_prefix, is_repeated, is_unended, is_text, one_text, lines_push, each_push, distinct_from, pushed, was_there}
use Rattle.cache_folder.proofs.use_list.read_use.Goals as goal

pub returns-then-not-branch : goal.returns-then-not-branch
returns-then-not-branch c = λ order.
    let d = c.in-Some-next_digest.found.0 in
    let ds = c.lines.order.keys in
    let found = c.in-Some-next_digest.ensures.some in
    let whole = from_prefix c.args.text.now c.in-Some.lines.now c.in-Some.ensures.cases.0 c.in-Some.ensures.cases.1 in
    let added = c.in_ok-insert.ensures.added in
    let had = was_there ds d c.in_ok-insert.field-0 added c.if-not-branch.true in (
      λ e. absurd cc,
      λ u. absurd (is_repeated c.args.text.now c.in-Some.lines.now c.lines.rest.now c.in-Some-next_digest.found.1.now ds d
          whole c.lines.invariant.whole c.lines.invariant.digests found.0 found.1 had order u),
    )

pub lines-preserved : goal.lines-preserved
lines-preserved c =
    let d = c.in-Some-next_digest.found.0 in
    let ds = c.lines.order.keys in
    let found = c.in-Some-next_digest.ensures.some in
    let added = c.in_ok-insert.ensures.added in
    let taken = c.in_ok-insert.ensures.keys in
    let keys : c.insert.new.self.keys ≡ ds ++ d ∷ [] = pushed ds d c.insert.new.self.keys c.in_ok-insert.field-0 added c.if-not-branch.false taken in
    record {
      digests = subst (λ (xs : List HashAndSize). AllByRecursion IsDigest xs) (sym keys) (each_push IsDigest ds d c.lines.invariant.digests found.0);
      distinct = distinct_from c.insert.new.self.keys c.in_ok-insert.ensures.unique;
      whole = ap (λ (xs : List HashAndSize). lines xs ++ c.in-Some-next_digest.found.1.now) keys
          ∙ ap (λ (t : List ℕ). t ++ c.in-Some-next_digest.found.1.now) (lines_push ds d)
          ∙ append_assoc (lines ds) (line d) c.in-Some-next_digest.found.1.now
          ∙ ap (λ (t : List ℕ). lines ds ++ t) (sym found.1)
          ∙ c.lines.invariant.whole;
    }

pub returns-then-not-branch-2 : goal.returns-then-not-branch-2
returns-then-not-branch-2 c = λ order.
    let ds = c.lines.order.keys in
    let whole = from_prefix c.args.text.now c.in-Some.lines.now c.in-Some.ensures.cases.0 c.in-Some.ensures.cases.1 in
    let unended : c.lines.rest.now ≢ last_line (length ds) =
    λ e. (let yes = c.in_ok-is_end.ensures.1 (e ∙ ap last_line (sym c.len.ensures.len)) in let no = c.if-not-branch-2.true in cc) in (
      λ e. absurd cc,
      λ u. absurd (is_unended c.args.text.now c.in-Some.lines.now c.lines.rest.now ds
          whole c.lines.invariant.whole c.lines.invariant.digests c.in_default-next_digest.ensures.none unended order u),
    )

pub returns : goal.returns
returns c = λ order.
    let ds = c.lines.order.keys in
    let whole = from_prefix c.args.text.now c.in-Some.lines.now c.in-Some.ensures.cases.0 c.in-Some.ensures.cases.1 in
    let copy : c.in_ok-copy_of.field-0 ≡ ds = c.in_ok-copy_of.ensures ∙ c.as_slice.ensures.keys in
    let end : c.lines.rest.now ≡ last_line (length ds) = c.in_ok-is_end.ensures.0 c.if-not-branch-2.false ∙ ap last_line c.len.ensures.len in
    let read = is_text c.args.text.now c.in-Some.lines.now c.lines.rest.now ds whole c.lines.invariant.whole c.lines.invariant.digests c.lines.invariant.distinct end in (
      λ e. let all : ds ≡ order = cc in subst (λ (xs : List HashAndSize). IsUseText xs c.args.text.now) all read,
      λ u. let all = one_text c.args.text.now c.in-Some.lines.now c.lines.rest.now ds order whole c.lines.invariant.whole c.lines.invariant.digests c.in_default-next_digest.ensures.none u in
          ap (λ (xs : List HashAndSize). Some xs) (copy ∙ all),
    )
