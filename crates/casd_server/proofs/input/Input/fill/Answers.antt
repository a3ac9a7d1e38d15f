use Rattle.std.proofs.Common.{◌+◌, ◌<◌, ◌≤◌, List, ℕ, length, sym, ap, subst, ◌∙◌, arith}
use Rattle.casd_server.specs.Cut.{NoByte}
use Rattle.casd_server.specs.Record.{max_line}
use Rattle.casd_server.proofs.InputLemmas.{Searched, FirstNewline, first_newline, no_newline, begins-line, begins-long, begins-all_long, begins-end, ReadsMore-block, LosesSome-block, Searched-more}
use Rattle.casd_server.proofs.Streams.{OnErr-any}
use Rattle.casd_server.proofs.input.Input.fill.Goals as goal

pub search-preserved : goal.search-preserved
search-preserved g c =
    let same = c.pending-pending.ensures.value in
    let bytes = c.pending-pending.result.now in
    let searched : Searched bytes c.search.searched = subst (λ (xs : List ℕ). Searched xs c.search.searched) (sym same) c.search.invariant.searched in
    let none : NoByte 10 bytes = no_newline bytes c.search.searched searched (sym c.newline_in.ensures ∙ c.in_default.is) in
    let few : length bytes ≤ max_line = c.if-searched-gt-MAX_LINE.false in
    record {
      reads = ReadsMore-block _ _ _ c.args.self.now c.search.self c.read_more.new.self c.in_ok-read_more.field-0 c.search.invariant.reads c.in_ok-read_more.ensures.ok;
      searched = subst (λ (n : ℕ). Searched c.read_more.new.self.bytes n) (sym (ap (λ (xs : List ℕ). length xs) same))
          (Searched-more _ _ c.search.self c.read_more.new.self c.in_ok-read_more.field-0 (subst (NoByte 10) same none) (subst (λ (xs : List ℕ). length xs ≤ max_line) same few) c.in_ok-read_more.ensures.ok);
      later = omega (arith, c.in_ok-read_more.ensures.later, c.search.invariant.later);
    }

pub returns-then-len-gt-MAX_LINE-clause-begins : goal.returns-then-len-gt-MAX_LINE-clause-begins
returns-then-len-gt-MAX_LINE-clause-begins g c =
    let same = c.pending-pending.ensures.value in
    let bytes = c.pending-pending.result.now in
    let searched : Searched bytes c.search.searched = subst (λ (xs : List ℕ). Searched xs c.search.searched) (sym same) c.search.invariant.searched in
    let first : FirstNewline bytes (c.search.searched + c.in-Some.place) = first_newline bytes c.search.searched c.in-Some.place searched (sym c.newline_in.ensures ∙ c.in-Some.is) in
    begins-long c.search.self.bytes (g.S.Source.left c.search.source) (c.search.searched + c.in-Some.place) (subst (λ (xs : List ℕ). FirstNewline xs (c.search.searched + c.in-Some.place)) same first) c.if-len-gt-MAX_LINE.true

pub returns-else-len-gt-MAX_LINE-clause-begins : goal.returns-else-len-gt-MAX_LINE-clause-begins
returns-else-len-gt-MAX_LINE-clause-begins g c =
    let same = c.pending-pending.ensures.value in
    let bytes = c.pending-pending.result.now in
    let searched : Searched bytes c.search.searched = subst (λ (xs : List ℕ). Searched xs c.search.searched) (sym same) c.search.invariant.searched in
    let first : FirstNewline bytes (c.search.searched + c.in-Some.place) = first_newline bytes c.search.searched c.in-Some.place searched (sym c.newline_in.ensures ∙ c.in-Some.is) in
    begins-line c.search.self.bytes (g.S.Source.left c.search.source) (c.search.searched + c.in-Some.place) (subst (λ (xs : List ℕ). FirstNewline xs (c.search.searched + c.in-Some.place)) same first) c.if-len-gt-MAX_LINE.false

pub returns-then-searched-gt-MAX_LINE-clause-begins : goal.returns-then-searched-gt-MAX_LINE-clause-begins
returns-then-searched-gt-MAX_LINE-clause-begins g c =
    let same = c.pending-pending.ensures.value in
    let bytes = c.pending-pending.result.now in
    let searched : Searched bytes c.search.searched = subst (λ (xs : List ℕ). Searched xs c.search.searched) (sym same) c.search.invariant.searched in
    let none : NoByte 10 bytes = no_newline bytes c.search.searched searched (sym c.newline_in.ensures ∙ c.in_default.is) in
    begins-all_long c.search.self.bytes (g.S.Source.left c.search.source) (subst (NoByte 10) same none) (subst (λ (xs : List ℕ). max_line < length xs) same c.if-searched-gt-MAX_LINE.true)

pub returns-then-branch-eq0-clause-begins : goal.returns-then-branch-eq0-clause-begins
returns-then-branch-eq0-clause-begins g c =
    let same = c.pending-pending.ensures.value in
    let bytes = c.pending-pending.result.now in
    let searched : Searched bytes c.search.searched = subst (λ (xs : List ℕ). Searched xs c.search.searched) (sym same) c.search.invariant.searched in
    let none : NoByte 10 bytes = no_newline bytes c.search.searched searched (sym c.newline_in.ensures ∙ c.in_default.is) in
    let few : length bytes ≤ max_line = c.if-searched-gt-MAX_LINE.false in
    begins-end (g.S.Source.left c.search.source) (g.S.Source.left c.read_more.new.source) c.search.self c.read_more.new.self c.in_ok-read_more.field-0
    (subst (NoByte 10) same none) (subst (λ (xs : List ℕ). length xs ≤ max_line) same few) c.in_ok-read_more.ensures.ok c.if-branch-eq0.true (c.in_ok-read_more.ensures.ended c.if-branch-eq0.true)

pub returns-in_err-read_more-clause-err : goal.returns-in_err-read_more-clause-err
returns-in_err-read_more-clause-err g c =
    OnErr-any c.from_residual.result (LosesSome-block _ _ _ c.args.self.now c.search.self c.read_more.new.self c.search.invariant.reads c.in_err-read_more.ensures.err)
