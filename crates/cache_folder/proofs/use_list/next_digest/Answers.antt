use Rattle.std.proofs.Common.{ℕ, List, ◌+◌, ◌++◌, ◌∙◌, drop, sym, ap, arith, length-drop}
use Rattle.std.proofs.lemmas.List.{take_all}
use Rattle.cache_folder.specs.UseList.{line}
use Rattle.cache_folder.proofs.UseLemmas.{no_line, other_line, line_cut}
use Rattle.cache_folder.proofs.use_list.next_digest.Goals as goal

pub returns-in_default-clause-none : goal.returns-in_default-clause-none
returns-in_default-clause-none c = no_line c.args.text.now (sym c.first_newline.ensures ∙ c.in_default.is)

pub returns-in_default-digest_in-clause-none : goal.returns-in_default-digest_in-clause-none
returns-in_default-digest_in-clause-none c =
    other_line c.args.text.now c.in-Some.end (sym c.first_newline.ensures ∙ c.in-Some.is) c.in_default-digest_in.ensures.none

pub returns-clause-some : goal.returns-clause-some
returns-clause-some c =
    let text = c.args.text.now in
    let after = drop (c.in-Some.end + 1) text in
    let d = c.in-Some-digest_in.digest in
    let found = c.in-Some-digest_in.ensures.some in (
      found.0,
      line_cut text c.in-Some.end d (sym c.first_newline.ensures ∙ c.in-Some.is) found.1
          ∙ ap (λ (rest : List ℕ). line d ++ rest) (sym (take_all _ after (omega (arith, length-drop (c.in-Some.end + 1) text)))),
    )
