use Rattle.std.proofs.Common.{◌≡◌, ◌++◌, drop}
use Rattle.cache_folder.specs.UseList.{first_line, lines}
use Rattle.cache_folder.proofs.use_list.use_text.Given as goal

-- what was written and the lines of the rest are the first line and all lines
abbrev pub invariant-loop-digest : goal.invariant-loop-digest
invariant-loop-digest l = l.text ++ lines (drop l.digest-index l.digest-items) ≡ first_line ++ lines l.digest-items
