use Rattle.std.proofs.Common.{◌≡◌, sym, ◌∙◌, true, false}
use Rattle.std.specs.List.{list_any}
use Rattle.directory_canon.specs.Views.{has_name}
use Rattle.directory_canon.proofs.TwiceLemmas.{file_twice, directory_twice, link_twice}
use Rattle.directory_canon.proofs.twice.is_twice.Goals as goal

pub returns-in-File : goal.returns-in-File
returns-in-File c = sym (file_twice c.args.all.now c.args.placed.now c.in-File.name c.in-File.digest c.in-File.exec c.in-File.is)

pub returns-in-Dir : goal.returns-in-Dir
returns-in-Dir c = c.has_name.ensures ∙ sym (directory_twice c.args.all.now c.args.placed.now c.in-Dir.name c.in-Dir.digest c.in-Dir.is)

pub returns-then-has_name : goal.returns-then-has_name
returns-then-has_name c =
    let first : list_any (has_name 1 c.in-Link.name.now) c.args.all.now ≡ true = sym c.has_name-in-Link.ensures ∙ c.if-has_name.true in
    rw (link_twice c.args.all.now c.args.placed.now c.in-Link.name c.in-Link.target c.in-Link.is, first) c.if-has_name.true

pub returns-else-has_name : goal.returns-else-has_name
returns-else-has_name c =
    let first : list_any (has_name 1 c.in-Link.name.now) c.args.all.now ≡ false = sym c.has_name-in-Link.ensures ∙ c.if-has_name.false in
    rw (link_twice c.args.all.now c.args.placed.now c.in-Link.name c.in-Link.target c.in-Link.is, first) c.has_name-else-has_name.ensures
