-- The name of a body's file.
use Rattle.std.specs.Prelude.{◌++◌, ◌∷◌, ℕ, List}
use Rattle.std.specs.Fmt.{decimal}
use Rattle.cache_folder.specs.declared.body_name.BodyName.{BodyName}

-- three decimal numbers joined by `-`
abbrev pub name_text : BodyName → List ℕ
name_text name = decimal name.run ++ (45 ∷ (decimal name.seat ++ (45 ∷ decimal name.draft)))
