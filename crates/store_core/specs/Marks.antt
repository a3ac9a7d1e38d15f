-- Which rows are reached and guarded, in the order of the rows.
use Rattle.std.specs.Prelude.{ℕ, Bool, List, map}
use Rattle.directory_canon.specs.declared.node.Edge.{Edge}
use Rattle.store_core.specs.State.{State}
use Rattle.store_core.specs.Pass.{is_guarded}
use Rattle.store_core.specs.Reach.{Linked, as_dir, within}

-- for each blob whether it is reached as a Directory within so many steps
abbrev pub near : List Linked → List Edge → ℕ → List Bool
near there starts steps = map (λ blob. within there starts steps (as_dir blob.digest)) there

-- for each row whether it is guarded
abbrev pub guard_marks : State → List Bool
guard_marks s = map (λ row. is_guarded s row.digest) s.rows
