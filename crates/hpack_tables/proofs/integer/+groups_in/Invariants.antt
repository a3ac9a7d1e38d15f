use Rattle.hpack_tables.proofs.integer.+groups_in.Given as goal

abbrev pub decreases-groups_in : goal.decreases-groups_in
decreases-groups_in l = l.more
