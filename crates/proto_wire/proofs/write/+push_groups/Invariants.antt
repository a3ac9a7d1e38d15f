use Rattle.proto_wire.proofs.write.+push_groups.Given as goal

abbrev pub decreases-push_groups : goal.decreases-push_groups
decreases-push_groups l = l.more
