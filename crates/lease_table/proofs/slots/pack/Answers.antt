use Rattle.std.proofs.Common.{rules, ◌≡◌, ◌∙◌, is_some, ap, length}
use Rattle.lease_table.specs.Slots.{live}
use Rattle.std.proofs.lemmas.Fn.{filter_same}
use Rattle.std.specs.Prelude.{filter}
use Rattle.lease_table.proofs.SlotLaws.{live_packed, packed_length}
use Rattle.lease_table.proofs.slots.pack.Goals as goal

packed : (c : goal.After-retain) → c.retain.new.self.items ≡ filter is_some c.args.slots.now.items
packed c = filter_same _ is_some _ (λ x b f call. search rules) _ _ c.retain.ensures.filtered

pub returns-clause-live : goal.returns-clause-live
returns-clause-live c = ap live (packed c) ∙ live_packed c.args.slots.now.items

pub returns-clause-len : goal.returns-clause-len
returns-clause-len c = ap length (packed c) ∙ packed_length c.args.slots.now.items
