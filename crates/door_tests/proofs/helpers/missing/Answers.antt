use Rattle.store_core.specs.declared.event.Reply.TheVariants.{Missing}
use Rattle.blob_store.proofs.GoingOn.{find_goes_on}
use Rattle.door_tests.proofs.helpers.missing.Goals as goal

pub returns : goal.returns
returns g c = find_goes_on c.args.door.now.view c.find-2.new.self.view c.from_vec.result (Missing c.in-Ok-find.missing) c.requires.none c.in-Ok-find.ensures.ok
