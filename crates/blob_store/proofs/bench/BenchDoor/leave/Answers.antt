use Rattle.blob_store.proofs.BenchCalls.{may_leave, leaves}
use Rattle.blob_store.proofs.bench.BenchDoor.leave.Goals as goal

pub note_freely-requires-clause-may : goal.note_freely-requires-clause-may
note_freely-requires-clause-may g c =
    may_leave c.self.inside.store.state c.self.inside.diary c.self.inside.seats.items c.self.inside.chosen c.args.self.now c.owner-owner.result c.self.view_is c.self.invariant c.requires.call c.requires.none c.owner-owner.ensures

pub invariant_of-self : goal.invariant_of-self
invariant_of-self g c =
    (leaves c.self.inside.store.state c.note_freely.new.store.state c.self.inside.diary c.note_freely.new.diary c.self.inside.seats.items c.self.inside.chosen c.args.self.now c.owner-owner.result c.note_freely.result c.self.view_is c.self.invariant c.requires.call c.requires.none c.owner-owner.ensures c.note_freely.ensures).0

pub returns : goal.returns
returns g c =
    (leaves c.self.inside.store.state c.note_freely.new.store.state c.self.inside.diary c.note_freely.new.diary c.self.inside.seats.items c.self.inside.chosen c.args.self.now c.owner-owner.result c.note_freely.result c.self.view_is c.self.invariant c.requires.call c.requires.none c.owner-owner.ensures c.note_freely.ensures).1
