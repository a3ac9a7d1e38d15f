use Rattle.blob_store.proofs.BenchCalls.{asked_quiet, may_ask, asks}
use Rattle.blob_store.proofs.bench.Bench.ask.Goals as goal

pub note-requires-clause-quiet : goal.note-requires-clause-quiet
note-requires-clause-quiet g c = asked_quiet c.args.self.now c.args.event.now c.requires.may

pub note-requires-clause-may : goal.note-requires-clause-may
note-requires-clause-may g c = may_ask c.self.inside.store.state c.self.inside.diary c.self.inside.seats.items c.self.inside.chosen c.args.self.now c.owner-owner.result c.args.event.now c.self.view_is c.self.invariant c.requires.call c.requires.may c.owner-owner.ensures

pub invariant_of-self : goal.invariant_of-self
invariant_of-self g c =
    (asks c.note.result c.self.inside.store.state c.note.new.store.state c.self.inside.diary c.note.new.diary c.self.inside.seats.items c.self.inside.chosen c.args.self.now c.owner-owner.result c.args.event.now c.self.view_is c.self.invariant c.requires.call c.requires.may c.owner-owner.ensures c.note.ensures.ok c.note.ensures.err).bench

pub returns-clause-made : goal.returns-clause-made
returns-clause-made g c =
    (asks c.note.result c.self.inside.store.state c.note.new.store.state c.self.inside.diary c.note.new.diary c.self.inside.seats.items c.self.inside.chosen c.args.self.now c.owner-owner.result c.args.event.now c.self.view_is c.self.invariant c.requires.call c.requires.may c.owner-owner.ensures c.note.ensures.ok c.note.ensures.err).made

pub returns-clause-answer : goal.returns-clause-answer
returns-clause-answer g c =
    (asks c.note.result c.self.inside.store.state c.note.new.store.state c.self.inside.diary c.note.new.diary c.self.inside.seats.items c.self.inside.chosen c.args.self.now c.owner-owner.result c.args.event.now c.self.view_is c.self.invariant c.requires.call c.requires.may c.owner-owner.ensures c.note.ensures.ok c.note.ensures.err).answer

pub returns-clause-err : goal.returns-clause-err
returns-clause-err g c =
    (asks c.note.result c.self.inside.store.state c.note.new.store.state c.self.inside.diary c.note.new.diary c.self.inside.seats.items c.self.inside.chosen c.args.self.now c.owner-owner.result c.args.event.now c.self.view_is c.self.invariant c.requires.call c.requires.may c.owner-owner.ensures c.note.ensures.ok c.note.ensures.err).err
