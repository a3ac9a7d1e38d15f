use Rattle.blob_store.proofs.BenchCalls.{may_enter, enters}
use Rattle.blob_store.proofs.bench.BenchDoor.enter.Goals as goal

pub note-requires-clause-may : goal.note-requires-clause-may
note-requires-clause-may g c =
    may_enter c.self.inside.store.state c.self.inside.diary c.self.inside.seats.items c.self.inside.chosen c.args.self.now c.next_owner-owner.result c.self.view_is c.self.invariant c.requires.turn c.next_owner-owner.ensures

pub invariant_of-self-2 : goal.invariant_of-self-2
invariant_of-self-2 g c =
    (enters c.self.inside.store.state c.note.new.store.state c.self.inside.diary c.note.new.diary c.self.inside.seats.items c.self.inside.chosen c.args.self.now c.next_owner-owner.result c.in_ok-note.field-0 c.self.view_is c.self.invariant c.requires.turn c.next_owner-owner.ensures c.in_ok-note.ensures.ok).0

pub returns-clause-ok : goal.returns-clause-ok
returns-clause-ok g c =
    (enters c.self.inside.store.state c.note.new.store.state c.self.inside.diary c.note.new.diary c.self.inside.seats.items c.self.inside.chosen c.args.self.now c.next_owner-owner.result c.in_ok-note.field-0 c.self.view_is c.self.invariant c.requires.turn c.next_owner-owner.ensures c.in_ok-note.ensures.ok).1
