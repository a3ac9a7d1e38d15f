use Rattle.std.proofs.Common.{ap, subst, ◌∙◌, ℕ}
use Rattle.store_core.specs.declared.event.Event.TheVariants as events
use Rattle.store_core.specs.declared.event.Reply.{Reply}
use Rattle.blob_store.specs.Benched.{view_of}
use Rattle.blob_store.specs.Shelves.{discarding}
use Rattle.blob_store.specs.View.{Makes}
use Rattle.blob_store.proofs.BenchCalls.{bench_of, may_make, makes, passed_is, passed_gives}
use Rattle.blob_store.proofs.bench.BenchDoor.pass.Goals as goal

pub note_pass-requires : goal.note_pass-requires
note_pass-requires g c =
    may_make c.self.inside.store.state c.self.inside.diary c.self.inside.seats.items c.self.inside.chosen c.args.self.now c.owner-owner.result events.Pass c.self.view_is c.self.invariant c.requires c.owner-owner.ensures tt (λ e. absurd cc)

pub unreachable-requires : goal.unreachable-requires
unreachable-requires g c =
    let is = passed_is c.self.inside.store.state c.note_pass.new.store.state c.self.inside.diary c.note_pass.new.diary c.self.inside.seats.items c.self.inside.chosen c.args.self.now c.owner-owner.result c.note_pass.result c.self.view_is c.self.invariant c.requires c.owner-owner.ensures c.note_pass.ensures.done in
    c.in_default.not-Passed is.0 is.1 is.2

pub invariant_of-self : goal.invariant_of-self
invariant_of-self g c =
    (makes c.self.inside.store.state c.note_pass.new.store.state c.self.inside.diary c.note_pass.new.diary c.self.inside.seats.items c.self.inside.chosen c.args.self.now c.owner-owner.result events.Pass c.note_pass.result c.self.view_is c.self.invariant c.requires c.owner-owner.ensures tt (λ e. absurd cc) (λ e. absurd cc) c.note_pass.ensures.done).0

pub returns-clause-made : goal.returns-clause-made
returns-clause-made g c =
    subst (λ (r : Reply). Makes (view_of c.args.self.now) (view_of (bench_of c.note_pass.new.diary c.self.inside.seats.items c.self.inside.chosen)) events.Pass r) c.in-Passed.is
    (makes c.self.inside.store.state c.note_pass.new.store.state c.self.inside.diary c.note_pass.new.diary c.self.inside.seats.items c.self.inside.chosen c.args.self.now c.owner-owner.result events.Pass c.note_pass.result c.self.view_is c.self.invariant c.requires c.owner-owner.ensures tt (λ e. absurd cc) (λ e. absurd cc) c.note_pass.ensures.done).1

pub returns-clause-shelf : goal.returns-clause-shelf
returns-clause-shelf g c =
    c.note_pass.ensures.shelf ∙ ap (λ (n : ℕ). discarding n (g.K.Shelf.shelved c.args.shelf.now)) (passed_gives c.note_pass.result c.in-Passed.removed c.in-Passed.used c.in-Passed.is)
