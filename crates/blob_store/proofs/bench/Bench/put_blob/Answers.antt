use Rattle.std.proofs.Common.{ap, subst, sym, ◌∙◌, ℕ}
use Rattle.proto_wire.specs.declared.memory.OutOfMemory.{OutOfMemory}
use Rattle.store_core.specs.declared.event.Event.{Event}
use Rattle.store_core.specs.declared.event.Event.TheVariants as events
use Rattle.store_core.specs.declared.event.Reply.{Reply}
use Rattle.blob_store.specs.Benched.{view_of}
use Rattle.blob_store.specs.Noted.{MayNote, IsDone}
use Rattle.blob_store.specs.Shelves.{discarding}
use Rattle.blob_store.specs.View.{Makes}
use Rattle.blob_store.proofs.BenchCalls.{bench_of, may_make, makes, put_is, put_gives}
use Rattle.blob_store.proofs.bench.Bench.put_blob.Goals as goal

pub note_put-requires-clause-may : goal.note_put-requires-clause-may
note_put-requires-clause-may g c =
    subst (λ (e : Event). MayNote c.self.inside.store.state c.self.inside.diary c.owner-owner.result e) (sym c.in-Ok.ensures)
    (may_make c.self.inside.store.state c.self.inside.diary c.self.inside.seats.items c.self.inside.chosen c.args.self.now c.owner-owner.result (events.Put c.args.blob.digest c.args.blob.edges) c.self.view_is c.self.invariant c.requires c.owner-owner.ensures tt (λ e. absurd cc))

pub put_answer-requires : goal.put_answer-requires
put_answer-requires g c =
    put_is c.self.inside.store.state c.note_put.new.store.state c.self.inside.diary c.note_put.new.diary c.self.inside.seats.items c.self.inside.chosen c.args.self.now c.owner-owner.result c.args.blob.digest c.args.blob.edges c.in_ok-reply.reply c.self.view_is c.self.invariant c.requires c.owner-owner.ensures
    (subst (λ (e : Event). IsDone c.self.inside.store.state c.note_put.new.store.state c.self.inside.diary c.note_put.new.diary c.owner-owner.result e c.in_ok-reply.reply) c.in-Ok.ensures c.in_ok-reply.ensures.ok)

pub invariant_of-self-2 : goal.invariant_of-self-2
invariant_of-self-2 g c =
    (makes c.self.inside.store.state c.note_put.new.store.state c.self.inside.diary c.note_put.new.diary c.self.inside.seats.items c.self.inside.chosen c.args.self.now c.owner-owner.result (events.Put c.args.blob.digest c.args.blob.edges) c.in_ok-reply.reply c.self.view_is c.self.invariant c.requires c.owner-owner.ensures tt (λ e. absurd cc) (λ e. absurd cc)
    (subst (λ (e : Event). IsDone c.self.inside.store.state c.note_put.new.store.state c.self.inside.diary c.note_put.new.diary c.owner-owner.result e c.in_ok-reply.reply) c.in-Ok.ensures c.in_ok-reply.ensures.ok)).0

pub returns-clause-ok : goal.returns-clause-ok
returns-clause-ok g c =
    subst (λ (r : Reply). Makes (view_of c.args.self.now) (view_of (bench_of c.note_put.new.diary c.self.inside.seats.items c.self.inside.chosen)) (events.Put c.args.blob.digest c.args.blob.edges) r) (sym c.put_answer.ensures)
    (makes c.self.inside.store.state c.note_put.new.store.state c.self.inside.diary c.note_put.new.diary c.self.inside.seats.items c.self.inside.chosen c.args.self.now c.owner-owner.result (events.Put c.args.blob.digest c.args.blob.edges) c.in_ok-reply.reply c.self.view_is c.self.invariant c.requires c.owner-owner.ensures tt (λ e. absurd cc) (λ e. absurd cc)
    (subst (λ (e : Event). IsDone c.self.inside.store.state c.note_put.new.store.state c.self.inside.diary c.note_put.new.diary c.owner-owner.result e c.in_ok-reply.reply) c.in-Ok.ensures c.in_ok-reply.ensures.ok)).1

pub returns-clause-shelf : goal.returns-clause-shelf
returns-clause-shelf g c =
    c.in_ok-reply.ensures.shelf ∙ ap (λ (n : ℕ). discarding n (g.K.Shelf.shelved c.args.shelf.now)) (put_gives OutOfMemory c.put_answer.result c.in_ok-reply.reply c.put_answer.ensures)
