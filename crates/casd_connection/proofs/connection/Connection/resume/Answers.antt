use Rattle.std.proofs.Common.{◌≡◌, ◌∙◌, ◌^◌, List, None, Some, sym, ap}
use Rattle.casd_connection.specs.Waiters.{Waiter}
use Rattle.casd_connection.specs.Exchange.{place_in}
use Rattle.casd_connection.proofs.TurnLaws.{on_ok, on_err, stream_none, stream_turned, stream_broken}
use Rattle.casd_connection.proofs.connection.Connection.resume.Goals as goal

pub returns-in-None-clause-ok : goal.returns-in-None-clause-ok
returns-in-None-clause-ok g c =
    let none : place_in c.args.stream c.args.self.now.live.items ≡ None =
    ap (λ (live : List Waiter). place_in c.args.stream live) (sym c.deref.ensures.value) ∙ sym c.place_in.ensures.place ∙ c.in-None.is in
    stream_none c.args.happening (place_in c.args.stream c.args.self.now.live.items) c.args.self.now.calls c.args.self.now.live.items c.args.self.now.over (g.D.Door.view c.args.door.now) (g.K.Shelf.shelved c.args.shelf.now) (2 ^ 22)
    none c.requires.is_in (c.left-turns.ensures.seated c.requires.is_in)

pub returns-in-Some-clause-ok : goal.returns-in-Some-clause-ok
returns-in-Some-clause-ok g c =
    let there : place_in c.args.stream c.args.self.now.live.items ≡ Some c.in-Some.row =
    ap (λ (live : List Waiter). place_in c.args.stream live) (sym c.deref.ensures.value) ∙ sym c.place_in.ensures.place ∙ c.in-Some.is in
    on_ok c.resume_row.result
    (λ k. stream_turned c.args.happening (place_in c.args.stream c.args.self.now.live.items) c.in-Some.row c.args.self.now.calls c.resume_row.new.self.calls c.args.self.now.live.items c.resume_row.new.self.live.items c.args.self.now.over c.resume_row.new.self.over (g.D.Door.view c.args.door.now) (g.D.Door.view c.resume_row.new.door) (g.K.Shelf.shelved c.args.shelf.now) (g.K.Shelf.shelved c.resume_row.new.shelf) (2 ^ 22) there k)
    c.resume_row.ensures.ok

pub returns-in-Some-clause-err : goal.returns-in-Some-clause-err
returns-in-Some-clause-err g c =
    let there : place_in c.args.stream c.args.self.now.live.items ≡ Some c.in-Some.row =
    ap (λ (live : List Waiter). place_in c.args.stream live) (sym c.deref.ensures.value) ∙ sym c.place_in.ensures.place ∙ c.in-Some.is in
    on_err c.resume_row.result (λ k. stream_broken c.args.happening (place_in c.args.stream c.args.self.now.live.items) c.in-Some.row c.args.self.now.calls c.args.self.now.live.items c.args.self.now.over (g.D.Door.view c.args.door.now) (g.D.Door.view c.resume_row.new.door) (g.K.Shelf.shelved c.args.shelf.now) (g.K.Shelf.shelved c.resume_row.new.shelf) (2 ^ 22) there k) c.resume_row.ensures.err
