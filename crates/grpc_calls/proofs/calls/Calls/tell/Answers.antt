use Rattle.std.proofs.Common.{◌≡◌, ◌++◌, ℕ, List, subst}
use Rattle.std.specs.Prelude.{OnOk, IfOk}
use Rattle.hpack_tables.specs.declared.header.Header.{Header}
use Rattle.grpc_calls.specs.Calls.{Calls}
use Rattle.grpc_calls.specs.Table.{GivesTold}
use Rattle.grpc_calls.specs.Streams.{told_by, told_headers, call_in}
use Rattle.grpc_calls.proofs.StepLaws.{headers_told, headers_refused}
use Rattle.grpc_calls.proofs.calls.Calls.tell.Goals as goal

pub returns-in-Headers-clause-ok : goal.returns-in-Headers-clause-ok
returns-in-Headers-clause-ok c =
    let before : Calls = record { reader = c.self.inside.reader; session = c.self.inside.session; calls = c.self.inside.calls.items; pending = c.self.inside.pending.items } in
    let now : Calls = record { reader = c.self.inside.reader; session = c.self.inside.session; calls = c.tell_headers.new.calls.items; pending = c.tell_headers.new.events.items } in
    let P : Calls → Type 0 = λ (x : Calls). OnOk c.tell_headers.result (now ≡ record x { calls = (told_by x.session.part c.args.event x.calls).calls; pending = x.pending ++ (told_by x.session.part c.args.event x.calls).events }) in
    let Q : List Header → Type 0 = λ (hs : List Header). OnOk c.tell_headers.result (GivesTold (told_headers c.is_client-client.result c.is_fresh-fresh.result c.in-Headers.stream hs c.in-Headers.end (call_in c.in-Headers.stream c.self.inside.calls.items) c.self.inside.calls.items) c.tell_headers.new.calls.items c.self.inside.pending.items c.tell_headers.new.events.items) in
    subst P c.self.view_is (headers_told before c.is_client-client.result c.is_fresh-fresh.result c.in-Headers.stream c.in-Headers.headers c.in-Headers.end c.args.event c.tell_headers.new.calls.items c.tell_headers.new.events.items c.tell_headers.result
    c.is_client-client.ensures c.is_fresh-fresh.ensures c.in-Headers.is (subst Q c.as_slice.ensures c.tell_headers.ensures.told))

pub returns-in-Headers-clause-refused : goal.returns-in-Headers-clause-refused
returns-in-Headers-clause-refused c =
    let before : Calls = record { reader = c.self.inside.reader; session = c.self.inside.session; calls = c.self.inside.calls.items; pending = c.self.inside.pending.items } in
    let P : Calls → Type 0 = λ (x : Calls). IfOk c.tell_headers.result (λ r. r ≡ (told_by x.session.part c.args.event x.calls).refused) in
    let Q : List Header → Type 0 = λ (hs : List Header). IfOk c.tell_headers.result (λ r. r ≡ (told_headers c.is_client-client.result c.is_fresh-fresh.result c.in-Headers.stream hs c.in-Headers.end (call_in c.in-Headers.stream c.self.inside.calls.items) c.self.inside.calls.items).refused) in
    subst P c.self.view_is (headers_refused before c.is_client-client.result c.is_fresh-fresh.result c.in-Headers.stream c.in-Headers.headers c.in-Headers.end c.args.event c.tell_headers.result
    c.is_client-client.ensures c.is_fresh-fresh.ensures c.in-Headers.is (subst Q c.as_slice.ensures c.tell_headers.ensures.refused))
