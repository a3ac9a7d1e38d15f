use Rattle.std.proofs.Common.{ℕ, List, Ok, map, sym, ap, ◌∙◌}
use Rattle.std.proofs.lemmas.Result.{err_from_is_err_and}
use Rattle.std.proofs.lemmas.List.{map_push}
use Rattle.proto_wire.specs.Field.{contents_of}
use Rattle.cas_messages.specs.Fault.{with_fault, inside}
use Rattle.cas_messages.specs.Meaning.{each, message_in}
use Rattle.cas_messages.proofs.EachLemmas.{goes_on, ends, is_done}
use Rattle.cas_messages.proofs.get.messages_in.Goals as goal

pub returns-in_err-message_at : goal.returns-in_err-message_at
returns-in_err-message_at g c =
    let p = err_from_is_err_and c.from_residual-in_err-message_at.result c.from_residual-in_err-message_at.ensures.1 in
    let read = λ (index : ℕ) (b : List ℕ). with_fault (inside c.args.number index) (message_in g.T.Message.table b) in
    rw (p.1, p.2)
    (ends read (λ s. s.now) c.deref-content-items.result.now c.contents.index _ c.in_err-message_at.field-0.0 (map g.T.Message.value c.contents.messages.items) (each read 0 (contents_of c.args.number c.args.fields.now)) c.contents-test.true c.in_err-message_at.ensures c.contents.invariant)

pub contents-preserved : goal.contents-preserved
contents-preserved g c =
    let read = λ (index : ℕ) (b : List ℕ). with_fault (inside c.args.number index) (message_in g.T.Message.table b) in
    rw (c.in_ok-push.ensures.items, map_push g.T.Message.value c.contents.messages.items c.in_ok-message_at.field-0)
    (goes_on read (λ s. s.now) c.deref-content-items.result.now c.contents.index _ (map g.T.Message.value c.contents.messages.items) (g.T.Message.value c.in_ok-message_at.field-0) (each read 0 (contents_of c.args.number c.args.fields.now)) c.contents-test.true c.in_ok-message_at.ensures c.contents.invariant)

pub returns : goal.returns
returns g c =
    let read = λ (index : ℕ) (b : List ℕ). with_fault (inside c.args.number index) (message_in g.T.Message.table b) in
    is_done read (λ s. s.now) c.deref-content-items.result.now c.contents.index (map g.T.Message.value c.contents.messages.items) (each read 0 (contents_of c.args.number c.args.fields.now)) c.contents-test.false c.contents.invariant
    ∙ ap (λ ms. Ok (map g.T.Message.value ms)) (sym c.from_vec.ensures)
