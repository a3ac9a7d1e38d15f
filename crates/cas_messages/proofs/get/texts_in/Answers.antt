use Rattle.std.proofs.Common.{ℕ, Ok, sym, ap, ◌∙◌}
use Rattle.std.proofs.lemmas.Result.{err_from_is_err_and}
use Rattle.proto_wire.specs.Field.{contents_of}
use Rattle.cas_messages.specs.Meaning.{each, field_in, text_from}
use Rattle.cas_messages.proofs.EachLemmas.{goes_on, ends, is_done}
use Rattle.cas_messages.proofs.get.texts_in.Goals as goal

pub returns-in_err-text_from : goal.returns-in_err-text_from
unfolding field_in
returns-in_err-text_from c =
    let p = err_from_is_err_and c.from_residual-in_err-text_from.result c.from_residual-in_err-text_from.ensures.1 in
    let read = λ (index : ℕ). text_from c.args.number in
    rw (p.1, p.2)
    (ends read (λ s. s.now) c.deref-content-items.result.now c.contents.content-index _ c.in_err-text_from.field-0.0 c.contents.texts.items (each read 0 (contents_of c.args.number c.args.fields.now)) c.contents-test.true c.in_err-text_from.ensures c.contents.invariant)

pub contents-preserved : goal.contents-preserved
contents-preserved c =
    let read = λ (index : ℕ). text_from c.args.number in
    rw c.in_ok-push.ensures.items
    (goes_on read (λ s. s.now) c.deref-content-items.result.now c.contents.content-index _ c.contents.texts.items c.in_ok-text_from.field-0 (each read 0 (contents_of c.args.number c.args.fields.now)) c.contents-test.true c.in_ok-text_from.ensures c.contents.invariant)

pub returns : goal.returns
unfolding field_in
returns c =
    let read = λ (index : ℕ). text_from c.args.number in
    is_done read (λ s. s.now) c.deref-content-items.result.now c.contents.content-index c.contents.texts.items (each read 0 (contents_of c.args.number c.args.fields.now)) c.contents-test.false c.contents.invariant
    ∙ ap Ok (sym c.from_vec.ensures)
