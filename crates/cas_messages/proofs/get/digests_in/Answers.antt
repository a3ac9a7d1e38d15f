use Rattle.std.proofs.Common.{◌∙◌, ap, sym, Ok}
use Rattle.std.proofs.lemmas.Result.{err_from_is_err_and}
use Rattle.proto_wire.specs.Field.{contents_of}
use Rattle.cas_messages.specs.Meaning.{each, field_in, digest_from}
use Rattle.cas_messages.proofs.EachLemmas.{goes_on, ends, is_done}
use Rattle.cas_messages.proofs.get.digests_in.Goals as goal

pub returns-in_err-digest_from : goal.returns-in_err-digest_from
unfolding field_in
returns-in_err-digest_from c =
    let p = err_from_is_err_and c.from_residual-in_err-digest_from.result c.from_residual-in_err-digest_from.ensures.1 in
    let read = digest_from c.args.number in
    rw (p.1, p.2)
    (ends read (λ s. s.now) c.deref-content-items.result.now c.contents.index _ c.in_err-digest_from.field-0.0 c.contents.digests.items (each read 0 (contents_of c.args.number c.args.fields.now)) c.contents-test.true c.in_err-digest_from.ensures c.contents.invariant)

pub contents-preserved : goal.contents-preserved
contents-preserved c =
    let read = digest_from c.args.number in
    rw c.in_ok-push.ensures.items
    (goes_on read (λ s. s.now) c.deref-content-items.result.now c.contents.index _ c.contents.digests.items c.in_ok-digest_from.field-0 (each read 0 (contents_of c.args.number c.args.fields.now)) c.contents-test.true c.in_ok-digest_from.ensures c.contents.invariant)

pub returns : goal.returns
unfolding field_in
returns c =
    let read = digest_from c.args.number in
    is_done read (λ s. s.now) c.deref-content-items.result.now c.contents.index c.contents.digests.items (each read 0 (contents_of c.args.number c.args.fields.now)) c.contents-test.false c.contents.invariant
    ∙ ap Ok (sym c.from_vec.ensures)
