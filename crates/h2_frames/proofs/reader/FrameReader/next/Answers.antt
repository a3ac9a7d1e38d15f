use Rattle.std.proofs.Common.{Some, None, refl, sym, ap, ◌∙◌, arith}
use Rattle.h2_frames.specs.Stream.{Pending}
use Rattle.h2_frames.proofs.ReaderLemmas.{given_by, fails_by, begun_keeps, count, advanced_count, limit_by}
use Rattle.h2_frames.proofs.reader.FrameReader.next.Goals as goal

pub returns-in-Ok-None-clause-exact : goal.returns-in-Ok-None-clause-exact
returns-in-Ok-None-clause-exact c none =
    rw c.cut.ensures.cut (given_by c.args.self.now c.skip_preface.new.self None c.skip_preface.ensures (rw c.in-Ok-None.field-0-is at c.in-Ok-None.ensures.exact))

pub returns-in-Ok-Some-clause-exact : goal.returns-in-Ok-Some-clause-exact
returns-in-Ok-Some-clause-exact c none =
    rw (c.advance-at.ensures.at, c.advance-at.ensures.rest) (given_by c.args.self.now c.skip_preface.new.self (Some (c.in-Ok-Some.frame, c.in-Ok-Some.len)) c.skip_preface.ensures (rw c.in-Ok-Some.field-0-is at c.in-Ok-Some.ensures.exact))

pub returns-in-Err-clause-exact : goal.returns-in-Err-clause-exact
returns-in-Err-clause-exact c none =
    (fails_by c.args.self.now c.skip_preface.new.self c.in-Err.fault c.skip_preface.ensures c.in-Err.ensures.exact, rw (c.refuse.ensures, c.skip_preface.ensures) refl)

pub returns-in-Ok-None-clause-count : goal.returns-in-Ok-None-clause-count
returns-in-Ok-None-clause-count c = ap count c.cut.ensures.cut ∙ (begun_keeps c.args.self.now c.skip_preface.new.self c.skip_preface.ensures).0

pub returns-in-Ok-Some-clause-count : goal.returns-in-Ok-Some-clause-count
returns-in-Ok-Some-clause-count c =
    ap count c.advance-at.ensures.rest ∙ advanced_count c.in-Ok-Some.len c.skip_preface.new.self (rw c.in-Ok-Some.field-0-is at c.in-Ok-Some.ensures.within) ∙ (begun_keeps c.args.self.now c.skip_preface.new.self c.skip_preface.ensures).0

pub returns-in-Err-clause-count : goal.returns-in-Err-clause-count
returns-in-Err-clause-count c = ap count c.refuse.ensures ∙ (begun_keeps c.args.self.now c.skip_preface.new.self c.skip_preface.ensures).0

pub returns-in-Ok-None-clause-sound : goal.returns-in-Ok-None-clause-sound
returns-in-Ok-None-clause-sound c =
    ap (λ (p : Pending). p.fault) c.cut.ensures.cut ∙ (begun_keeps c.args.self.now c.skip_preface.new.self c.skip_preface.ensures).1 ∙ sym (ap (λ (p : Pending). p.fault) c.self.view_is) ∙ c.in_default.is

pub returns-in-Ok-Some-clause-sound : goal.returns-in-Ok-Some-clause-sound
returns-in-Ok-Some-clause-sound c =
    ap (λ (p : Pending). p.fault) c.advance-at.ensures.rest ∙ (begun_keeps c.args.self.now c.skip_preface.new.self c.skip_preface.ensures).1 ∙ sym (ap (λ (p : Pending). p.fault) c.self.view_is) ∙ c.in_default.is

pub returns-in-Ok-None-clause-held : goal.returns-in-Ok-None-clause-held
returns-in-Ok-None-clause-held c = omega (arith, c.cut.ensures.less, (begun_keeps c.args.self.now c.skip_preface.new.self c.skip_preface.ensures).2)

pub returns-in-Ok-Some-clause-held : goal.returns-in-Ok-Some-clause-held
returns-in-Ok-Some-clause-held c = omega (arith, ap (λ (p : Pending). p.held) c.advance-at.ensures.rest, (begun_keeps c.args.self.now c.skip_preface.new.self c.skip_preface.ensures).2)

pub returns-in-Err-clause-held : goal.returns-in-Err-clause-held
returns-in-Err-clause-held c = omega (arith, ap (λ (p : Pending). p.held) c.refuse.ensures, (begun_keeps c.args.self.now c.skip_preface.new.self c.skip_preface.ensures).2)

pub returns-in-Ok-None-clause-limit : goal.returns-in-Ok-None-clause-limit
returns-in-Ok-None-clause-limit c none =
    let short = limit_by c.args.self.now c.skip_preface.new.self c.skip_preface.ensures (rw c.in-Ok-None.field-0-is at c.in-Ok-None.ensures.exact) in
    omega (arith, short, ap (λ (p : Pending). p.held) c.cut.ensures.cut)
