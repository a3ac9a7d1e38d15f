use Rattle.std.proofs.Common.{◌≡◌, ℕ, sym, subst, ◌∙◌}
use Rattle.std.specs.Prelude.{Some, Result, Ok, Err, IfErr}
use Rattle.h2_frames.specs.declared.frame.Frame.{Frame}
use Rattle.h2_frames.specs.declared.frame.Frame.TheVariants as frames
use Rattle.h2_session.specs.declared.fault.Stop.{Stop}
use Rattle.h2_session.specs.declared.fault.Stop.TheVariants.{Offence as Offends}
use Rattle.h2_session.specs.Machine.{part_of}
use Rattle.h2_session.specs.Faults.{block_offence, gathered}
use Rattle.h2_session.specs.Heard.{begun_by}
use Rattle.h2_session.proofs.HeardLaws.{begun_same}
use Rattle.h2_session.proofs.machine.Machine.take.Goals as goal

weaker : {T : Type 0} (r : Result T Stop) (A B : ℕ → Type 0) → ((code : ℕ) → A code → B code)
    → IfErr r (λ (e : Stop). (code : ℕ) → e ≡ Offends code → A code) → IfErr r (λ (e : Stop). (code : ℕ) → e ≡ Offends code → B code)
weaker (Ok x) A B f h = tt
weaker (Err e) A B f h = λ code q. f code (h code q)

pub returns-in-Continuation-clause-offence : goal.returns-in-Continuation-clause-offence
returns-in-Continuation-clause-offence c =
    let m = c.args.self.now in
    let same = begun_same (part_of m) m.block c.in-Continuation.block m.opening in
    weaker c.on_continuation.result
    (λ (code : ℕ). (block_offence (part_of m) (frames.Continuation 0 c.in-Continuation.block c.in-Continuation.whole) ≡ Some code) × (c.on_continuation.new.out ≡ c.args.out.now))
    (λ (code : ℕ). (block_offence (part_of m) c.args.frame ≡ Some code) × (c.on_continuation.new.out ≡ c.args.out.now) × (c.on_continuation.new.self.highest ≡ (begun_by (gathered (part_of m) c.args.frame) (part_of m)).highest))
    (λ code t. (
      subst (λ (f : Frame). block_offence (part_of m) f ≡ Some code) (sym c.in-Continuation.is) t.0,
      t.1,
      subst (λ (f : Frame). c.on_continuation.new.self.highest ≡ (begun_by (gathered (part_of m) f) (part_of m)).highest) (sym c.in-Continuation.is) (c.on_continuation.ensures.stays.1 ∙ sym same),
    ))
    c.on_continuation.ensures.offence
