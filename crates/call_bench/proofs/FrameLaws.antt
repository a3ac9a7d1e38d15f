-- What the reader of frames gives, whether it has refused or not.
use Rattle.std.proofs.Common.{◌≡◌, ℕ, List, refl, sym, subst}
use Rattle.std.specs.Prelude.{Option, Some, None, Result, Err, IfSome, IfOk, IsNone}
use Rattle.proto_wire.specs.Reading.{IsBytes}
use Rattle.h2_frames.specs.declared.fault.FrameFault.{FrameFault}
use Rattle.h2_frames.specs.declared.frame.Frame.{Frame}
use Rattle.h2_frames.specs.Spelling.{IsSpelling}
use Rattle.h2_frames.specs.Stream.{Pending, Answers}
use Rattle.grpc_calls.proofs.FrameLaws.{answers_bytes, answers_spelled, none_is}

pub bytes_by : (f : Option FrameFault) (old new : Pending) (result : Result (Option (ℕ × Frame)) FrameFault) → IsBytes old.rest → IfSome f (λ e. (result ≡ Err e) × (new ≡ old)) → (IsNone f → Answers old new result) → IsBytes new.rest
bytes_by None old new result h latched exact = answers_bytes old new result h (exact (none_is None refl))
bytes_by (Some e) old new result h latched exact = subst (λ (p : Pending). IsBytes p.rest) (sym latched.1) h

pub spelled_by : (f : Option FrameFault) (old new : Pending) (result : Result (Option (ℕ × Frame)) FrameFault) → IsBytes old.rest → IfSome f (λ e. (result ≡ Err e) × (new ≡ old)) → (IsNone f → Answers old new result) → IfOk result (λ o. IfSome o (λ p. (text : List ℕ) × IsSpelling text p.1))
spelled_by None old new result h latched exact = answers_spelled old new result h (exact (none_is None refl))
spelled_by (Some e) old new result h latched exact = subst (λ (r : Result (Option (ℕ × Frame)) FrameFault). IfOk r (λ o. IfSome o (λ p. (text : List ℕ) × IsSpelling text p.1))) (sym latched.0) tt
