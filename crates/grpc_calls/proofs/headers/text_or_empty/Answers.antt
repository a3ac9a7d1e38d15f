use Rattle.std.proofs.Common.{◌≡◌, ℕ, List, [], length, ap, ◌∙◌, sym}
use Rattle.std.specs.Prelude.{Result, Ok, Err, IfOk, IsUtf8, ◌==◌}
use Rattle.std.specs.Str.Lossy.{utf8_valid_len}
use Rattle.std.proofs.lemmas.Bool.{eq-eqb, cond-true}
use Rattle.std.proofs.lemmas.Str.{utf8_valid_len-IsUtf8}
use Rattle.grpc_calls.specs.Headers.{text_or_empty}
use Rattle.grpc_calls.proofs.headers.text_or_empty.Goals as goal

is_text : (bytes : List ℕ) → IsUtf8 bytes → text_or_empty bytes ≡ bytes
is_text bytes u = cond-true (utf8_valid_len bytes == length bytes) bytes [] (eq-eqb _ _ (utf8_valid_len-IsUtf8 bytes u))

same_if : {E : Type 0} (r : Result (List ℕ) E) (x y : List ℕ) → x ≡ y → IfOk r (λ t. t ≡ x) → IfOk r (λ t. t ≡ y)
same_if (Ok t) x y e h = h ∙ e
same_if (Err f) x y e h = tt

pub returns-in-Ok : goal.returns-in-Ok
returns-in-Ok c = same_if c.new.result c.in-Ok.text.now (text_or_empty c.args.bytes.now) (c.in-Ok.ensures.cases.0 ∙ sym (is_text c.args.bytes.now c.in-Ok.ensures.cases.1)) c.new.ensures.value
