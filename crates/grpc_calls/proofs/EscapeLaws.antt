-- The text of a status: which of its bytes are escaped.
use Rattle.std.proofs.Common.{◌≡◌, ◌≢◌, ℕ, ◌<◌, ◌≤◌, ◌*◌, ◌+◌, Bool, true, false, cond, not, ◌&&◌, ◌||◌, ◌==◌, nat_lt, List, [], ◌∷◌, ◌++◌, length, refl, ap, ◌∙◌, arith, length-append}
use Rattle.std.specs.Prelude.{nat_le}
use Rattle.std.specs.List.{flat_map}
use Rattle.std.proofs.lemmas.Bool.{agree_below, agree_below_at, cond_both}
use Rattle.std.proofs.lemmas.Bool.Decides.{nat_tests}
use Rattle.percent_encoding.specs.declared.ascii_set.AsciiSet.{AsciiSet}
use Rattle.percent_encoding.specs.declared.ascii_set.TheConstants.{CONTROLS}
use Rattle.percent_encoding.specs.AsciiSet.{contains, should_percent_encode}
use Rattle.percent_encoding.specs.Percent.{percent_encode_byte, encode_byte, percent_encode}
use Rattle.grpc_calls.specs.Escape.{escaped_byte, escaped}

-- the controls and `%`: what `CONTROLS.add(b'%')` gives
pub record IsEscapeSet (set : AsciiSet) : Type 0 where
  pub percent : contains set 37 ≡ true
  pub others : (b : ℕ) → b ≢ 37 → contains set b ≡ contains CONTROLS b

-- whether a byte is printable ASCII
abbrev is_printable : ℕ → Bool
is_printable b = nat_le 32 b && nat_le b 126

controls_table : agree_below (contains CONTROLS) (λ b. not (is_printable b)) 128 ≡ true
controls_table = refl

in_controls : (b : ℕ) → b < 128 → contains CONTROLS b ≡ not (is_printable b)
in_controls b small = agree_below_at (contains CONTROLS) (λ b. not (is_printable b)) 128 b controls_table small

-- the two sides of one byte, from what the set says of it
byte_by : (b : ℕ) (inside : Bool) → (b ≡ 37 → inside ≡ true) → (b < 128 → b ≢ 37 → inside ≡ not (is_printable b)) → (not (nat_lt b 128) || inside) ≡ not (is_printable b && not (b == 37))
byte_by b inside percent others = grind (arith, nat_tests)

escaped_of : (set : AsciiSet) → IsEscapeSet set → (b : ℕ) → should_percent_encode set b ≡ not (is_printable b && not (b == 37))
unfolding should_percent_encode
escaped_of set is b = byte_by b (contains set b) (λ e. ap (contains set) e ∙ is.percent) (λ small other. is.others b other ∙ in_controls b small)

swapped : (t : Bool) (x y : List ℕ) → cond (not t) x y ≡ cond t y x
swapped true x y = refl
swapped false x y = refl

byte_spelled : (set : AsciiSet) → IsEscapeSet set → (b : ℕ) → encode_byte set b ≡ escaped_byte b
byte_spelled set is b =
    let kept = is_printable b && not (b == 37) in
    ap (λ (t : Bool). cond t (percent_encode_byte b) (b ∷ [])) (escaped_of set is b) ∙ swapped kept (percent_encode_byte b) (b ∷ [])

-- a text is escaped byte by byte
pub text_escaped : (set : AsciiSet) → IsEscapeSet set → (text : List ℕ) → percent_encode set text ≡ escaped text
unfolding percent_encode
text_escaped set is [] = refl
text_escaped set is (b ∷ bs) = ap (λ (front : List ℕ). front ++ percent_encode set bs) (byte_spelled set is b) ∙ ap (λ (rest : List ℕ). escaped_byte b ++ rest) (text_escaped set is bs)

three : (b : ℕ) → length (percent_encode_byte b) ≡ 3
unfolding percent_encode_byte
three b = refl

byte_short : (b : ℕ) → length (escaped_byte b) ≤ 3
byte_short b = cond_both (is_printable b && not (b == 37)) (b ∷ []) (percent_encode_byte b) (λ (x : List ℕ). length x ≤ 3) (λ e. omega arith) (λ e. omega (arith, three b))

-- no byte becomes more than three
pub escaped_short : (text : List ℕ) → length (escaped text) ≤ 3 * length text
escaped_short [] = omega arith
escaped_short (b ∷ bs) = omega (arith, byte_short b, escaped_short bs, length-append (escaped_byte b) (escaped bs))
