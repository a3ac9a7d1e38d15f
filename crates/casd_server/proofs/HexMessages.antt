-- Messages and their text: what is read is written so, and what is written so is read.
use Rattle.std.proofs.Common.{◌≡◌, ◌⊎◌, ℕ, ◌/◌, ◌%◌, Bool, true, false, cond, eqb, List, [], ◌∷◌, map, codes, slice_index, Option, Some, None, refl, sym, ap, ◌∙◌, inl, inr, arith}
use Rattle.std.specs.List.{AllByRecursion, join_with_byte, list_all}
use Rattle.std.specs.Cmp.Lexicographic.{pointwise, same_text}
use Rattle.std.proofs.lemmas.Bool.{cases_Bool, and_parts}
use Rattle.hex.specs.Hex.{encode_lower, encode_with}
use Rattle.digest_types.specs.Hex.{unhex_of, is_lower_digit}
use Rattle.casd_server.specs.Cut.{NoByte, pieces_of, cut_at}
use Rattle.proto_wire.specs.Reading.{IsBytes}
use Rattle.casd_server.specs.Record.{message_text, messages_text, message_of, both_of, each_of, messages_of}
use Rattle.casd_server.proofs.CutLemmas.{pieces_of-one, pieces_of-first, pieces_of-none, pieces_of-some, join-pieces_of}
use Rattle.digest_types.proofs.HexText.{encode_lower-digits, unhex_of-again, unhex_of-found}

-- ---- one message

-- the two ways in which a message is read
chosen : {A : Type 0} (t : Bool) (x y z : A) → cond t x y ≡ z → ((t ≡ true) × (x ≡ z)) ⊎ ((t ≡ false) × (y ≡ z))
chosen true x y z e = inl (refl, e)
chosen false x y z e = inr (refl, e)

message_text-hex : (text m : List ℕ) (b : ℕ) (bs : List ℕ) → text ≡ b ∷ bs → encode_lower m ≡ text → message_text m ≡ text
unfolding encode_with
message_text-hex text [] b bs is e = absurd cc
message_text-hex text (d ∷ ds) b bs is e = e

pub message_of-found : (text m : List ℕ) → message_of text ≡ Some m → IsBytes m × (message_text m ≡ text)
unfolding message_of
message_of-found [] m e = absurd cc
message_of-found (b ∷ bs) m e =
    elim (chosen (pointwise eqb (b ∷ bs) (codes ".")) (Some []) (unhex_of (b ∷ bs)) (Some m) e) [
      | inl dot ↦
          let same : [] ≡ m = cc dot.1 in
          let text : b ∷ bs ≡ codes "." = same_text (b ∷ bs) (codes ".") (sym dot.0) in
          rw (← same, text) ((λ i. omega arith), refl)
      | inr hex ↦
          let found = unhex_of-found (b ∷ bs) m hex.1 in
          (found.0, message_text-hex (b ∷ bs) m b bs refl found.1)
    ]

-- two bytes or more are no dot
not_dot : (a b : ℕ) (rest : List ℕ) → pointwise eqb (a ∷ b ∷ rest) (codes ".") ≡ false
not_dot a b rest = grind (arith)

pub message_of-again : (m : List ℕ) → IsBytes m → message_of (message_text m) ≡ Some m
unfolding message_of encode_with
message_of-again [] bytes = refl
message_of-again (b ∷ bs) bytes = rw (not_dot (slice_index (codes "0123456789abcdef") (b / 16)) (slice_index (codes "0123456789abcdef") (b % 16)) (encode_lower bs)) (unhex_of-again (b ∷ bs) bytes)

lower_no_comma : (b : ℕ) → is_lower_digit b ≡ true → b ≡ 44 → ⊥
lower_no_comma b lower e = grind (arith)

digits_no_comma : (text : List ℕ) → list_all is_lower_digit text ≡ true → NoByte 44 text
digits_no_comma [] lower = tt
digits_no_comma (b ∷ bs) lower =
    let parts = and_parts (is_lower_digit b) (list_all is_lower_digit bs) lower in
    (lower_no_comma b parts.0, digits_no_comma bs parts.1)

-- no message's text has a comma
pub message_text-no_comma : (m : List ℕ) → IsBytes m → NoByte 44 (message_text m)
message_text-no_comma [] bytes = ((λ e. omega arith), tt)
message_text-no_comma (b ∷ bs) bytes = digits_no_comma (encode_lower (b ∷ bs)) (encode_lower-digits (b ∷ bs) bytes)

-- ---- messages

both_found : (o : Option (List ℕ)) (others : Option (List (List ℕ))) (ms : List (List ℕ)) → both_of o others ≡ Some ms
    → (m : List ℕ) × ((rest : List (List ℕ)) × (o ≡ Some m) × (others ≡ Some rest) × (m ∷ rest ≡ ms))
both_found None others ms e = absurd cc
both_found (Some m) None ms e = absurd cc
both_found (Some m) (Some rest) ms e = (m, (rest, refl, refl, cc))

each_of-found : (pieces ms : List (List ℕ)) → each_of pieces ≡ Some ms → AllByRecursion IsBytes ms × (map message_text ms ≡ pieces)
unfolding each_of
each_of-found [] ms e =
    let same : [] ≡ ms = cc in
    rw (← same) (tt, refl)
each_of-found (piece ∷ pieces) ms e =
    let parts = both_found (message_of piece) (each_of pieces) ms e in
    let first = message_of-found piece parts.0 parts.1.1 in
    let ih = each_of-found pieces parts.1.0 parts.1.2 in
    rw (← parts.1.3) ((first.0, ih.0), rw (first.1, ih.1) refl)

each_of-again : (ms : List (List ℕ)) → AllByRecursion IsBytes ms → each_of (map message_text ms) ≡ Some ms
unfolding each_of
each_of-again [] bytes = refl
each_of-again (m ∷ ms) bytes = rw (message_of-again m bytes.0, each_of-again ms bytes.1) refl

some_pieces : (c : ℕ) (xs : List ℕ) (o : Option (List ℕ × List ℕ)) → cut_at c xs ≡ o → pieces_of c xs ≡ [] → ⊥
some_pieces c xs None e none = cc (sym (pieces_of-none c xs e) ∙ none)
some_pieces c xs (Some parts) e none = cc (sym (pieces_of-some c xs parts e) ∙ none)

messages_text-pieces : (ms : List (List ℕ)) (text : List ℕ) → map message_text ms ≡ pieces_of 44 text → messages_text ms ≡ text
messages_text-pieces [] text e = absurd (some_pieces 44 text (cut_at 44 text) refl (sym e))
messages_text-pieces (m ∷ ms) text e = ap (join_with_byte 44) e ∙ join-pieces_of 44 text

pub messages_of-found : (text : List ℕ) (ms : List (List ℕ)) → messages_of text ≡ Some ms → AllByRecursion IsBytes ms × (messages_text ms ≡ text)
unfolding messages_of
messages_of-found text ms e =
    elim (chosen (pointwise eqb text (codes "-")) (Some []) (each_of (pieces_of 44 text)) (Some ms) e) [
      | inl dash ↦
          let same : [] ≡ ms = cc dash.1 in
          let is : text ≡ codes "-" = same_text text (codes "-") (sym dash.0) in
          rw (← same, is) (tt, refl)
      | inr each ↦
          let found = each_of-found (pieces_of 44 text) ms each.1 in
          (found.0, messages_text-pieces ms text found.1)
    ]

-- the pieces of what was joined
pieces_of-join : (c : ℕ) (p : List ℕ) (ps : List (List ℕ)) → AllByRecursion (NoByte c) (p ∷ ps) → pieces_of c (join_with_byte c (p ∷ ps)) ≡ p ∷ ps
pieces_of-join c p [] none = pieces_of-one c p none.0
pieces_of-join c p (q ∷ qs) none = pieces_of-first c p (join_with_byte c (q ∷ qs)) none.0 ∙ ap (λ (rest : List (List ℕ)). p ∷ rest) (pieces_of-join c q qs none.1)

no_commas : (ms : List (List ℕ)) → AllByRecursion IsBytes ms → AllByRecursion (NoByte 44) (map message_text ms)
no_commas [] bytes = tt
no_commas (m ∷ ms) bytes = (message_text-no_comma m bytes.0, no_commas ms bytes.1)

-- messages are not written as a dash
no_dash : (m : List ℕ) (ms : List (List ℕ)) → AllByRecursion IsBytes (m ∷ ms) → messages_text (m ∷ ms) ≡ codes "-" → ⊥
unfolding message_of unhex_of
no_dash m ms bytes e =
    let pieces : codes "-" ∷ [] ≡ map message_text (m ∷ ms) = sym (pieces_of-one 44 (codes "-") ((λ e. omega arith), tt)) ∙ ap (pieces_of 44) (sym e) ∙ pieces_of-join 44 (message_text m) (map message_text ms) (no_commas (m ∷ ms) bytes) in
    let first : codes "-" ≡ message_text m = cc pieces in
    let read : message_of (codes "-") ≡ Some m = ap message_of first ∙ message_of-again m bytes.0 in
    cc read

dash_test : (text : List ℕ) → (text ≡ codes "-" → ⊥) → pointwise eqb text (codes "-") ≡ false
dash_test text other =
    elim (cases_Bool (pointwise eqb text (codes "-"))) [
      | inl same ↦ absurd (other (same_text text (codes "-") (sym same)))
      | inr differ ↦ differ
    ]

pub messages_of-again : (ms : List (List ℕ)) → AllByRecursion IsBytes ms → messages_of (messages_text ms) ≡ Some ms
unfolding messages_of
messages_of-again [] bytes = refl
messages_of-again (m ∷ ms) bytes =
    rw (dash_test (messages_text (m ∷ ms)) (no_dash m ms bytes), pieces_of-join 44 (message_text m) (map message_text ms) (no_commas (m ∷ ms) bytes)) (each_of-again (m ∷ ms) bytes)
