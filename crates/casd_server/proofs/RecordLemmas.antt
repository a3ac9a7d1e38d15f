-- The two laws of lines: what is read is a record with that line, and the line of a record is read as it.
use Rattle.std.proofs.Common.{◌≡◌, ℕ, ◌≤◌, Bool, true, false, cond, ltb, List, ◌∷◌, ◌++◌, length, Option, Some, None, Result, Ok, Err, refl, sym, ap, subst, ◌∙◌, arith}
use Rattle.std.specs.Prelude.{IfOk, IfSome}
use Rattle.std.specs.Option.{option_map}
use Rattle.std.specs.Fmt.{decimal}
use Rattle.std.proofs.lemmas.Bool.{ltb-false, le-ltb}
use Rattle.std.proofs.lemmas.Option.{cond_some}
use Rattle.proto_wire.specs.declared.memory.OutOfMemory.{OutOfMemory}
use Rattle.casd_server.specs.declared.word.Word.{Word}
use Rattle.casd_server.specs.declared.record_line.Record.{Record}
use Rattle.casd_server.specs.Word.{name_of, word_of, takes}
use Rattle.casd_server.specs.Cut.{cut_at}
use Rattle.casd_server.specs.Record.{Asked, IsRecord, record_view, line_of, max_line, messages_text, seat_of, messages_of, joined_parts, parts_behind, parts_of, record_of}
use Rattle.casd_server.proofs.CutLemmas.{cut_at-some, cut_at-again}
use Rattle.casd_server.proofs.SeatLemmas.{seat_of-found, seat_of-again, NoByte-decimal}
use Rattle.casd_server.proofs.WordLemmas.{word_of-found, word_of-again, NoByte-name_of}
use Rattle.casd_server.proofs.HexMessages.{messages_of-found, messages_of-again}

-- ---- what is read

-- the parts of which a record was made
record AreParts (seat : Option ℕ) (word : Option Word) (messages : Option (List (List ℕ))) (r : Asked) : Type 0 where
  seat_is : seat ≡ Some r.seat
  word_is : word ≡ Some r.word
  messages_are : messages ≡ Some r.messages
  go_together : takes r.seat r.word (length r.messages) ≡ true

joined_found : (seat : Option ℕ) (word : Option Word) (messages : Option (List (List ℕ))) (r : Asked) → joined_parts seat word messages ≡ Some r → AreParts seat word messages r
joined_found None word messages r e = absurd cc
joined_found (Some s) None messages r e = absurd cc
joined_found (Some s) (Some w) None r e = absurd cc
joined_found (Some s) (Some w) (Some ms) r e =
    let parts = cond_some (takes s w (length ms)) (record { seat = s; word = w; messages = ms }) r e in
    subst (AreParts (Some s) (Some w) (Some ms)) parts.1 (record { seat_is = refl; word_is = refl; messages_are = refl; go_together = parts.0 })

behind_found : (seat : Option ℕ) (o : Option (List ℕ × List ℕ)) (r : Asked) → parts_behind seat o ≡ Some r → (c : List ℕ × List ℕ) × (o ≡ Some c) × AreParts seat (word_of c.0) (messages_of c.1) r
behind_found seat None r e = absurd cc
behind_found seat (Some c) r e = (c, refl, joined_found seat (word_of c.0) (messages_of c.1) r e)

parts_found : (o : Option (List ℕ × List ℕ)) (r : Asked) → parts_of o ≡ Some r → (c : List ℕ × List ℕ) × (o ≡ Some c) × (parts_behind (seat_of c.0) (cut_at 32 c.1) ≡ Some r)
parts_found None r e = absurd cc
parts_found (Some c) r e = (c, refl, e)

guarded : (t : Bool) (o : Option Asked) (r : Asked) → cond t None o ≡ Some r → (t ≡ false) × (o ≡ Some r)
guarded true o r e = absurd cc
guarded false o r e = (refl, e)

-- what is read is a record, and the line is its line
pub record_found : (line : List ℕ) (r : Asked) → record_of line ≡ Some r → IsRecord r × (line_of r ≡ line) × (length line ≤ max_line)
unfolding record_of
record_found line r e =
    let guard = guarded (ltb max_line (length line)) (parts_of (cut_at 32 line)) r e in
    let first = parts_found (cut_at 32 line) r guard.1 in
    let second = behind_found (seat_of first.0.0) (cut_at 32 first.0.1) r first.2 in
    let parts = second.2 in
    let seat = seat_of-found first.0.0 r.seat parts.seat_is in
    let word = word_of-found second.0.0 r.word parts.word_is in
    let messages = messages_of-found second.0.1 r.messages parts.messages_are in
    let front = (cut_at-some 32 line first.0 first.1).whole in
    let back = (cut_at-some 32 first.0.1 second.0 second.1).whole in (
      record { seat = seat.0; word = parts.go_together; bytes = messages.0 },
      rw (front, back, seat.1, word, messages.1) refl,
      ltb-false max_line (length line) guard.0,
    )

-- ---- what is written is read

-- the line of a record is read as that record
pub record_again : (r : Asked) → IsRecord r → length (line_of r) ≤ max_line → record_of (line_of r) ≡ Some r
unfolding record_of
record_again r is short =
    let behind : List ℕ = name_of r.word ++ (32 ∷ messages_text r.messages) in
    let first = cut_at-again 32 (decimal r.seat) behind (NoByte-decimal r.seat is.seat) in
    let second = cut_at-again 32 (name_of r.word) (messages_text r.messages) (NoByte-name_of r.word) in
    let seat = seat_of-again r.seat is.seat in
    let word = word_of-again r.word in
    let messages = messages_of-again r.messages is.bytes in
    rw (le-ltb _ _ short, first, second, seat, word, messages, is.word) refl

-- ---- the same of what the reader of lines answers

pub is_found : (line : List ℕ) (result : Result (Option Record) OutOfMemory) → IfOk result (λ o. option_map record_view o ≡ record_of line)
    → IfOk result (λ o. IfSome o (λ r. IsRecord (record_view r) × (line_of (record_view r) ≡ line) × (length line ≤ max_line)))
is_found line (Ok (Some r)) reads = record_found line (record_view r) (sym reads)
is_found line (Ok None) reads = tt
is_found line (Err e) reads = tt

pub is_read : (line : List ℕ) (result : Result (Option Record) OutOfMemory) (r : Asked) → IfOk result (λ o. option_map record_view o ≡ record_of line)
    → IsRecord r → line_of r ≡ line → length line ≤ max_line → IfOk result (λ o. option_map record_view o ≡ Some r)
is_read line (Ok o) r reads is same short = reads ∙ ap record_of (sym same) ∙ record_again r is (omega (arith, ap length same))
is_read line (Err e) r reads is same short = tt
