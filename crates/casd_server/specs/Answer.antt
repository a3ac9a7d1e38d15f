-- What a record answers, and its line.
use Rattle.std.specs.Prelude.{◌==◌, ◌&&◌, not, nat_le, codes, ℕ, zero, suc, List, [], ◌∷◌, ◌++◌, slice_get, slice_set, replicate, Option, Some, None, Result, Ok, Err, if◌then◌else◌}
use Rattle.std.specs.List.{flat_map}
use Rattle.std.specs.Fmt.{decimal}
use Rattle.percent_encoding.specs.Percent.{percent_encode_byte}
use Rattle.casd_base.specs.Code.{number_of}
use Rattle.casd_base.specs.declared.status.Status.{Status}
use Rattle.store_core.specs.State.{State, new_state}
use Rattle.store_core.specs.declared.state.Guard.TheVariants as guards
use Rattle.store_core.specs.Step.{step}
use Rattle.store_core.specs.declared.event.Event.{Event}
use Rattle.store_core.specs.declared.event.Event.TheVariants as events
use Rattle.store_core.specs.declared.event.Reply.{Reply}
use Rattle.store_core.specs.declared.event.Reply.TheVariants as replies
use Rattle.casd_server.specs.declared.answer.Answer.{Answer}
use Rattle.casd_server.specs.declared.answer.Answer.TheVariants as answers
use Rattle.casd_server.specs.declared.word.Word.{Word}
use Rattle.casd_server.specs.declared.word.Word.TheVariants as words
use Rattle.casd_server.specs.Word.{name_of}
use Rattle.casd_server.specs.Record.{Asked, message_text}
use Rattle.casd_server.specs.Batch.{batch_update, not_built}

-- the store, and for each of the hundred seats the owner that it has, if any
pub record Seated : Type 0 where
  pub core : State
  pub seats : List (Option ℕ)

-- an empty store with these marks, and no owner on any seat
abbrev pub new_seated : ℕ → ℕ → Seated
new_seated low high = record { core = new_state low high guards.Leases; seats = replicate 100 None }

-- the owner of a seat
abbrev pub owner_in : Option (Option ℕ) → Option ℕ
owner_in None = None
owner_in (Some owner) = owner

abbrev pub owner_at : Seated → ℕ → Option ℕ
owner_at s seat = owner_in (slice_get s.seats seat)

-- a seat that had no owner has the next one
abbrev pub seated_with : Seated → ℕ → Option ℕ → ℕ × Seated
seated_with s seat (Some owner) = (owner, s)
seated_with s seat None =
    (s.core.next_owner, record { core = (step s.core 0 events.Open).1; seats = slice_set s.seats seat (Some s.core.next_owner) })

-- The first record of a seat opens an owner: the owner, and the state with it.
unfoldable pub opened : Seated → ℕ → ℕ × Seated
opened s seat = seated_with s seat (owner_at s seat)

-- a seat's owner goes, if it has one
abbrev pub closed_with : Seated → ℕ → Option ℕ → Seated
closed_with s seat None = s
closed_with s seat (Some owner) = record { core = (step s.core owner events.Close).1; seats = slice_set s.seats seat None }

-- the owners of the first seats have gone, in the order of the seats
unfoldable pub closed_below : ℕ → Seated → Seated
closed_below zero s = s
closed_below (suc seat) s = closed_with (closed_below seat s) seat (owner_at (closed_below seat s) seat)

-- a call of the store, with the seats as they are
abbrev pub with_core : Seated → Result (List ℕ) Status × State → Answer × Seated
with_core s called = (answers.Call called.0, record s { core = called.1 })

-- The answer for the reply to a pass, to a question for the numbers, or to a close. Other replies never answer these.
unfoldable pub answer_of : Reply → Answer
answer_of (replies.Passed removed used) = answers.Passed removed used
answer_of (replies.Used usage) = answers.Used usage
answer_of replies.Closed = answers.Closed
answer_of _ = answers.Call (Err not_built)

-- an event of the store, with the seats as they are
abbrev pub by_event : Seated → ℕ → Event → Answer × Seated
by_event s owner event = (answer_of (step s.core owner event).0, record s { core = (step s.core owner event).1 })

-- a seat's owner goes
abbrev pub by_close : Seated → ℕ → ℕ → Answer × Seated
by_close s seat owner = (answer_of (step s.core owner events.Close).0, closed_with s seat (Some owner))

-- what a seat's owner asks for
unfoldable pub run_by : Word → Seated → ℕ → ℕ → List (List ℕ) → Answer × Seated
run_by words.BatchUpdateBlobs s seat owner messages = with_core s (batch_update s.core owner messages)
run_by words.Pass s seat owner messages = by_event s owner events.Pass
run_by words.Usage s seat owner messages = by_event s owner events.Usage
run_by words.Close s seat owner messages = by_close s seat owner
run_by _ s seat owner messages = (answers.Call (Err not_built), s)

-- A record runs what its word says for the seat's owner. One of a word that isn't built is refused, and makes no entry but
-- its seat's Open.
unfoldable pub run_record : Seated → Asked → Answer × Seated
run_record s r = run_by r.word (opened s r.seat).1 r.seat (opened s r.seat).0 r.messages

-- a byte of a status text: printable ASCII but `%` as it is, any other as `%` and two upper-case hex digits
abbrev pub escaped_byte : ℕ → List ℕ
escaped_byte b = if nat_le 32 b && nat_le b 126 && not (b == 37) then b ∷ [] else percent_encode_byte b

-- a status text, or a dash for an empty one
abbrev pub text_or_dash : List ℕ → List ℕ
text_or_dash [] = codes "-"
text_or_dash (b ∷ bs) = flat_map escaped_byte (b ∷ bs)

-- the line of an answer: seat, word, code, message and text with a space between each two, and a newline
abbrev pub answer_line : Asked → ℕ → List ℕ → List ℕ → List ℕ
answer_line r code message text =
    decimal r.seat ++ (32 ∷ name_of r.word ++ (32 ∷ decimal code ++ (32 ∷ message ++ (32 ∷ text ++ 10 ∷ []))))

-- the line of what a call answered
abbrev pub call_line : Asked → Result (List ℕ) Status → List ℕ
call_line r (Ok message) = answer_line r 0 (message_text message) (codes "-")
call_line r (Err status) = answer_line r (number_of status.code) (codes "-") (text_or_dash status.text)

-- numbers in decimal, each behind a space, and a newline
abbrev pub numbers_text : List ℕ → List ℕ
numbers_text [] = 10 ∷ []
numbers_text (n ∷ ns) = 32 ∷ decimal n ++ numbers_text ns

-- a line of numbers: seat, word and these
abbrev pub numbers_line : Asked → List ℕ → List ℕ
numbers_line r ns = decimal r.seat ++ (32 ∷ name_of r.word ++ numbers_text ns)

-- The line of an answer: of a call; of a pass, how many rows it removed and how many bytes are used then; of the store's
-- numbers; and of a close.
abbrev pub line_for : Asked → Answer → List ℕ
line_for r (answers.Call called) = call_line r called
line_for r (answers.Passed removed used) = numbers_line r (removed ∷ used ∷ [])
line_for r (answers.Used usage) = numbers_line r (usage.used ∷ usage.guarded ∷ usage.rows ∷ usage.low ∷ usage.high ∷ [])
line_for r answers.Closed = numbers_line r []

-- the answer to a record: its line, and what is kept after it
unfoldable pub answer : Seated → Asked → List ℕ × Seated
answer s r = (line_for r (run_record s r).0, (run_record s r).1)
