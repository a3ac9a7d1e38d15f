-- Read (google.bytestream): its script, and what its responses have of the blob.
use Rattle.std.specs.Prelude.{◌≡◌, ◌⊎◌, ◌-◌, ◌≤◌, ◌<◌, nat_lt, true, false, ℕ, Bool, List, drop, Option, Some, None, IfNone, Result, Ok, Err, if◌then◌else◌}
use Rattle.digest_types.specs.Name.{HashAndSize}
use Rattle.cas_messages.specs.Table.{Value, ◌&◌}
use Rattle.cas_messages.specs.Meaning.{message_in}
use Rattle.cas_messages.specs.Spelling.{spelled}
use Rattle.cas_messages.specs.Tables.{read_request, read_response}
use Rattle.cas_messages.specs.declared.error.MessageError.{MessageError}
use Rattle.cas_messages.specs.declared.byte_stream.ReadRequest.{ReadRequest}
use Rattle.cas_messages.specs.declared.byte_stream.ReadResponse.{ReadResponse}
use Rattle.casd_base.specs.declared.status.Status.{Status}
use Rattle.store_core.specs.declared.event.Event.TheVariants as events
use Rattle.store_core.specs.declared.event.Reply.{Reply}
use Rattle.store_core.specs.declared.event.Reply.TheVariants as replies
use Rattle.blob_store.specs.Bodies.{ReadingState}
use Rattle.blob_store.specs.Calls.{Begins}
use Rattle.blob_store.specs.View.{View, Makes}
use Rattle.cas_calls.specs.Limits.{read_as}
use Rattle.cas_calls.specs.Script.{Script, End, Make, Room, Ask, Reader, More, Rest, Told, Failed, Began, Went, Ended, FoundOut}
use Rattle.cas_calls.specs.Statuses.{out_of_memory, store_fault, not_here, damaged, other_reply}
use Rattle.byte_stream.specs.declared.place.Place.{Place}
use Rattle.byte_stream.specs.declared.read_stop.ReadStop.{ReadStop}
use Rattle.byte_stream.specs.declared.read_stop.ReadStop.TheVariants as stops
use Rattle.byte_stream.specs.Places.{place_of, piece_end, IsRange}
use Rattle.byte_stream.specs.Pieces.{HasCount, GivesPiece, ReadsRest}

-- ---- the request

-- a request by the values of its fields
abbrev pub read_request_of : Value read_request → ReadRequest
read_request_of v = record { resource_name = v.0; read_offset = v.1.0; read_limit = v.1.1.0 }

-- the request that a message spells
unfoldable pub read_request_in : List ℕ → Result ReadRequest MessageError
read_request_in message = read_as read_request_of (message_in read_request message)

-- the message of a response with these bytes
abbrev pub response_spelled : List ℕ → List ℕ
response_spelled piece = spelled read_response (piece & tt)

-- ---- a call that has begun

-- the body that it reads, how far it has come, and why it gives no further bytes
pub record ReadState : Type 0 where
  pub reading : ReadingState
  pub place : Place
  pub ended : Option ReadStop

abbrev pub begun_at : Place → ReadingState → ReadState
begun_at p s = record { reading = s; place = p; ended = None }

-- the next piece was read, so that the reading stands so
abbrev pub gone_on : ReadState → ReadingState → ReadState
gone_on s t = record { reading = t; place = record s.place { read = piece_end s.place; next = piece_end s.place }; ended = None }

-- between two responses just those bytes were read that were sent or that lie before the range
pub record IsGoing (reading : ReadingState) (p : Place) : Type 0 where
  pub count : HasCount reading p.read
  pub ahead : p.read ≤ p.next

-- what holds of each
pub record IsReadState (reading : ReadingState) (p : Place) (ended : Option ReadStop) : Type 0 where
  pub range : IsRange p
  pub want : reading.want ≡ p.digest
  pub going : IfNone ended (IsGoing reading p)

-- ---- the call begins

-- a call that has begun, or a status
abbrev pub Opened : Type 0
Opened = Result ReadState Status

abbrev pub unopened : Script Opened
unopened = End (Err out_of_memory)

-- the reading that was told
abbrev pub begun_in : Told → Option ReadingState
begun_in (Began s) = Some s
begun_in _ = None

-- The body is read if the store has a sound row of the digest. Where it has, there is a body.
abbrev pub entry_script : Place → Option ReadingState → Reply → Script Opened
entry_script p (Some s) replies.Found = End (Ok (begun_at p s))
entry_script p None replies.Found = End (Err other_reply)
entry_script p o reply = Room unopened (End (Err (not_here p.digest)))

-- the entry is made unless the shelf can't begin to read
abbrev pub reader_script : Place → Told → Script Opened
reader_script p Failed = End (Err store_fault)
reader_script p told = Make (events.Read p.digest) (entry_script p (begun_in told))

abbrev pub opening_script : Result Place Status → Script Opened
opening_script (Err status) = End (Err status)
opening_script (Ok p) = Room unopened (Ask (Reader p.digest) (reader_script p))

abbrev pub begin_script : ReadRequest → Script Opened
begin_script r = opening_script (place_of r)

-- ---- and goes on, piece by piece

-- what the call answers: a piece of the blob, the end, or a status
abbrev pub Answered : Type 0
Answered = Result (Option (List ℕ)) Status

-- a response that was made
abbrev pub answered : Result (Option ReadResponse) Status → Answered
answered (Ok None) = Ok None
answered (Ok (Some r)) = Ok (Some r.bytes)
answered (Err status) = Err status

-- what is answered where no further bytes are given
abbrev pub stop_answer : {T : Type 0} → HashAndSize → ReadStop → Result (Option T) Status
stop_answer d stops.Done = Ok None
stop_answer d stops.Failed = Err store_fault
stop_answer d (stops.Damaged got) = Err (damaged d got)
stop_answer d stops.OutOfMemory = Err out_of_memory

-- the same, with how the call stands then where it goes on
abbrev pub Turned : Type 0
Turned = Result (Option (List ℕ × ReadState)) Status

abbrev pub standing : ReadState → Answered → Turned
standing s (Ok None) = Ok None
standing s (Ok (Some piece)) = Ok (Some (piece, s))
standing s (Err status) = Err status

-- the text of two digests needs memory
abbrev pub stop_script : HashAndSize → ReadStop → Script Turned
stop_script d (stops.Damaged got) = Room (End (Err out_of_memory)) (End (stop_answer d (stops.Damaged got)))
stop_script d stop = End (stop_answer d stop)

-- the damage of a body with this digest is noted
abbrev pub damage_script : HashAndSize → HashAndSize → Script Turned
damage_script d got = Make (events.Damage d) (λ reply. stop_script d (stops.Damaged got))

-- Nothing else is told of a body that is read on.
abbrev pub untold : Script Turned
untold = End (Err other_reply)

-- The next bytes of the body: those of the piece, behind the ones that lie before the range.
abbrev pub piece_told : ReadState → Told → Script Turned
piece_told s Failed = stop_script s.place.digest stops.Failed
piece_told s (Went t bytes) = End (Ok (Some (drop (s.place.next - s.place.read) bytes, gone_on s t)))
piece_told s (FoundOut t got) = damage_script s.place.digest got
piece_told s _ = untold

-- All of the body was read. The call ends with OK only if it has the digest.
abbrev pub rest_told : HashAndSize → Told → Script Turned
rest_told d Failed = stop_script d stops.Failed
rest_told d (Ended t) = stop_script d stops.Done
rest_told d (FoundOut t got) = damage_script d got
rest_told d _ = untold

abbrev pub wanting : Script Turned
wanting = End (Err out_of_memory)

-- the shelf is asked for the next piece, and gives it whole or not at all
abbrev pub piece_script : ReadState → Script Turned
piece_script s = Room wanting (Ask (More s.reading (piece_end s.place - s.place.read)) (piece_told s))

abbrev pub rest_script : ReadState → Script Turned
rest_script s = Room wanting (Ask (Rest s.reading) (rest_told s.place.digest))

-- pieces are read to the end of the range, and then the rest of the body
abbrev pub going_script : ReadState → Script Turned
going_script s = if nat_lt s.place.next s.place.stop then piece_script s else rest_script s

pub record IsBegun (s : ReadState) : Type 0 where
  pub reading : Begins s.place.digest s.reading
  pub ended : s.ended ≡ None

-- the script of its next response
abbrev pub next_by : Option ReadStop → ReadState → Script Turned
next_by None s = going_script s
next_by (Some stop) s = stop_script s.place.digest stop

abbrev pub next_script : ReadState → Script Turned
next_script s = next_by s.ended s

-- A piece of the range was given: it goes on behind the last one, and has as many bytes as a piece may have or reaches the end
-- of the range. All that was read of the body is what had been read, the bytes before the range, and the piece.
pub record Sends (old new : ReadState) (piece : List ℕ) : Type 0 where
  pub going : old.ended ≡ None
  pub more : old.place.next < old.place.stop
  pub gives : GivesPiece old.place old.reading new.reading piece
  pub place : new.place ≡ record old.place { read = piece_end old.place; next = piece_end old.place }
  pub ended : new.ended ≡ None

-- All pieces were given, and then the rest of the body was read, which has the digest.
pub record Finishes (old new : ReadState) : Type 0 where
  pub all : old.place.next ≡ old.place.stop
  pub rest : ReadsRest old.reading new.reading

-- ---- a turn of it

-- a piece, or why there is none
abbrev pub turn_script : ReadState → ReadingState → Result (List ℕ) ReadStop → Script Turned
turn_script s t (Ok piece) = End (Ok (Some (piece, gone_on s t)))
turn_script s t (Err stop) = stop_script s.place.digest stop

-- whether the damage of a body is to be noted
abbrev pub is_damage : Result (List ℕ) ReadStop → Bool
is_damage (Err (stops.Damaged got)) = true
is_damage _ = false

-- it is noted, or nothing is
abbrev pub Notes : Bool → HashAndSize → View → View → Type 0
Notes true d v w = Makes v w (events.Damage d) replies.Marked
Notes false d v w = w ≡ v

-- how a turn ends where it gives no piece
abbrev pub IsEnd : Place → ReadingState → ReadingState → ReadStop → Type 0
IsEnd p old new stops.Done = (p.next ≡ p.stop) × ReadsRest old new
IsEnd p old new stop = Unit {0}

-- the end that a call keeps is the one that it met, or that memory was wanting for its text
abbrev pub Keeps : ReadStop → ReadStop → Type 0
Keeps (stops.Damaged got) kept = (kept ≡ stops.Damaged got) ⊎ (kept ≡ stops.OutOfMemory)
Keeps stop kept = kept ≡ stop

-- the place after a turn, and why there is no further one
abbrev pub place_after : Place → Result (List ℕ) ReadStop → Place
place_after p (Ok piece) = record p { read = piece_end p; next = piece_end p }
place_after p (Err stop) = p

abbrev pub ended_after : Result (List ℕ) ReadStop → Option ReadStop
ended_after (Ok piece) = None
ended_after (Err stop) = Some stop
