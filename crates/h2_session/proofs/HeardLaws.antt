-- What is heard, by the place of its stream.
use Rattle.std.proofs.Common.{◌≡◌, ℕ, Bool, true, false, List, [], ◌∷◌, ◌++◌, refl, ap, arith}
use Rattle.std.specs.Prelude.{Option, Some, None, slice_set, remove, not, ◌||◌, ◌==◌, is_some, is_none, if◌then◌else◌}
use Rattle.h2_frames.specs.declared.frame.Frame.{Frame}
use Rattle.h2_frames.specs.declared.frame.Frame.TheVariants as frames
use Rattle.hpack_tables.specs.declared.header.Header.{Header}
use Rattle.h2_session.specs.Codes.{protocol_error, flow_control_error}
use Rattle.h2_session.specs.declared.stream.Stream.{Stream}
use Rattle.h2_session.specs.declared.block.Block.{Block}
use Rattle.h2_session.specs.declared.event.SessionEvent.TheVariants as events
use Rattle.h2_session.specs.Part.{Part, place_of, stream_of, IsRow}
use Rattle.h2_session.specs.Windows.{Flow, grown, passes_max}
use Rattle.h2_session.specs.Rows.{rows_ended, is_done, may_open}
use Rattle.h2_session.specs.Faults.{frame_offence, continues, with_fragment, gathered}
use Rattle.h2_session.specs.Heard.{nothing, tells, begun_by, at_offence, ended_by_peer, reset, grants, granted, data_on, headed, updated, reset_by_peer}
use Rattle.h2_session.proofs.SaidLaws.{first_by_number, stream_by_row}
use Rattle.h2_session.proofs.RowLaws.{begun_is}

ended_rows : (b : Bool) (p : Part) (xs ys : List Stream) → (if b then record p { streams = xs } else record p { streams = ys }) ≡ record p { streams = if b then xs else ys }
ended_rows true p xs ys = refl
ended_rows false p xs ys = refl

pub ended_put : (s : Stream) (p : Part) (i : ℕ) → place_of s.number p.streams ≡ Some i → ended_by_peer s p ≡ record p { streams = rows_ended i s p.streams }
ended_put s p i first = rw first (ended_rows (is_done s.sending) p _ _)

pub data_none : (n : ℕ) (bytes : List ℕ) (size : ℕ) (e : Bool) (p : Part) → place_of n p.streams ≡ None → data_on n bytes size e (stream_of n p) p ≡ nothing (granted 0 size p)
data_none n bytes size e p h = rw h refl

pub data_end : (n : ℕ) (bytes : List ℕ) (size : ℕ) (p : Part) (i : ℕ) (r : IsRow n p.streams i)
    → data_on n bytes size true (stream_of n p) p ≡ tells (events.Piece n bytes true) (record p { due = p.due ++ grants 0 size; streams = rows_ended i r.row p.streams })
data_end n bytes size p i r = rw (stream_by_row n p i r) (ap (λ (x : Part). tells (events.Piece n bytes true) x) (ended_put r.row (granted 0 size p) i (first_by_number n p.streams i r)))

pub data_more : (n : ℕ) (bytes : List ℕ) (size : ℕ) (p : Part) (i : ℕ) (r : IsRow n p.streams i)
    → data_on n bytes size false (stream_of n p) p ≡ tells (events.Piece n bytes false) (record p { due = (p.due ++ grants 0 size) ++ grants n size })
data_more n bytes size p i r = rw (stream_by_row n p i r) refl

pub headed_some : (n : ℕ) (headers : List Header) (e : Bool) (p : Part) (i : ℕ) (r : IsRow n p.streams i)
    → headed n headers e (stream_of n p) p ≡ tells (events.Headers n headers e) (record p { streams = if e then rows_ended i r.row p.streams else p.streams })
headed_some n headers true p i r = rw (stream_by_row n p i r) (ap (λ (x : Part). tells (events.Headers n headers true) x) (ended_put r.row p i (first_by_number n p.streams i r)))
headed_some n headers false p i r = rw (stream_by_row n p i r) refl

pub headed_none : (n : ℕ) (headers : List Header) (e : Bool) (p : Part) → place_of n p.streams ≡ None → headed n headers e (stream_of n p) p ≡ nothing p
headed_none n headers e p h = rw h refl

pub reset_some : (n code : ℕ) (p : Part) (i : ℕ) (r : IsRow n p.streams i) → reset_by_peer n code p ≡ tells (events.Reset n code) (record p { streams = remove p.streams i })
reset_some n code p i r = rw r.first refl

pub reset_none : (n code : ℕ) (p : Part) → place_of n p.streams ≡ None → reset_by_peer n code p ≡ nothing p
reset_none n code p h = rw h refl

pub reset_here : (n code : ℕ) (p : Part) (i : ℕ) (r : IsRow n p.streams i) → reset n code p ≡ tells (events.Reset n code) (record p { due = p.due ++ frames.Reset r.row.number code ∷ []; streams = remove p.streams i })
reset_here n code p i r = rw (r.first, r.same) refl

pub updated_none : (n increment : ℕ) (p : Part) → place_of n p.streams ≡ None → updated n increment (stream_of n p) p ≡ nothing p
updated_none n increment p h = rw h refl

pub updated_zero : (n increment : ℕ) (p : Part) (i : ℕ) (r : IsRow n p.streams i) → increment ≡ 0 → updated n increment (stream_of n p) p ≡ reset n protocol_error p
updated_zero n increment p i r h = rw (stream_by_row n p i r, h) refl

pub updated_far : (n increment : ℕ) (p : Part) (i : ℕ) (r : IsRow n p.streams i) → (increment == 0) ≡ false → passes_max p.initial (grown increment r.row.flow) ≡ true → updated n increment (stream_of n p) p ≡ reset n flow_control_error p
updated_far n increment p i r z h = rw (stream_by_row n p i r, z, h) refl

pub updated_grown : (n increment : ℕ) (p : Part) (i : ℕ) (r : IsRow n p.streams i) → (increment == 0) ≡ false → passes_max p.initial (grown increment r.row.flow) ≡ false
    → updated n increment (stream_of n p) p ≡ nothing (record p { streams = slice_set p.streams i (record r.row { flow = grown increment r.row.flow }) })
updated_grown n increment p i r z h = rw (stream_by_row n p i r, z, h, first_by_number n p.streams i r) refl

pub grown_some : (b : Bool) (x f : Flow) (o : Option Flow) → o ≡ (if b then None else Some x) → o ≡ Some f → (b ≡ false) × (f ≡ x)
grown_some true x f o e h = cc
grown_some false x f o e h = (refl, grind arith)

pub grown_none : (b : Bool) (x : Flow) (o : Option Flow) → o ≡ (if b then None else Some x) → o ≡ None → b ≡ true
grown_none true x o e h = refl
grown_none false x o e h = cc

begun_if : (c : Bool) (p : Part) (n : ℕ) → (c ≡ true → n ≡ p.highest) → (if c then record p { highest = n } else p).highest ≡ p.highest
begun_if true p n h = h refl
begun_if false p n h = refl

-- a further fragment begins no further stream
pub begun_same : (p : Part) (block : Option Block) (bytes : List ℕ) → may_open p.role block p.highest ≡ true → (begun_by (with_fragment bytes block) p).highest ≡ p.highest
begun_same p None bytes o = refl
begun_same p (Some b) bytes o = begun_if b.begins p b.stream (λ e. begun_is p.role b p.highest e o)

-- the role stays
begun_role_if : (c : Bool) (p : Part) (n : ℕ) → (if c then record p { highest = n } else p).role ≡ p.role
begun_role_if true p n = refl
begun_role_if false p n = refl

begun_role : (p : Part) (o : Option Block) → (begun_by o p).role ≡ p.role
begun_role p None = refl
begun_role p (Some b) = begun_role_if b.begins p b.stream

role_if : (c : Bool) (p q : Part) → q.role ≡ p.role → (if c then q else p).role ≡ p.role
role_if true p q h = h
role_if false p q h = refl

pub at_role : (p : Part) (f : Frame) → (at_offence p f).role ≡ p.role
at_role p f = role_if (is_none (frame_offence p f)) p (begun_by (gathered p f) p) (begun_role p (gathered p f))

-- ---- what a frame without an offence shows

block_by : (begun : Bool) (block : Option Block) (s : ℕ) (b : List ℕ) (e w : Bool) (x : Option ℕ)
    → (if not (begun || false) then Some protocol_error else if not (continues block (frames.Headers s b e w)) then Some protocol_error else x) ≡ None → block ≡ None
block_by true None s b e w x h = refl
block_by true (Some open') s b e w x h = cc
block_by false block s b e w x h = cc

pub no_block : (p : Part) (s : ℕ) (b : List ℕ) (e w : Bool) → frame_offence p (frames.Headers s b e w) ≡ None → p.block ≡ None
no_block p s b e w h = block_by p.begun p.block s b e w _ h

continued_by : (begun : Bool) (block : Option Block) (s : ℕ) (b : List ℕ) (w : Bool) (x : Option ℕ)
    → (if not (begun || false) then Some protocol_error else if not (continues block (frames.Continuation s b w)) then Some protocol_error else x) ≡ None → is_some block ≡ true
continued_by true None s b w x h = cc
continued_by true (Some open') s b w x h = refl
continued_by false block s b w x h = cc

pub has_block : (p : Part) (s : ℕ) (b : List ℕ) (w : Bool) → frame_offence p (frames.Continuation s b w) ≡ None → is_some p.block ≡ true
has_block p s b w h = continued_by p.begun p.block s b w _ h
