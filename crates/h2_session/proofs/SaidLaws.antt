-- What is handed in, by the place of its stream.
use Rattle.std.proofs.Common.{◌≡◌, ℕ, Bool, true, false, List, [], ◌∷◌, ◌++◌, refl, sym, ap, subst, ◌∙◌, append_assoc}
use Rattle.std.specs.Prelude.{Some, slice_set, remove}
use Rattle.h2_frames.specs.declared.frame.Frame.{Frame}
use Rattle.h2_frames.specs.declared.frame.Frame.TheVariants as frames
use Rattle.hpack_tables.specs.declared.header.Header.{Header}
use Rattle.h2_session.specs.declared.stream.Stream.{Stream}
use Rattle.h2_session.specs.declared.stream.Sending.{Sending}
use Rattle.h2_session.specs.declared.stream.Sending.TheVariants as sending
use Rattle.h2_session.specs.declared.event.Out.TheVariants as outs
use Rattle.h2_session.specs.Part.{Part, place_of, stream_of, IsRow}
use Rattle.h2_session.specs.Rows.{rows_said, rows_answered, is_unopened}
use Rattle.h2_session.specs.Said.{said, said_headers, said_piece, owing_headers, headers_frame, cancelled}
use Rattle.h2_session.specs.Sent.{ending}
use Rattle.h2_session.proofs.PartLaws.{closed_is}

pub first_by_number : (n : ℕ) (ss : List Stream) (i : ℕ) (r : IsRow n ss i) → place_of r.row.number ss ≡ Some i
first_by_number n ss i r = subst (λ (k : ℕ). place_of k ss ≡ Some i) (sym r.same) r.first

pub stream_by_row : (n : ℕ) (p : Part) (i : ℕ) (r : IsRow n p.streams i) → stream_of n p ≡ Some r.row
stream_by_row n p i r = rw r.first r.at

piece_put : (bytes : List ℕ) (e : Bool) (s : Stream) (p : Part) (i : ℕ) → place_of s.number p.streams ≡ Some i → said_piece bytes e s p ≡ record p { streams = rows_said i bytes e s p.streams }
piece_put bytes true s p i first = rw first refl
piece_put bytes false s p i first = rw first refl

pub piece_said : (n : ℕ) (bytes : List ℕ) (e : Bool) (p : Part) (i : ℕ) (r : IsRow n p.streams i) → said n (outs.Piece bytes e) p ≡ record p { streams = rows_said i bytes e r.row p.streams }
piece_said n bytes e p i r = rw (stream_by_row n p i r) (piece_put bytes e r.row p i (first_by_number n p.streams i r))

trailers_put : (headers : List Header) (e : Bool) (s : Stream) (x : Sending) (p : Part) (i : ℕ) → place_of s.number p.streams ≡ Some i → is_unopened x ≡ false
    → said_headers headers e s x p ≡ record p { streams = slice_set p.streams i (record s { sending = sending.Trailers headers }) }
trailers_put headers true s sending.Unopened p i first h = cc
trailers_put headers false s sending.Unopened p i first h = cc
trailers_put headers true s sending.Open p i first h = rw first refl
trailers_put headers false s sending.Open p i first h = rw first refl
trailers_put headers true s (sending.Trailers hs) p i first h = rw first refl
trailers_put headers false s (sending.Trailers hs) p i first h = rw first refl
trailers_put headers true s sending.HalfClose p i first h = rw first refl
trailers_put headers false s sending.HalfClose p i first h = rw first refl
trailers_put headers true s sending.Ended p i first h = rw first refl
trailers_put headers false s sending.Ended p i first h = rw first refl

pub trailers_said : (n : ℕ) (headers : List Header) (e : Bool) (p : Part) (i : ℕ) (r : IsRow n p.streams i) → is_unopened r.row.sending ≡ false
    → said n (outs.Headers headers e) p ≡ record p { streams = slice_set p.streams i (record r.row { sending = sending.Trailers headers }) }
trailers_said n headers e p i r h = rw (stream_by_row n p i r) (trailers_put headers e r.row r.row.sending p i (first_by_number n p.streams i r) h)

answer_put : (headers : List Header) (e : Bool) (s : Stream) (x : Sending) (p : Part) (i : ℕ) → place_of s.number p.streams ≡ Some i → is_unopened x ≡ true
    → said_headers headers e s x p ≡ record p { due = p.due ++ (headers_frame s.number headers e p ∷ ending e s); shrink = false; streams = rows_answered i e s p.streams }
answer_put headers true s sending.Unopened p i first h =
    closed_is s.ended s (owing_headers s.number headers true p) i first refl
    ∙ ap (λ (fs : List Frame). record p { due = fs; shrink = false; streams = remove p.streams i }) (append_assoc p.due (headers_frame s.number headers true p ∷ []) (ending true s))
answer_put headers false s sending.Unopened p i first h = rw first refl
answer_put headers e s sending.Open p i first h = cc
answer_put headers e s (sending.Trailers hs) p i first h = cc
answer_put headers e s sending.HalfClose p i first h = cc
answer_put headers e s sending.Ended p i first h = cc

pub answer_said : (n : ℕ) (headers : List Header) (e : Bool) (p : Part) (i : ℕ) (r : IsRow n p.streams i) → is_unopened r.row.sending ≡ true
    → said n (outs.Headers headers e) p ≡ record p { due = p.due ++ (headers_frame r.row.number headers e p ∷ ending e r.row); shrink = false; streams = rows_answered i e r.row p.streams }
answer_said n headers e p i r h = rw (stream_by_row n p i r) (answer_put headers e r.row r.row.sending p i (first_by_number n p.streams i r) h)

pub cancel_said : (n code : ℕ) (p : Part) (i : ℕ) (r : IsRow n p.streams i) → cancelled n code p ≡ record p { due = p.due ++ frames.Reset r.row.number code ∷ []; streams = remove p.streams i }
cancel_said n code p i r = rw (r.first, r.same) refl
