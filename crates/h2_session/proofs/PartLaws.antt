-- What is written, and what it leaves.
use Rattle.std.proofs.Common.{◌≡◌, ℕ, ◌-◌, ◌≤◌, ◌<◌, ◌⊎◌, Bool, true, false, List, [], ◌∷◌, ◌++◌, length, arith, refl, sym, ap, subst, ◌∙◌, inl, inr, take, append_assoc, append-nil}
use Rattle.std.specs.Prelude.{Some, slice_get, remove, ◌==◌, if◌then◌else◌}
use Rattle.std.proofs.lemmas.Grind.{flat_map-append}
use Rattle.std.proofs.lemmas.Bool.{eq-eqb}
use Rattle.std.proofs.lemmas.List.{length-take-le}
use Rattle.h2_frames.specs.declared.frame.Frame.{Frame}
use Rattle.h2_frames.specs.declared.frame.Frame.TheVariants as frames
use Rattle.h2_frames.specs.Spelling.{spelled}
use Rattle.hpack_tables.specs.declared.header.Header.{Header}
use Rattle.h2_session.specs.declared.stream.Stream.{Stream}
use Rattle.h2_session.specs.declared.stream.Sending.TheVariants as sending
use Rattle.h2_session.specs.Codes.{no_error}
use Rattle.h2_session.specs.Part.{Part, place_of, stream_of}
use Rattle.h2_session.specs.Rows.{rows_after}
use Rattle.h2_session.specs.Said.{headers_frame, closed}
use Rattle.h2_session.specs.Sent.{Sends, sent, spellings, Writes, Pays, Settles, IsQuiet, after_piece, is_closing, IsPiece}
use Rattle.h2_session.specs.Turns.{MayTake}

-- what is due is written in its order
owed : (fs : List Frame) (p : Part) → Sends (record p { due = fs }) fs (record p { due = [] })
owed [] p = refl
owed (f ∷ fs) p = (refl, owed fs p)

pub Sends-join : (p : Part) (fs : List Frame) (q : Part) (gs : List Frame) (r : Part) → Sends p fs q → Sends q gs r → Sends p (fs ++ gs) r
Sends-join p [] q gs r h k = subst (λ (x : Part). Sends x gs r) (sym h) k
Sends-join p (f ∷ fs) q gs r h k = (h.0, Sends-join (sent p f) fs q gs r h.1 k)

spellings-join : (fs gs : List Frame) (out mid now : List ℕ) → mid ≡ out ++ spellings fs → now ≡ mid ++ spellings gs → now ≡ out ++ spellings (fs ++ gs)
spellings-join fs gs out mid now e f =
    let a = flat_map-append spelled fs gs in
    let b = append_assoc out (spellings fs) (spellings gs) in
    cc

pub writes_nothing : (p : Part) (out : List ℕ) → Writes p out p out
writes_nothing p out = record { frames = []; sends = refl; output = sym (append-nil out) }

pub writes_join : (p q r : Part) (out mid now : List ℕ) → Writes p out q mid → Writes q mid r now → Writes p out r now
writes_join p q r out mid now h k = record {
  frames = h.frames ++ k.frames;
  sends = Sends-join p h.frames q k.frames r h.sends k.sends;
  output = spellings-join h.frames k.frames out mid now h.output k.output;
}

pub pays_writes : (p q : Part) (out now : List ℕ) → Pays p out q now → Writes p out q now
pays_writes p q out now h = record {
  frames = p.due;
  sends = subst (λ (x : Part). Sends p p.due x) (sym h.part) (owed p.due p);
  output = h.output;
}

pub writes_settles : (p q : Part) (out now : List ℕ) → Writes p out q now → IsQuiet q → Settles p out q now
writes_settles p q out now h k = record { frames = h.frames; sends = h.sends; output = h.output; quiet = k }

pub settles_writes : (p q : Part) (out now : List ℕ) → Settles p out q now → Writes p out q now
settles_writes p q out now h = record { frames = h.frames; sends = h.sends; output = h.output }

pub pays_by : (p p' q : Part) (out now : List ℕ) → p ≡ p' → q ≡ record p' { due = [] } → now ≡ out ++ spellings p'.due → Pays p out q now
pays_by p p' q out now e a b = record {
  part = a ∙ ap (λ (x : Part). record x { due = [] }) (sym e);
  output = b ∙ ap (λ (x : Part). out ++ spellings x.due) (sym e);
}

pub spellings_one : (f : Frame) → spellings (f ∷ []) ≡ spelled f
spellings_one f = append-nil (spelled f)

pub spellings_two : (out mid now : List ℕ) (fs gs : List Frame) → mid ≡ out ++ spellings fs → now ≡ mid ++ spellings gs → now ≡ out ++ spellings (fs ++ gs)
spellings_two out mid now fs gs e f = spellings-join fs gs out mid now e f

pub pays_settles : (p r q : Part) (out mid now : List ℕ) → Pays p out r mid → Settles r mid q now → Settles p out q now
pays_settles p r q out mid now h k =
    writes_settles p q out now (writes_join p r q out mid now (pays_writes p r out mid h) (settles_writes r q mid now k)) k.quiet

stream_found : (p : Part) (i : ℕ) (s : Stream) → slice_get p.streams i ≡ Some s → place_of s.number p.streams ≡ Some i → stream_of s.number p ≡ Some s
stream_found p i s at first = rw first at

if_part : (b : Bool) (p : Part) (xs ys : List Stream) → (if b then record p { streams = xs } else record p { streams = ys }) ≡ record p { streams = if b then xs else ys }
if_part true p xs ys = refl
if_part false p xs ys = refl

after_piece_is : (e : Bool) (p : Part) (i size : ℕ) (s : Stream) → place_of s.number p.streams ≡ Some i → after_piece size e (Some s) p ≡ record p { streams = rows_after size e i s p.streams }
after_piece_is true p i size s first = rw first (if_part s.ended p _ _)
after_piece_is false p i size s first = rw first refl

ends : (s : Stream) (size : ℕ) (e : Bool) → (0 < size) ⊎ ((s.waits ≡ []) × (is_closing s.sending ≡ true)) → e ≡ (if size == length s.waits then is_closing s.sending else false) → size ≤ length s.waits → (n : ℕ) → size ≡ n → (0 < n) ⊎ (e ≡ true)
ends s size e h is l n same = elim h [ inl p ↦ inl (omega (arith, p, same)) | inr q ↦ inr (let k : size ≡ length s.waits = omega (arith, ap length q.0, l) in let t = eq-eqb size (length s.waits) k in let f : e ≡ is_closing s.sending = rw t at is in f ∙ q.1) ]

piece_is : (window initial size : ℕ) (s : Stream) (e : Bool) → MayTake window initial s size → e ≡ (if size == length s.waits then is_closing s.sending else false) → IsPiece window initial s (take size s.waits) e
piece_is window initial size s e may is =
    let n : length (take size s.waits) ≡ size = length-take-le size s.waits may.whole in
    record {
      next = rw n refl;
      some = ends s size e may.some is may.whole (length (take size s.waits)) (sym n);
      short = omega (arith, n, may.short);
      of_stream = omega (arith, n, may.of_stream);
      of_connection = omega (arith, n, may.of_connection);
      last = rw n is;
    }

pub piece_writes : (p : Part) (i size : ℕ) (s : Stream) (e : Bool) (q : Part) (out now : List ℕ) → slice_get p.streams i ≡ Some s → place_of s.number p.streams ≡ Some i → MayTake p.window p.initial s size
    → e ≡ (if size == length s.waits then is_closing s.sending else false) → q ≡ record p { due = []; window = p.window - size; streams = rows_after size e i s p.streams }
    → now ≡ out ++ spelled (frames.Data s.number (take size s.waits) size e) → Writes (record p { due = [] }) out q now
piece_writes p i size s e q out now at first may is to output =
    let found = stream_found p i s at first in
    let n : length (take size s.waits) ≡ size = length-take-le size s.waits may.whole in
    record {
      frames = frames.Data s.number (take size s.waits) size e ∷ [];
      sends = (rw found (sym n, piece_is p.window p.initial size s e may is), rw found (after_piece_is e (record p { due = []; window = p.window - size }) i size s first ∙ sym to));
      output = output ∙ ap (λ (x : List ℕ). out ++ x) (sym (append-nil (spelled (frames.Data s.number (take size s.waits) size e))));
    }

pub closed_is : (b : Bool) (s : Stream) (p : Part) (i : ℕ) → place_of s.number p.streams ≡ Some i → s.ended ≡ b
    → closed s p ≡ record p { due = p.due ++ (if b then [] else frames.Reset s.number no_error ∷ []); streams = remove p.streams i }
closed_is true s p i first e = rw (e, first, append-nil p.due) refl
closed_is false s p i first e = rw (e, first) refl

trailers_by : (b : Bool) (p : Part) (i : ℕ) (s : Stream) (headers : List Header) (q : Part) (out now : List ℕ) → s.ended ≡ b → slice_get p.streams i ≡ Some s → place_of s.number p.streams ≡ Some i
    → s.waits ≡ [] → s.sending ≡ sending.Trailers headers → q ≡ record p { due = []; shrink = false; streams = remove p.streams i }
    → now ≡ out ++ (spelled (headers_frame s.number headers true p) ++ spellings (if b then [] else frames.Reset s.number no_error ∷ [])) → Writes (record p { due = [] }) out q now
trailers_by true p i s headers q out now ended at first waits sending to output =
    let found = stream_found p i s at first in
    record {
      frames = headers_frame s.number headers true p ∷ [];
      sends = (rw (found, sending) (waits, refl), rw found (closed_is true s (record p { due = []; shrink = false }) i first ended ∙ sym to));
      output = output;
    }
trailers_by false p i s headers q out now ended at first waits sending to output =
    let found = stream_found p i s at first in
    let closed = closed_is false s (record p { due = []; shrink = false }) i first ended in
    record {
      frames = headers_frame s.number headers true p ∷ frames.Reset s.number no_error ∷ [];
      sends = (rw (found, sending) (waits, refl), rw (found, closed) (refl, sym to));
      output = output;
    }

pub trailers_write : (p : Part) (i : ℕ) (s : Stream) (headers : List Header) (q : Part) (out now : List ℕ) → slice_get p.streams i ≡ Some s → place_of s.number p.streams ≡ Some i
    → s.waits ≡ [] → s.sending ≡ sending.Trailers headers → q ≡ record p { due = []; shrink = false; streams = remove p.streams i }
    → now ≡ out ++ (spelled (headers_frame s.number headers true p) ++ spellings (if s.ended then [] else frames.Reset s.number no_error ∷ [])) → Writes (record p { due = [] }) out q now
trailers_write p i s headers q out now = trailers_by s.ended p i s headers q out now refl
