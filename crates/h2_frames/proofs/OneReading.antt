-- The bytes of a connection have one reading.
use Rattle.std.proofs.Common.{◌≡◌, ℕ, zero, suc, ◌+◌, ◌≤◌, ◌⊎◌, inl, inr, Bool, true, false, Result, Ok, Err, Option, Some, None, List, [], ◌∷◌, ◌++◌, length, take, drop, refl, sym, ap, subst, ◌∙◌, append_assoc, arith}
use Rattle.std.proofs.lemmas.List.{append-nil, length-append, length-drop, take-append-drop, drop_at}
use Rattle.proto_wire.specs.Reading.{IsBytes}
use Rattle.proto_wire.proofs.Varints.{IsBytes-drop}
use Rattle.h2_frames.specs.declared.fault.FrameFault.{FrameFault}
use Rattle.h2_frames.specs.declared.frame.Frame.{Frame}
use Rattle.h2_frames.specs.Reading.{frame_at}
use Rattle.h2_frames.specs.Spelling.{IsSpelling}
use Rattle.h2_frames.specs.Stream.{Pending, preface, preface_at, place_of}
use Rattle.h2_frames.specs.Grammar.{Frames, IsRest, IsPrefaceRest, front_of, HasFrames, IsStream, HasGiven}
use Rattle.h2_frames.proofs.Again.{frame_again}
use Rattle.h2_frames.proofs.Found.{frame_found, frame_long}
use Rattle.h2_frames.proofs.Rests.{ending, rest_again, rest_found}
use Rattle.h2_frames.proofs.Prefaces.{preface_ending, preface_whole, preface_rest_again, preface_found, preface_rest_found}

-- ---- one reading

abbrev pub frame_read : Frame → ℕ → Result (Option (Frame × ℕ)) FrameFault
frame_read f n = Ok (Some (f, n))

abbrev pub read_of : Frame × ℕ → Result (Option (Frame × ℕ)) FrameFault
read_of x = Ok (Some x)

pub some_is : (x y : Frame × ℕ) → read_of x ≡ read_of y → x ≡ y
some_is x y e = cc

pub read_is : (r : Result (Option (Frame × ℕ)) FrameFault) (f g : Frame) (m n : ℕ) → r ≡ frame_read f m → r ≡ frame_read g n → (f ≡ g) × (m ≡ n)
read_is r f g m n p q =
    let x : Frame × ℕ = (f, m) in
    let y : Frame × ℕ = (g, n) in
    let same : x ≡ y = some_is x y (sym p ∙ q) in
    (ap (λ z. z.0) same, ap (λ z. z.1) same)

pub not_ending : (end : Option FrameFault) (x : Frame × ℕ) → read_of x ≡ ending end → ⊥
not_ending None x e = cc
not_ending (Some d) x e = cc

pub ending_is : (d e : Option FrameFault) → ending d ≡ ending e → d ≡ e
ending_is None None h = refl
ending_is None (Some e) h = absurd cc
ending_is (Some d) None h = absurd cc
ending_is (Some d) (Some e) h = cc

-- no frame begins at a rest
pub no_frame : (at : ℕ) (rest first behind_it : List ℕ) (f : Frame) (end : Option FrameFault) → IsSpelling first f → rest ≡ first ++ behind_it → frame_at at rest ≡ ending end → ⊥
no_frame at rest first behind_it f end s parts e =
    not_ending end (f, length first) (sym (ap (frame_at at) parts ∙ frame_again at first behind_it f s) ∙ e)

-- two spellings at one beginning
pub record Same (f g : Frame) (s t x y : List ℕ) : Type 0 where
  pub frame : f ≡ g
  pub len : length s ≡ length t
  pub rest : x ≡ y

pub one_first : (at : ℕ) (f g : Frame) (s t x y : List ℕ) → IsSpelling s f → IsSpelling t g → s ++ x ≡ t ++ y → Same f g s t x y
one_first at f g s t x y p q e =
    let r = read_is (frame_at at (s ++ x)) f g (length s) (length t) (frame_again at s x f p) (ap (frame_at at) e ∙ frame_again at t y g q) in
    record {
      frame = r.0;
      len = r.1;
      rest = sym (drop_at s x (length s) refl) ∙ ap (drop (length s)) e ∙ drop_at t y (length s) (sym r.1);
    }

pub placed_is : (p q : ℕ × Frame) (at : ℕ) → p.0 ≡ at → q.0 ≡ at → p.1 ≡ q.1 → p ≡ q
placed_is p q at a b e =
    let place : p.0 ≡ q.0 = a ∙ sym b in
    ap (λ (n : ℕ). (n, p.1)) place ∙ ap (λ (f : Frame). (q.0, f)) e

-- the bytes behind a first frame
pub behind_first : (m first rest r : List ℕ) → m ≡ first ++ rest → m ++ r ≡ first ++ (rest ++ r)
behind_first m first rest r e = ap (λ (ys : List ℕ). ys ++ r) e ∙ append_assoc first rest r

-- all frames, how they end, and where
pub record SameReading (ps qs : List (ℕ × Frame)) (d e : Option FrameFault) (m n : ℕ) (r s : List ℕ) : Type 0 where
  pub frames : ps ≡ qs
  pub end : d ≡ e
  pub at : m ≡ n
  pub rest : r ≡ s

pub frames_one : (at : ℕ) (m n r s : List ℕ) (ps qs : List (ℕ × Frame)) (d e : Option FrameFault) → Frames at m ps → Frames at n qs → m ++ r ≡ n ++ s → frame_at (at + length m) r ≡ ending d → frame_at (at + length n) s ≡ ending e → SameReading ps qs d e (at + length m) (at + length n) r s
frames_one at m n r s [] [] d e v w same x y =
    let rests : r ≡ s = ap (λ (ys : List ℕ). ys ++ r) (sym v) ∙ same ∙ ap (λ (ys : List ℕ). ys ++ s) w in
    let places : at + length m ≡ at + length n = ap (λ (ys : List ℕ). at + length ys) (v ∙ sym w) in
    record {
      frames = refl;
      end = ending_is d e (sym x ∙ ap (frame_at (at + length m)) rests ∙ ap (λ (k : ℕ). frame_at k s) places ∙ y);
      at = places;
      rest = rests;
    }
frames_one at m n r s [] (q ∷ qs) d e v w same x y =
    let here : r ≡ w.0 ++ (w.1 ++ s) = ap (λ (ys : List ℕ). ys ++ r) (sym v) ∙ same ∙ behind_first n w.0 w.1 s w.4 in
    absurd (no_frame (at + length m) r w.0 (w.1 ++ s) q.1 d w.2 here x)
frames_one at m n r s (p ∷ ps) [] d e v w same x y =
    let here : s ≡ v.0 ++ (v.1 ++ r) = ap (λ (ys : List ℕ). ys ++ s) (sym w) ∙ sym same ∙ behind_first m v.0 v.1 r v.4 in
    absurd (no_frame (at + length n) s v.0 (v.1 ++ r) p.1 e v.2 here y)
frames_one at m n r s (p ∷ ps) (q ∷ qs) d e v w same x y =
    let o = one_first at p.1 q.1 v.0 w.0 (v.1 ++ r) (w.1 ++ s) v.2 w.2 (sym (behind_first m v.0 v.1 r v.4) ∙ same ∙ behind_first n w.0 w.1 s w.4) in
    let mine : at + length m ≡ (at + length v.0) + length v.1 = omega (arith, ap length v.4, length-append v.0 v.1) in
    let yours : at + length n ≡ (at + length v.0) + length w.1 = omega (arith, ap length w.4, length-append w.0 w.1, o.len) in
    let others = subst (λ (k : ℕ). Frames (at + k) w.1 qs) (sym o.len) w.5 in
    let ih = frames_one (at + length v.0) v.1 w.1 r s ps qs d e v.5 others o.rest (subst (λ (k : ℕ). frame_at k r ≡ ending d) mine x) (subst (λ (k : ℕ). frame_at k s ≡ ending e) yours y) in
    let firsts : p ≡ q = placed_is p q at v.3 w.3 o.frame in
    record {
      frames = ap (λ (z : ℕ × Frame). z ∷ ps) firsts ∙ ap (λ (zs : List (ℕ × Frame)). q ∷ zs) ih.frames;
      end = ih.end;
      at = mine ∙ ih.at ∙ sym yours;
      rest = ih.rest;
    }

-- all frames begin with those of any front
pub frames_first : (at : ℕ) (m n r s : List ℕ) (ps qs : List (ℕ × Frame)) (d : Option FrameFault) → Frames at m ps → Frames at n qs → m ++ r ≡ n ++ s → frame_at (at + length m) r ≡ ending d → (more : List (ℕ × Frame)) × (ps ≡ qs ++ more)
frames_first at m n r s ps [] d v w same x = (ps, refl)
frames_first at m n r s [] (q ∷ qs) d v w same x =
    let here : r ≡ w.0 ++ (w.1 ++ s) = ap (λ (ys : List ℕ). ys ++ r) (sym v) ∙ same ∙ behind_first n w.0 w.1 s w.4 in
    absurd (no_frame (at + length m) r w.0 (w.1 ++ s) q.1 d w.2 here x)
frames_first at m n r s (p ∷ ps) (q ∷ qs) d v w same x =
    let o = one_first at p.1 q.1 v.0 w.0 (v.1 ++ r) (w.1 ++ s) v.2 w.2 (sym (behind_first m v.0 v.1 r v.4) ∙ same ∙ behind_first n w.0 w.1 s w.4) in
    let mine : at + length m ≡ (at + length v.0) + length v.1 = omega (arith, ap length v.4, length-append v.0 v.1) in
    let others = subst (λ (k : ℕ). Frames (at + k) w.1 qs) (sym o.len) w.5 in
    let ih = frames_first (at + length v.0) v.1 w.1 r s ps qs d v.5 others o.rest (subst (λ (k : ℕ). frame_at k r ≡ ending d) mine x) in
    let firsts : p ≡ q = placed_is p q at v.3 w.3 o.frame in
    (ih.0, ap (λ (z : ℕ × Frame). z ∷ ps) firsts ∙ ap (λ (zs : List (ℕ × Frame)). q ∷ zs) ih.1)

-- one frame more
pub frames_push : (at : ℕ) (m first : List ℕ) (ps : List (ℕ × Frame)) (p : ℕ × Frame) → Frames at m ps → IsSpelling first p.1 → p.0 ≡ at + length m → Frames at (m ++ first) (ps ++ p ∷ [])
frames_push at m first [] p v s place =
    let here : p.0 ≡ at = omega (arith, place, ap length v) in
    (first, [], s, here, ap (λ (ys : List ℕ). ys ++ first) v ∙ sym (append-nil first), refl)
frames_push at m first (q ∷ qs) p v s place =
    let far : p.0 ≡ (at + length v.0) + length v.1 = omega (arith, place, ap length v.4, length-append v.0 v.1) in
    (v.0, v.1 ++ first, v.2, v.3, behind_first m v.0 v.1 first v.4, frames_push (at + length v.0) v.1 first qs p v.5 s far)

-- ---- the preface

pub cut_front : (front x y : List ℕ) → front ++ x ≡ front ++ y → x ≡ y
cut_front front x y e = sym (drop_at front x (length front) refl) ∙ ap (drop (length front)) e ∙ drop_at front y (length front) refl

abbrev pub preface_true : Result Bool FrameFault
preface_true = Ok true

pub true_false : true ≡ false → ⊥
true_false e = cc

pub not_whole : (end : Option FrameFault) → preface_true ≡ preface_ending end → ⊥
not_whole None e = absurd (true_false cc)
not_whole (Some d) e = cc

-- bytes that begin with the whole preface are no rest of it
pub not_both : (text more : List ℕ) (end : Option FrameFault) → text ≡ preface ++ more → IsPrefaceRest text end → ⊥
not_both text more end parts x = not_whole end (sym (ap (preface_at 0) parts ∙ preface_whole more) ∙ preface_rest_again text end x)

pub preface_ending_is : (d e : Option FrameFault) → preface_ending d ≡ preface_ending e → d ≡ e
preface_ending_is None None h = refl
preface_ending_is None (Some e) h = absurd cc
preface_ending_is (Some d) None h = absurd cc
preface_ending_is (Some d) (Some e) h = cc

pub same_frames : (due : Bool) (text : List ℕ) (ps qs : List (ℕ × Frame)) (d e : Option FrameFault) (m n : Option ℕ) → HasFrames due text ps d m → HasFrames due text qs e n → (ps ≡ qs) × (d ≡ e) × (m ≡ n)
same_frames due text ps qs d e m n x y =
    let at : ℕ = length (front_of due) in
    let s = frames_one at x.middle y.middle x.rest y.rest ps qs d e x.frames y.frames (cut_front (front_of due) _ _ (sym x.whole ∙ y.whole)) (rest_again (at + length x.middle) x.rest d x.rest_is) (rest_again (at + length y.middle) y.rest e y.rest_is) in
    let places : place_of (at + length x.middle) x.rest ≡ place_of (at + length y.middle) y.rest = ap (λ (k : ℕ). place_of k x.rest) s.at ∙ ap (place_of (at + length y.middle)) s.rest in
    (s.frames, s.end, x.place_is ∙ places ∙ sym y.place_is)

-- the bytes of a connection have one reading
pub one_stream : (due : Bool) (text : List ℕ) (ps qs : List (ℕ × Frame)) (d e : Option FrameFault) (m n : Option ℕ) → IsStream due text ps d m → IsStream due text qs e n → (ps ≡ qs) × (d ≡ e) × (m ≡ n)
one_stream due text ps qs d e m n (inl x) (inl y) = same_frames due text ps qs d e m n x y
one_stream true text ps qs d e m n (inl x) (inr y) = absurd (not_both text (x.middle ++ x.rest) e x.whole y.2)
one_stream false text ps qs d e m n (inl x) (inr y) = absurd (true_false (sym y.0))
one_stream true text ps qs d e m n (inr x) (inl y) = absurd (not_both text (y.middle ++ y.rest) d y.whole x.2)
one_stream false text ps qs d e m n (inr x) (inl y) = absurd (true_false (sym x.0))
one_stream due text ps qs d e m n (inr x) (inr y) =
    (x.1 ∙ sym y.1, preface_ending_is d e (sym (preface_rest_again text d x.2) ∙ preface_rest_again text e y.2), x.3 ∙ sym y.3)

-- what was given so far are the first of all frames
pub first_stream : (due : Bool) (text : List ℕ) (ps qs : List (ℕ × Frame)) (r : Pending) (e : Option FrameFault) (n : Option ℕ) → HasGiven due text ps r → IsStream due text qs e n → (more : List (ℕ × Frame)) × (qs ≡ ps ++ more)
first_stream due text ps qs r e n (inl x) (inl y) =
    let at : ℕ = length (front_of due) in
    frames_first at y.middle x.middle y.rest r.rest qs ps e y.frames x.frames (cut_front (front_of due) _ _ (sym y.whole ∙ x.whole)) (rest_again (at + length y.middle) y.rest e y.rest_is)
first_stream true text ps qs r e n (inl x) (inr y) = absurd (not_both text (x.middle ++ r.rest) e x.whole y.2)
first_stream false text ps qs r e n (inl x) (inr y) = absurd (true_false (sym y.0))
first_stream due text ps qs r e n (inr x) y = (qs, ap (λ (zs : List (ℕ × Frame)). zs ++ qs) (sym x.none))

-- what was read, with or without a frame
pub case_of : (r : Result (Option (Frame × ℕ)) FrameFault) → ((end : Option FrameFault) × (r ≡ ending end)) ⊎ ((x : Frame × ℕ) × (r ≡ read_of x))
case_of (Ok None) = inl (None, refl)
case_of (Ok (Some x)) = inr (x, refl)
case_of (Err e) = inl (Some e, refl)

-- what comparing with the preface gave
pub case_preface : (r : Result Bool FrameFault) → ((end : Option FrameFault) × (r ≡ preface_ending end)) ⊎ (r ≡ preface_true)
case_preface (Ok true) = inr refl
case_preface (Ok false) = inl (None, refl)
case_preface (Err e) = inl (Some e, refl)

-- what all frames of some bytes are, and what they end in
pub record HasReading (at : ℕ) (text : List ℕ) : Type 0 where
  pub frames : List (ℕ × Frame)
  pub end : Option FrameFault
  pub middle : List ℕ
  pub rest : List ℕ
  pub whole : text ≡ middle ++ rest
  pub are : Frames at middle frames
  pub rest_is : IsRest (at + length middle) rest end

pub no_more : (at : ℕ) (text : List ℕ) (end : Option FrameFault) → IsRest at text end → HasReading at text
no_more at text end x =
    let here : at ≡ at + 0 = omega arith in
    record { frames = []; end = end; middle = []; rest = text; whole = refl; are = refl; rest_is = subst (λ (k : ℕ). IsRest k text end) here x }

pub one_more : (at : ℕ) (text first behind_it : List ℕ) (f : Frame) → IsSpelling first f → text ≡ first ++ behind_it → HasReading (at + length first) behind_it → HasReading at text
one_more at text first behind_it f s parts x =
    let far : (at + length first) + length x.middle ≡ at + length (first ++ x.middle) = omega (arith, length-append first x.middle) in
    record {
      frames = (at, f) ∷ x.frames;
      end = x.end;
      middle = first ++ x.middle;
      rest = x.rest;
      whole = parts ∙ ap (λ (ys : List ℕ). first ++ ys) x.whole ∙ sym (append_assoc first x.middle x.rest);
      are = (first, x.middle, s, refl, refl, x.are);
      rest_is = subst (λ (k : ℕ). IsRest k x.rest x.end) far x.rest_is;
    }

pub reading : (fuel at : ℕ) (text : List ℕ) → length text ≤ fuel → IsBytes text → HasReading at text
reading zero at text few fits = no_more at text None (inl (omega arith))
reading (suc fuel) at text few fits =
    elim (case_of (frame_at at text)) [
      | inl r ↦ no_more at text r.0 (rest_found at text r.0 fits r.1)
      | inr r ↦
          let n : ℕ = r.0.1 in
          let long = frame_long at text r.0.0 n r.1 in
          let parts : text ≡ take n text ++ drop n text = sym (take-append-drop n text) in
          one_more at text (take n text) (drop n text) r.0.0 (frame_found at text r.0.0 n fits r.1) parts
          (reading fuel (at + length (take n text)) (drop n text) (omega (arith, length-drop n text, long.0)) (IsBytes-drop n text fits))
    ]

pub stream_of : (due : Bool) (text behind_it : List ℕ) → text ≡ front_of due ++ behind_it → HasReading (length (front_of due)) behind_it → (ps : List (ℕ × Frame)) × (end : Option FrameFault) × (place : Option ℕ) × IsStream due text ps end place
stream_of due text behind_it parts x =
    (x.frames, x.end, place_of (length (front_of due) + length x.middle) x.rest, inl (record { middle = x.middle; rest = x.rest; whole = parts ∙ ap (λ (ys : List ℕ). front_of due ++ ys) x.whole; frames = x.are; rest_is = x.rest_is; place_is = refl }))

-- all bytes have a reading
pub each_stream : (due : Bool) (text : List ℕ) → IsBytes text → (ps : List (ℕ × Frame)) × (end : Option FrameFault) × (place : Option ℕ) × IsStream due text ps end place
each_stream false text fits = stream_of false text text refl (reading (length text) 0 text (omega arith) fits)
each_stream true text fits =
    elim (case_preface (preface_at 0 text)) [
      | inl p ↦ ([], p.0, place_of 0 text, inr (refl, refl, preface_rest_found text p.0 p.1, refl))
      | inr p ↦ stream_of true text (drop 24 text) (preface_found text p) (reading (length (drop 24 text)) (length preface) (drop 24 text) (omega arith) (IsBytes-drop 24 text fits))
    ]
