-- One line of a replay, from what is pending.
use Rattle.std.proofs.Common.{◌≡◌, ℕ, ◌+◌, ◌≤◌, Bool, true, false, cond, List, [], ◌∷◌, ◌++◌, length, take, drop, eqb, Option, Some, None, Result, Err, refl, sym, ap, subst, ◌∙◌, append_assoc, arith, inl, inr, ◌⊎◌}
use Rattle.std.proofs.lemmas.Bool.{eqb-true, eqb-false}
use Rattle.std.proofs.lemmas.List.{append-nil, length-append, take_at, drop_at, nil_from_length}
use Rattle.std.specs.Prelude.{MatchOption}
use Rattle.casd_base.specs.Streams.{Takes, Adds}
use Rattle.casd_server.specs.Cut.{lines_of, NoByte}
use Rattle.casd_server.specs.Record.{Asked, record_of, max_line}
use Rattle.casd_server.specs.Answer.{Seated}
use Rattle.casd_server.specs.Run.{line_result, malformed_text}
use Rattle.casd_server.specs.Pending.{Pending}
use Rattle.casd_server.specs.Input.{LosesSome, IsSpent, Begins}
use Rattle.casd_server.specs.Output.{AddsPart}
use Rattle.casd_server.specs.declared.input.Found.{Found}
use Rattle.casd_server.specs.declared.input.Found.TheVariants as found
use Rattle.casd_server.specs.declared.input.Stop.{Stop}
use Rattle.casd_server.specs.declared.input.Stop.TheVariants as stops
use Rattle.casd_server.specs.declared.records.End.{End}
use Rattle.casd_server.specs.declared.records.End.TheVariants as ends
use Rattle.casd_server.specs.Ends.{end_of_stop}
use Rattle.casd_server.specs.Replay.{outcome_of, Answers, Replays}
use Rattle.casd_server.specs.Going.{Going}
use Rattle.casd_server.proofs.CutLemmas.{lines_of-cut, lines_of-last, lines_of-long}
use Rattle.casd_server.proofs.Streams.{Takes-none, Adds-none, Adds-then}
use Rattle.casd_server.proofs.Running.{Going-reads, Going-line, ends-empty, ends-last, ends-last_malformed, ends-malformed, ends-long, cut_off, part-line, record_of-long}

-- the source gave no more
pub ends-stop : (left a b written w : Option (List ℕ)) (p p' : Pending) (s : Seated) (k : ℕ) (e : Stop) → Going left a written w p s k → LosesSome a b p p'
    → (e ≡ stops.Spent → IsSpent a b p p') → Replays left b written w (end_of_stop e)
ends-stop left a b written w p p' s k stops.ReadFault g r full =
    let cut = cut_off left a b written w p p' s k g r in
    record { input = g.input ++ (r.kept ++ r.lost); output = g.output; bounded = cut.2; takes = cut.0; adds = g.adds; answers = cut.1 }
ends-stop left a b written w p p' s k stops.OutOfMemory g r full =
    let cut = cut_off left a b written w p p' s k g r in
    record { input = g.input ++ (r.kept ++ r.lost); output = g.output; bounded = cut.2; takes = cut.0; adds = g.adds; answers = cut.1 }
ends-stop left a b written w p p' s k stops.Spent g r full =
    let spent = full refl in
    let now : Going left b written w p' s k = Going-reads left a b written w p p' s k g spent.reads (omega (arith, spent.full)) in
    let none : LosesSome b b p' p' = record { kept = []; lost = []; takes = takes-none b; bytes = sym (append-nil p'.bytes); read = omega arith; few = omega (arith, spent.full) } in
    let cut = cut_off left b b written w p' p' s k now none in
    record {
      input = now.input ++ ([] ++ []);
      output = now.output;
      bounded = cut.2;
      takes = cut.0;
      adds = now.adds;
      answers = (cut.1, omega (arith, length-append now.input ([] ++ []), now.read, spent.full));
    }
  where
    takes-none : (b : Option (List ℕ)) → Takes b b []
    takes-none None = tt
    takes-none (Some old) = (old, refl, refl)

-- a refusal of the input, whatever it would have found
abbrev pub fails : Stop → Result Found Stop
fails e = Err e

pub fails-of : {P : Type 0} (e d : Stop) → (fails e ≡ fails d → P) → e ≡ d → P
fails-of e d f same = f (ap fails same)

-- what a test of emptiness says
pub nil-of : (xs : List ℕ) → eqb (length xs) 0 ≡ true → xs ≡ []
nil-of xs e = nil_from_length xs (eqb-true _ _ e)

pub filled-of : (xs : List ℕ) → eqb (length xs) 0 ≡ false → xs ≡ [] → ⊥
filled-of xs e same = eqb-false _ _ e (ap (λ (ys : List ℕ). length ys) same)

-- the sink took a part of what a line writes
pub ends-part : (left l written w w' : Option (List ℕ)) (p : Pending) (s : Seated) (k : ℕ) (line text : List ℕ) (lines : List (List ℕ)) (e : End) → Going left l written w p s k
    → lines_of p.bytes ≡ line ∷ lines → (line_result s k (record_of line)).0 ≡ text → AddsPart w w' text → (e ≡ ends.WriteFault) ⊎ (e ≡ ends.OutOfMemory) → Replays left l written w' e
ends-part left l written w w' p s k line text lines e g cut writes part which =
    let is = part-line left l written w p s k line text part.part part.rest lines g cut writes part.whole in
    let made : (end : End) → Answers end g.input (g.output ++ part.part) l → Replays left l written w' end =
    λ end answers. record { input = g.input; output = g.output ++ part.part; bounded = omega (arith, g.read, g.bounded); takes = g.takes; adds = Adds-then written w w' g.output part.part g.adds part.adds; answers = answers } in
    elim which [
      | inl fault ↦ subst (λ (x : End). Replays left l written w' x) (sym fault) (made ends.WriteFault is)
      | inr memory ↦ subst (λ (x : End). Replays left l written w' x) (sym memory) (made ends.OutOfMemory is)
    ]

-- a line and its newline stand at the front
pub record LineAt (bytes : List ℕ) (len : ℕ) : Type 0 where
  pub line : List ℕ
  pub rest : List ℕ
  pub whole : bytes ≡ line ++ (10 ∷ rest)
  pub clear : NoByte 10 line
  pub len-is : length line ≡ len
  pub front : take len bytes ≡ line
  pub behind : drop (len + 1) bytes ≡ rest
  pub within : len + 1 ≤ length bytes

pub line_at : (bytes : List ℕ) (left : Option (List ℕ)) (len : ℕ) → Begins (found.Line len) bytes left → LineAt bytes len
line_at bytes left len b =
    let line = b.1.0 in
    let rest = b.1.1.0 in
    let whole : bytes ≡ line ++ (10 ∷ rest) = b.1.1.1 in
    let size : length line ≡ len = b.1.1.3 in
    let one : line ++ (10 ∷ rest) ≡ (line ++ (10 ∷ [])) ++ rest = sym (append_assoc line (10 ∷ []) rest) in
    let front-len : length (line ++ (10 ∷ [])) ≡ len + 1 = omega (arith, length-append line (10 ∷ []), size) in
    record {
      line = line;
      rest = rest;
      whole = whole;
      clear = b.1.1.2;
      len-is = size;
      front = ap (λ (xs : List ℕ). take len xs) whole ∙ take_at line (10 ∷ rest) len size;
      behind = ap (λ (xs : List ℕ). drop (len + 1) xs) (whole ∙ one) ∙ drop_at (line ++ (10 ∷ [])) rest (len + 1) front-len;
      within = omega (arith, ap (λ (xs : List ℕ). length xs) whole, length-append line (10 ∷ rest), size);
    }

-- a line at the front was answered
pub step-line : (left l written w w' : Option (List ℕ)) (p : Pending) (s s' : Seated) (k len : ℕ) (going : Bool) → Going left l written w p s k → Begins (found.Line len) p.bytes l
    → Adds w w' (line_result s k (record_of (take len p.bytes))).0 → (line_result s k (record_of (take len p.bytes))).1 ≡ cond going (Some s') None → going ≡ true
    → Going left l written w' (record p { bytes = drop (len + 1) p.bytes }) s' (k + 1)
step-line left l written w w' p s s' k len going g b added kept told =
    let at = line_at p.bytes l len b in
    let text = (line_result s k (record_of (take len p.bytes))).0 in
    let kept-is : (line_result s k (record_of (take len p.bytes))).1 ≡ Some s' = kept ∙ ap (λ (x : Bool). cond x (Some s') None) told in
    let result : line_result s k (record_of at.line) ≡ (text, Some s') =
    ap (λ (xs : List ℕ). line_result s k (record_of xs)) (sym at.front) ∙ ap (λ (o : Option Seated). (text, o)) kept-is in
    subst (λ (xs : List ℕ). Going left l written w' (record { bytes = xs; read = p.read }) s' (k + 1)) (sym at.behind)
    (Going-line left l written w w' p s s' k at.line at.rest text g at.whole at.clear result added)

-- a line at the front was malformed
pub step-malformed : (left l written w w' : Option (List ℕ)) (p : Pending) (s s' : Seated) (k len : ℕ) (going : Bool) → Going left l written w p s k → Begins (found.Line len) p.bytes l
    → Adds w w' (line_result s k (record_of (take len p.bytes))).0 → (line_result s k (record_of (take len p.bytes))).1 ≡ cond going (Some s') None → going ≡ false
    → Replays left l written w' ends.Malformed
step-malformed left l written w w' p s s' k len going g b added kept not_yes =
    let at = line_at p.bytes l len b in
    let text = (line_result s k (record_of (take len p.bytes))).0 in
    let kept-is : (line_result s k (record_of (take len p.bytes))).1 ≡ None = kept ∙ ap (λ (x : Bool). cond x (Some s') None) not_yes in
    let result : line_result s k (record_of at.line) ≡ (text, None) =
    ap (λ (xs : List ℕ). line_result s k (record_of xs)) (sym at.front) ∙ ap (λ (o : Option Seated). (text, o)) kept-is in
    ends-malformed left l written w w' p s k at.line at.rest text g at.whole at.clear result added

-- the sink took a part of the answer to a line at the front
pub step-part : (left l written w w' : Option (List ℕ)) (p : Pending) (s : Seated) (k len : ℕ) (e : End) → Going left l written w p s k → Begins (found.Line len) p.bytes l
    → AddsPart w w' (line_result s k (record_of (take len p.bytes))).0 → (e ≡ ends.WriteFault) ⊎ (e ≡ ends.OutOfMemory) → Replays left l written w' e
step-part left l written w w' p s k len e g b part which =
    let at = line_at p.bytes l len b in
    ends-part left l written w w' p s k at.line (line_result s k (record_of (take len p.bytes))).0 (lines_of at.rest) e g (ap lines_of at.whole ∙ lines_of-cut at.line at.rest at.clear)
    (ap (λ (xs : List ℕ). (line_result s k (record_of xs)).0) (sym at.front)) part which

-- the last line was answered
pub last-line : (left l written w w' : Option (List ℕ)) (p : Pending) (s s' : Seated) (k : ℕ) (going : Bool) → Going left l written w p s k → Begins found.End p.bytes l → (p.bytes ≡ [] → ⊥)
    → Adds w w' (line_result s k (record_of p.bytes)).0 → (line_result s k (record_of p.bytes)).1 ≡ cond going (Some s') None → going ≡ true → Replays left l written w' ends.Done
last-line left l written w w' p s s' k going g b some added kept told =
    let text = (line_result s k (record_of p.bytes)).0 in
    ends-last left l written w w' p s s' k text g some b.0 (ap (λ (o : Option Seated). (text, o)) (kept ∙ ap (λ (x : Bool). cond x (Some s') None) told)) added b.2

-- the last line was malformed
pub last-malformed : (left l written w w' : Option (List ℕ)) (p : Pending) (s s' : Seated) (k : ℕ) (going : Bool) → Going left l written w p s k → Begins found.End p.bytes l → (p.bytes ≡ [] → ⊥)
    → Adds w w' (line_result s k (record_of p.bytes)).0 → (line_result s k (record_of p.bytes)).1 ≡ cond going (Some s') None → going ≡ false → Replays left l written w' ends.Malformed
last-malformed left l written w w' p s s' k going g b some added kept not_yes =
    let text = (line_result s k (record_of p.bytes)).0 in
    ends-last_malformed left l written w w' p s k text g some b.0 (ap (λ (o : Option Seated). (text, o)) (kept ∙ ap (λ (x : Bool). cond x (Some s') None) not_yes)) added b.2

-- the sink took a part of the answer to the last line
pub last-part : (left l written w w' : Option (List ℕ)) (p : Pending) (s : Seated) (k : ℕ) (e : End) → Going left l written w p s k → Begins found.End p.bytes l → (p.bytes ≡ [] → ⊥)
    → AddsPart w w' (line_result s k (record_of p.bytes)).0 → (e ≡ ends.WriteFault) ⊎ (e ≡ ends.OutOfMemory) → Replays left l written w' e
last-part left l written w w' p s k e g b some part which =
    ends-part left l written w w' p s k p.bytes (line_result s k (record_of p.bytes)).0 [] e g (last-is p.bytes some b.0) refl part which
  where
    last-is : (bytes : List ℕ) → (bytes ≡ [] → ⊥) → NoByte 10 bytes → lines_of bytes ≡ bytes ∷ []
    last-is [] filled clear = absurd (filled refl)
    last-is (b ∷ bs) filled clear = lines_of-last b bs clear

-- no line was left
pub no-line : (left l written w : Option (List ℕ)) (p : Pending) (s : Seated) (k : ℕ) → Going left l written w p s k → Begins found.End p.bytes l → p.bytes ≡ [] → Replays left l written w ends.Done
no-line left l written w p s k g b none = ends-empty left l written w p s k g none b.2

-- the line at the front was too long
pub long-line : (left l written w w' : Option (List ℕ)) (p : Pending) (s : Seated) (k : ℕ) → Going left l written w p s k → Begins found.TooLong p.bytes l
    → Adds w w' (malformed_text k) → Replays left l written w' ends.Malformed
long-line left l written w w' p s k g b added = ends-long left l written w w' p s k b.0 b.1.0 g b.1.1 b.1.2 b.1.3 added

-- the sink took a part of what is written for it
pub long-part : (left l written w w' : Option (List ℕ)) (p : Pending) (s : Seated) (k : ℕ) (e : End) → Going left l written w p s k → Begins found.TooLong p.bytes l
    → AddsPart w w' (malformed_text k) → (e ≡ ends.WriteFault) ⊎ (e ≡ ends.OutOfMemory) → Replays left l written w' e
long-part left l written w w' p s k e g b part which =
    let cut = lines_of-long b.0 b.1.0 max_line b.1.2 b.1.3 in
    ends-part left l written w w' p s k cut.0 (malformed_text k) cut.1.0 e g (ap lines_of b.1.1 ∙ cut.1.1)
    (ap (λ (o : Option Asked). (line_result s k o).0) (record_of-long cut.0 cut.1.2)) part which

-- nothing was read or written, and memory ran out
pub nothing : (left written : Option (List ℕ)) (e : End) → e ≡ ends.OutOfMemory → Replays left left written written e
nothing left written e is =
    subst (λ (x : End). Replays left left written written x) (sym is)
    (record { input = []; output = []; bounded = omega arith; takes = Takes-none left; adds = Adds-none written; answers = ((outcome_of []).text, refl) })

-- nothing was read or written, since the words were refused
pub nothing-refused : (left written : Option (List ℕ)) → Replays left left written written ends.Refused
nothing-refused left written = record { input = []; output = []; bounded = omega arith; takes = Takes-none left; adds = Adds-none written; answers = (refl, refl) }

-- what a match on an option says where there is a value
pub at_some : {A : Type 0} (P : Type 0) (Q : A → Type 0) (o : Option A) (x : A) → o ≡ Some x → MatchOption o P Q → Q x
at_some {A = A} P Q o x e m = subst (λ (p : Option A). MatchOption p P Q) e m
