-- A replay between two lines, and how it ends.
use Rattle.std.proofs.Common.{◌≡◌, ℕ, ◌+◌, ◌^◌, ◌<◌, ◌≤◌, true, ltb, List, [], ◌∷◌, ◌++◌, length, Option, Some, None, refl, sym, ap, ◌∙◌, append_assoc, arith, inl, inr}
use Rattle.std.proofs.lemmas.List.{append-nil, length-append}
use Rattle.std.proofs.lemmas.Bool.{lt-ltb}
use Rattle.casd_base.specs.Streams.{Takes, Adds, IsEnded}
use Rattle.casd_server.specs.Cut.{lines_of, NoByte}
use Rattle.casd_server.specs.Record.{Asked, record_of, max_line}
use Rattle.casd_server.specs.Answer.{Seated, new_seated}
use Rattle.casd_server.specs.Run.{Outcome, outcome, line_result, then_run, malformed_text}
use Rattle.casd_server.specs.Pending.{Pending}
use Rattle.casd_server.specs.Input.{ReadsMore, LosesSome}
use Rattle.casd_server.specs.declared.records.End.TheVariants as ends
use Rattle.casd_server.specs.Replay.{outcome_of, default_low, default_high, IsPart, Replays}
use Rattle.casd_server.specs.Going.{Going, behind}
use Rattle.casd_server.proofs.CutLemmas.{lines_of-cut, lines_of-last, lines_of-long}
use Rattle.casd_server.proofs.Streams.{Takes-none, Takes-then, Adds-none, Adds-then}

-- the outcome of a first line and the others
pub outcome-cons : (s : Seated) (k : ℕ) (line : List ℕ) (lines : List (List ℕ)) → outcome s k (line ∷ lines) ≡ then_run (line_result s k (record_of line)) (λ next. outcome next (k + 1) lines)
unfolding outcome
outcome-cons s k line lines = refl

pub outcome-nil : (s : Seated) (k : ℕ) → outcome s k [] ≡ record { text = []; status = 0 }
unfolding outcome
outcome-nil s k = refl

-- what a first line writes stands in front
then_run-text : (r : List ℕ × Option Seated) (next : Seated → Outcome) → (more : List ℕ) × ((then_run r next).text ≡ r.0 ++ more)
then_run-text (text, None) next = ([], sym (append-nil text))
then_run-text (text, Some s) next = ((next s).text, refl)

-- a line above the limit is no record
pub record_of-long : (line : List ℕ) → max_line < length line → record_of line ≡ None
unfolding record_of
record_of-long line long = let test : ltb max_line (length line) ≡ true = lt-ltb _ _ long in rw test refl

lines_of-nil : lines_of [] ≡ []
unfolding lines_of
lines_of-nil = refl

-- nothing was read or written yet
pub Going-start : (left written : Option (List ℕ)) → Going left left written written (record { bytes = []; read = 0 }) (new_seated default_low default_high) 1
Going-start left written = record {
  input = [];
  output = [];
  takes = Takes-none left;
  adds = Adds-none written;
  rest = λ more. refl;
  read = refl;
  bounded = omega arith;
  lines = omega arith;
}

-- more was read
pub Going-reads : (left a b written w : Option (List ℕ)) (p p' : Pending) (s : Seated) (k : ℕ) → Going left a written w p s k → ReadsMore a b p p' → p'.read ≤ 2 ^ 50 → Going left b written w p' s k
Going-reads left a b written w p p' s k g r few = record {
  input = g.input ++ r.more;
  output = g.output;
  takes = Takes-then left a b g.input r.more g.takes r.takes;
  adds = g.adds;
  rest = λ more. ap outcome_of (append_assoc g.input r.more more) ∙ g.rest (r.more ++ more)
      ∙ ap (λ (bytes : List ℕ). behind g.output (outcome s k (lines_of bytes))) (sym (append_assoc p.bytes r.more more) ∙ ap (λ (bytes : List ℕ). bytes ++ more) (sym r.bytes));
  read = omega (arith, length-append g.input r.more, g.read, r.read);
  bounded = few;
  lines = omega (arith, length-append p.bytes r.more, ap (λ (l : List ℕ). length l) r.bytes, g.lines, r.read);
}

-- the outcome where a line and its newline stand at the front
outcome-line : (s : Seated) (k : ℕ) (line rest more bytes : List ℕ) (r : List ℕ × Option Seated) → bytes ≡ line ++ (10 ∷ rest) → NoByte 10 line → line_result s k (record_of line) ≡ r
    → outcome s k (lines_of (bytes ++ more)) ≡ then_run r (λ next. outcome next (k + 1) (lines_of (rest ++ more)))
outcome-line s k line rest more bytes r is clear result =
    let cut : lines_of (bytes ++ more) ≡ line ∷ lines_of (rest ++ more) =
    ap (λ (b : List ℕ). lines_of (b ++ more)) is ∙ ap lines_of (append_assoc line (10 ∷ rest) more) ∙ lines_of-cut line (rest ++ more) clear in
    ap (λ (l : List (List ℕ)). outcome s k l) cut ∙ outcome-cons s k line (lines_of (rest ++ more))
    ∙ ap (λ (x : List ℕ × Option Seated). then_run x (λ next. outcome next (k + 1) (lines_of (rest ++ more)))) result

-- a line was answered
pub Going-line : (left l written w w' : Option (List ℕ)) (p : Pending) (s s' : Seated) (k : ℕ) (line rest text : List ℕ) → Going left l written w p s k
    → p.bytes ≡ line ++ (10 ∷ rest) → NoByte 10 line → line_result s k (record_of line) ≡ (text, Some s') → Adds w w' text
    → Going left l written w' (record { bytes = rest; read = p.read }) s' (k + 1)
Going-line left l written w w' p s s' k line rest text g is clear result added = record {
  input = g.input;
  output = g.output ++ text;
  takes = g.takes;
  adds = Adds-then written w w' g.output text g.adds added;
  rest = λ more. g.rest more ∙ ap (behind g.output) (outcome-line s k line rest more p.bytes (text, Some s') is clear result)
      ∙ ap (λ (t : List ℕ). record { text = t; status = (outcome s' (k + 1) (lines_of (rest ++ more))).status }) (sym (append_assoc g.output text (outcome s' (k + 1) (lines_of (rest ++ more))).text));
  read = g.read;
  bounded = g.bounded;
  lines = omega (arith, ap (λ (b : List ℕ). length b) is, length-append line (10 ∷ rest), g.lines);
}

-- the outcome of all that was read
outcome-now : (left l written w : Option (List ℕ)) (p : Pending) (s : Seated) (k : ℕ) (g : Going left l written w p s k) → outcome_of g.input ≡ behind g.output (outcome s k (lines_of p.bytes))
outcome-now left l written w p s k g =
    ap outcome_of (sym (append-nil g.input)) ∙ g.rest [] ∙ ap (λ (b : List ℕ). behind g.output (outcome s k (lines_of b))) (append-nil p.bytes)

-- the input ends behind a newline, or is empty
pub ends-empty : (left l written w : Option (List ℕ)) (p : Pending) (s : Seated) (k : ℕ) → Going left l written w p s k → p.bytes ≡ [] → IsEnded l → Replays left l written w ends.Done
ends-empty left l written w p s k g is ended = record {
  input = g.input;
  output = g.output;
  takes = g.takes;
  adds = g.adds;
  bounded = omega (arith, g.read, g.bounded);
  answers = (
    outcome-now left l written w p s k g ∙ ap (λ (b : List ℕ). behind g.output (outcome s k (lines_of b))) is
        ∙ ap (λ (x : List (List ℕ)). behind g.output (outcome s k x)) lines_of-nil ∙ ap (behind g.output) (outcome-nil s k)
        ∙ ap (λ (t : List ℕ). record { text = t; status = 0 }) (append-nil g.output),
    ended,
  );
}

-- the outcome where a last line without a newline is pending
outcome-last : (s : Seated) (k : ℕ) (bytes : List ℕ) (r : List ℕ × Option Seated) → (bytes ≡ [] → ⊥) → NoByte 10 bytes → line_result s k (record_of bytes) ≡ r
    → outcome s k (lines_of bytes) ≡ then_run r (λ next. outcome next (k + 1) [])
outcome-last s k [] r some clear result = absurd (some refl)
outcome-last s k (b ∷ bs) r some clear result =
    ap (λ (l : List (List ℕ)). outcome s k l) (lines_of-last b bs clear) ∙ outcome-cons s k (b ∷ bs) [] ∙ ap (λ (x : List ℕ × Option Seated). then_run x (λ next. outcome next (k + 1) [])) result

-- the last line was answered
pub ends-last : (left l written w w' : Option (List ℕ)) (p : Pending) (s s' : Seated) (k : ℕ) (text : List ℕ) → Going left l written w p s k → (p.bytes ≡ [] → ⊥) → NoByte 10 p.bytes
    → line_result s k (record_of p.bytes) ≡ (text, Some s') → Adds w w' text → IsEnded l → Replays left l written w' ends.Done
ends-last left l written w w' p s s' k text g some clear result added ended = record {
  input = g.input;
  output = g.output ++ text;
  takes = g.takes;
  adds = Adds-then written w w' g.output text g.adds added;
  bounded = omega (arith, g.read, g.bounded);
  answers = (
    outcome-now left l written w p s k g ∙ ap (behind g.output) (outcome-last s k p.bytes (text, Some s') some clear result ∙ ap (λ (o : Outcome). record { text = text ++ o.text; status = o.status }) (outcome-nil s' (k + 1)))
        ∙ ap (λ (t : List ℕ). record { text = g.output ++ t; status = 0 }) (append-nil text),
    ended,
  );
}

-- the last line was malformed
pub ends-last_malformed : (left l written w w' : Option (List ℕ)) (p : Pending) (s : Seated) (k : ℕ) (text : List ℕ) → Going left l written w p s k → (p.bytes ≡ [] → ⊥) → NoByte 10 p.bytes
    → line_result s k (record_of p.bytes) ≡ (text, None) → Adds w w' text → IsEnded l → Replays left l written w' ends.Malformed
ends-last_malformed left l written w w' p s k text g some clear result added ended = record {
  input = g.input;
  output = g.output ++ text;
  takes = g.takes;
  adds = Adds-then written w w' g.output text g.adds added;
  bounded = omega (arith, g.read, g.bounded);
  answers = (outcome-now left l written w p s k g ∙ ap (behind g.output) (outcome-last s k p.bytes (text, None) some clear result), inr ended);
}

-- a line with its newline was malformed
pub ends-malformed : (left l written w w' : Option (List ℕ)) (p : Pending) (s : Seated) (k : ℕ) (line rest text : List ℕ) → Going left l written w p s k
    → p.bytes ≡ line ++ (10 ∷ rest) → NoByte 10 line → line_result s k (record_of line) ≡ (text, None) → Adds w w' text → Replays left l written w' ends.Malformed
ends-malformed left l written w w' p s k line rest text g is clear result added =
    let all : (more : List ℕ) → outcome_of (g.input ++ more) ≡ record { text = g.output ++ text; status = 3 } =
    λ more. g.rest more ∙ ap (behind g.output) (outcome-line s k line rest more p.bytes (text, None) is clear result) in
    let now : outcome_of g.input ≡ record { text = g.output ++ text; status = 3 } = ap outcome_of (sym (append-nil g.input)) ∙ all [] in
    record {
      input = g.input;
      output = g.output ++ text;
      takes = g.takes;
      adds = Adds-then written w w' g.output text g.adds added;
      bounded = omega (arith, g.read, g.bounded);
      answers = (now, inl (λ more. all more ∙ sym now));
    }

-- the outcome where more bytes than a line has are pending
outcome-long : (s : Seated) (k : ℕ) (front rest more bytes : List ℕ) → bytes ≡ front ++ rest → NoByte 10 front → max_line < length front
    → outcome s k (lines_of (bytes ++ more)) ≡ record { text = malformed_text k; status = 3 }
outcome-long s k front rest more bytes is clear long =
    let cut = lines_of-long front (rest ++ more) max_line clear long in
    ap (λ (b : List ℕ). outcome s k (lines_of (b ++ more))) is ∙ ap (λ (b : List ℕ). outcome s k (lines_of b)) (append_assoc front rest more)
    ∙ ap (λ (l : List (List ℕ)). outcome s k l) cut.1.1 ∙ outcome-cons s k cut.0 cut.1.0
    ∙ ap (λ (o : Option Asked). then_run (line_result s k o) (λ next. outcome next (k + 1) cut.1.0)) (record_of-long cut.0 cut.1.2)

-- a line was too long
pub ends-long : (left l written w w' : Option (List ℕ)) (p : Pending) (s : Seated) (k : ℕ) (front rest : List ℕ) → Going left l written w p s k
    → p.bytes ≡ front ++ rest → NoByte 10 front → max_line < length front → Adds w w' (malformed_text k) → Replays left l written w' ends.Malformed
ends-long left l written w w' p s k front rest g is clear long added =
    let all : (more : List ℕ) → outcome_of (g.input ++ more) ≡ record { text = g.output ++ malformed_text k; status = 3 } =
    λ more. g.rest more ∙ ap (behind g.output) (outcome-long s k front rest more p.bytes is clear long) in
    let now : outcome_of g.input ≡ record { text = g.output ++ malformed_text k; status = 3 } = ap outcome_of (sym (append-nil g.input)) ∙ all [] in
    record {
      input = g.input;
      output = g.output ++ malformed_text k;
      takes = g.takes;
      adds = Adds-then written w w' g.output (malformed_text k) g.adds added;
      bounded = omega (arith, g.read, g.bounded);
      answers = (now, inl (λ more. all more ∙ sym now));
    }

-- the source gave no more: what was written is a part
pub cut_off : (left a b written w : Option (List ℕ)) (p p' : Pending) (s : Seated) (k : ℕ) (g : Going left a written w p s k) (r : LosesSome a b p p')
    → Takes left b (g.input ++ (r.kept ++ r.lost)) × IsPart (g.input ++ (r.kept ++ r.lost)) g.output × (length (g.input ++ (r.kept ++ r.lost)) ≤ 2 ^ 50)
cut_off left a b written w p p' s k g r = (
  Takes-then left a b g.input (r.kept ++ r.lost) g.takes r.takes,
  ((outcome s k (lines_of (p.bytes ++ (r.kept ++ r.lost)))).text, ap (λ (o : Outcome). o.text) (g.rest (r.kept ++ r.lost))),
  omega (arith, length-append g.input (r.kept ++ r.lost), length-append r.kept r.lost, g.read, r.read, r.few),
)

-- the sink took a part of what a line writes
pub part-line : (left l written w : Option (List ℕ)) (p : Pending) (s : Seated) (k : ℕ) (line text part rest : List ℕ) (lines : List (List ℕ)) (g : Going left l written w p s k)
    → lines_of p.bytes ≡ line ∷ lines → (line_result s k (record_of line)).0 ≡ text → text ≡ part ++ rest → IsPart g.input (g.output ++ part)
part-line left l written w p s k line text part rest lines g cut writes is =
    let first = then_run-text (line_result s k (record_of line)) (λ next. outcome next (k + 1) lines) in
    let whole : (outcome s k (lines_of p.bytes)).text ≡ part ++ (rest ++ first.0) =
    ap (λ (x : List (List ℕ)). (outcome s k x).text) cut ∙ ap (λ (o : Outcome). o.text) (outcome-cons s k line lines) ∙ first.1
    ∙ ap (λ (t : List ℕ). t ++ first.0) (writes ∙ is) ∙ append_assoc part rest first.0 in (
      rest ++ first.0,
      ap (λ (o : Outcome). o.text) (outcome-now left l written w p s k g) ∙ ap (λ (t : List ℕ). g.output ++ t) whole ∙ sym (append_assoc g.output part (rest ++ first.0)),
    )
