-- Words and their names.
use Rattle.std.proofs.Common.{◌≡◌, ℕ, Bool, true, false, cond, eqb, not, List, [], ◌∷◌, Option, Some, refl, sym, arith}
use Rattle.std.specs.List.{find, list_all}
use Rattle.std.specs.Cmp.Lexicographic.{pointwise, same_text}
use Rattle.std.proofs.lemmas.Bool.{and_parts}
use Rattle.casd_server.specs.declared.word.Word.{Word}
use Rattle.casd_server.specs.declared.word.Word.TheVariants as words
use Rattle.casd_server.specs.Word.{name_of, word_of, all_words}
use Rattle.casd_server.specs.Cut.{NoByte}

found_by : (t : Bool) (p : Word → Bool) (v w : Word) (o : Option Word) → p v ≡ t → cond t (Some v) o ≡ Some w → (o ≡ Some w → p w ≡ true) → p w ≡ true
found_by true p v w o is e later =
    let same : v ≡ w = cc in
    rw (← same) is
found_by false p v w o is e later = later e

-- what is found passes the test
find-passes : (p : Word → Bool) (ws : List Word) (w : Word) → find p ws ≡ Some w → p w ≡ true
find-passes p [] w e = absurd cc
find-passes p (v ∷ vs) w e = found_by (p v) p v w (find p vs) refl e (find-passes p vs w)

-- what is read as a word is its name
pub word_of-found : (text : List ℕ) (w : Word) → word_of text ≡ Some w → name_of w ≡ text
unfolding word_of
word_of-found text w e = same_text (name_of w) text (sym (find-passes (λ v. pointwise eqb (name_of v) text) all_words w e))

-- the name of a word is read as that word
pub word_of-again : (w : Word) → word_of (name_of w) ≡ Some w
unfolding word_of
word_of-again words.FindMissingBlobs = refl
word_of-again words.BatchUpdateBlobs = refl
word_of-again words.BatchReadBlobs = refl
word_of-again words.GetTree = refl
word_of-again words.GetCapabilities = refl
word_of-again words.Read = refl
word_of-again words.Write = refl
word_of-again words.QueryWriteStatus = refl
word_of-again words.FetchMissingBlobs = refl
word_of-again words.UploadMissingBlobs = refl
word_of-again words.FetchTree = refl
word_of-again words.UploadTree = refl
word_of-again words.StageTree = refl
word_of-again words.CaptureTree = refl
word_of-again words.CaptureFiles = refl
word_of-again words.EndStage = refl
word_of-again words.Close = refl
word_of-again words.Pass = refl
word_of-again words.Usage = refl

-- whether no element is the byte
abbrev lacks : ℕ → List ℕ → Bool
lacks c xs = list_all (λ b. not (eqb b c)) xs

ne_from_test : (b c : ℕ) → not (eqb b c) ≡ true → b ≡ c → ⊥
ne_from_test b c h e = absurd (grind (arith))

pub NoByte-from_test : (c : ℕ) (xs : List ℕ) → list_all (λ b. not (eqb b c)) xs ≡ true → NoByte c xs
NoByte-from_test c [] h = tt
NoByte-from_test c (b ∷ bs) h =
    let parts = and_parts (not (eqb b c)) (lacks c bs) h in
    (ne_from_test b c parts.0, NoByte-from_test c bs parts.1)

lacks-space : (w : Word) → lacks 32 (name_of w) ≡ true
lacks-space words.FindMissingBlobs = refl
lacks-space words.BatchUpdateBlobs = refl
lacks-space words.BatchReadBlobs = refl
lacks-space words.GetTree = refl
lacks-space words.GetCapabilities = refl
lacks-space words.Read = refl
lacks-space words.Write = refl
lacks-space words.QueryWriteStatus = refl
lacks-space words.FetchMissingBlobs = refl
lacks-space words.UploadMissingBlobs = refl
lacks-space words.FetchTree = refl
lacks-space words.UploadTree = refl
lacks-space words.StageTree = refl
lacks-space words.CaptureTree = refl
lacks-space words.CaptureFiles = refl
lacks-space words.EndStage = refl
lacks-space words.Close = refl
lacks-space words.Pass = refl
lacks-space words.Usage = refl

-- no name has a space
pub NoByte-name_of : (w : Word) → NoByte 32 (name_of w)
NoByte-name_of w = NoByte-from_test 32 (name_of w) (lacks-space w)
