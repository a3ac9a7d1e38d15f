-- The words of records.
use Rattle.std.specs.Prelude.{◌==◌, ◌&&◌, not, nat_eq, codes, ℕ, Bool, List, [], ◌∷◌, find, Option}
use Rattle.std.specs.Cmp.Lexicographic.{pointwise}
use Rattle.casd_server.specs.declared.word.Word.{Word}
use Rattle.casd_server.specs.declared.word.Word.TheVariants as words

-- how a word is written
abbrev pub name_of : Word → List ℕ
name_of words.FindMissingBlobs = codes "FindMissingBlobs"
name_of words.BatchUpdateBlobs = codes "BatchUpdateBlobs"
name_of words.BatchReadBlobs = codes "BatchReadBlobs"
name_of words.GetTree = codes "GetTree"
name_of words.GetCapabilities = codes "GetCapabilities"
name_of words.Read = codes "Read"
name_of words.Write = codes "Write"
name_of words.QueryWriteStatus = codes "QueryWriteStatus"
name_of words.FetchMissingBlobs = codes "FetchMissingBlobs"
name_of words.UploadMissingBlobs = codes "UploadMissingBlobs"
name_of words.FetchTree = codes "FetchTree"
name_of words.UploadTree = codes "UploadTree"
name_of words.StageTree = codes "StageTree"
name_of words.CaptureTree = codes "CaptureTree"
name_of words.CaptureFiles = codes "CaptureFiles"
name_of words.EndStage = codes "EndStage"
name_of words.Close = codes "Close"
name_of words.Pass = codes "Pass"
name_of words.Usage = codes "Usage"

-- all words
abbrev pub all_words : List Word
all_words =
    words.FindMissingBlobs ∷ words.BatchUpdateBlobs ∷ words.BatchReadBlobs ∷ words.GetTree ∷ words.GetCapabilities
    ∷ words.Read ∷ words.Write ∷ words.QueryWriteStatus ∷ words.FetchMissingBlobs ∷ words.UploadMissingBlobs
    ∷ words.FetchTree ∷ words.UploadTree ∷ words.StageTree ∷ words.CaptureTree ∷ words.CaptureFiles
    ∷ words.EndStage ∷ words.Close ∷ words.Pass ∷ words.Usage ∷ []

-- the word that is written so
unfoldable pub word_of : List ℕ → Option Word
word_of text = find (λ w. pointwise nat_eq (name_of w) text) all_words

-- Whether a record of this seat may have this word with so many messages: seat 0 has Pass and Usage alone, which no
-- other seat has; these two, EndStage and Close have no message, StageTree has one, and the others have any number.
unfoldable pub takes : ℕ → Word → ℕ → Bool
takes seat words.Pass messages = seat == 0 && messages == 0
takes seat words.Usage messages = seat == 0 && messages == 0
takes seat words.EndStage messages = not (seat == 0) && messages == 0
takes seat words.Close messages = not (seat == 0) && messages == 0
takes seat words.StageTree messages = not (seat == 0) && messages == 1
takes seat _ messages = not (seat == 0)
