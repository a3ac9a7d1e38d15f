-- Whether one blob is there, by an entry.
use Rattle.std.specs.Prelude.{◌≡◌, ◌⊎◌, ◌==◌, Bool, List, [], ◌∷◌, length}
use Rattle.digest_types.specs.Name.{HashAndSize}
use Rattle.casd_base.specs.declared.status.Status.{Status}
use Rattle.cas_calls.specs.Statuses.{out_of_memory, not_here}
use Rattle.store_core.specs.declared.event.Event.TheVariants as events
use Rattle.store_core.specs.declared.event.Reply.TheVariants as replies
use Rattle.blob_store.specs.View.{View, Makes}

-- a Find of this digest alone was made, and the blob is there where it lists nothing
pub record FindsOne (d : HashAndSize) (here : Bool) (v w : View) : Type 0 where
  pub missing : List HashAndSize
  pub makes : Makes v w (events.Find (d ∷ [])) (replies.Missing missing)
  pub here_is : here ≡ (length missing == 0)

-- the status of a digest without a sound blob, or of want of memory for its text
abbrev pub IsAbsent : HashAndSize → Status → Type 0
IsAbsent d status = (status ≡ not_here d) ⊎ (status ≡ out_of_memory)
