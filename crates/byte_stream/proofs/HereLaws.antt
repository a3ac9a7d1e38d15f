-- One blob that is looked for.
use Rattle.std.proofs.Common.{◌≡◌, ◌==◌, Bool, List, [], ◌∷◌, length, refl, arith}
use Rattle.digest_types.specs.Name.{HashAndSize}
use Rattle.store_core.specs.declared.event.Event.TheVariants as events
use Rattle.store_core.specs.declared.event.Reply.TheVariants as replies
use Rattle.blob_store.specs.View.{View, Makes, Waits}
use Rattle.blob_store.proofs.ViewLaws.{turns_none, turns_more}
use Rattle.cas_calls.specs.Plays.{IsIn}
use Rattle.byte_stream.specs.Here.{FindsOne}

-- nothing was asked of the door
pub waits_in : (v : View) → IsIn v → Waits v v
waits_in v h = turns_more v v 0 1 [] (omega arith) (turns_none v h.seated.number h.is_in h.seated.owner h.seated.is_own)

pub finds_one : (d : HashAndSize) (here : Bool) (v w : View) (missing : List HashAndSize) → here ≡ (length missing == 0) → Makes v w (events.Find (d ∷ [])) (replies.Missing missing) → FindsOne d here v w
finds_one d here v w missing e makes = record { missing = missing; makes = makes; here_is = e }
