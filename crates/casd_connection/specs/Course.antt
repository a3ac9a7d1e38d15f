-- A lawful exchange from one place to another.
use Rattle.std.specs.Prelude.{◌≡◌, List, [], ◌∷◌}
use Rattle.h2_frames.specs.declared.frame.Frame.{Frame}
use Rattle.cas_calls.specs.Script.{Step}
use Rattle.casd_connection.specs.Exchange.{Item, Read, Tells, Hands, Wakes, Does, Says, Wrote, Ends, Conn, next, May}

-- each item is lawful after those before it, and they lead from one to the other
abbrev pub Goes : Conn → List Item → Conn → Type 0
Goes c [] d = c ≡ d
Goes c (i ∷ is) d = May c i × Goes (next c i) is d

-- the frames that were read, the steps that calls took, and the frames that were written, each in order
abbrev pub reads : List Item → List Frame
reads [] = []
reads (Read f ∷ is) = f ∷ reads is
reads (Tells ∷ is) = reads is
reads (Hands ∷ is) = reads is
reads (Wakes i ∷ is) = reads is
reads (Does x ∷ is) = reads is
reads (Says ∷ is) = reads is
reads (Wrote f ∷ is) = reads is
reads (Ends end ∷ is) = reads is

abbrev pub steps : List Item → List Step
steps [] = []
steps (Read f ∷ is) = steps is
steps (Tells ∷ is) = steps is
steps (Hands ∷ is) = steps is
steps (Wakes i ∷ is) = steps is
steps (Does x ∷ is) = x ∷ steps is
steps (Says ∷ is) = steps is
steps (Wrote f ∷ is) = steps is
steps (Ends end ∷ is) = steps is

abbrev pub writes : List Item → List Frame
writes [] = []
writes (Read f ∷ is) = writes is
writes (Tells ∷ is) = writes is
writes (Hands ∷ is) = writes is
writes (Wakes i ∷ is) = writes is
writes (Does x ∷ is) = writes is
writes (Says ∷ is) = writes is
writes (Wrote f ∷ is) = f ∷ writes is
writes (Ends end ∷ is) = writes is

-- there is a lawful exchange from one to the other that reads, does and writes just these
pub record Course (c d : Conn) (frames : List Frame) (xs : List Step) (fs : List Frame) : Type 0 where
  pub items : List Item
  pub goes : Goes c items d
  pub reads : reads items ≡ frames
  pub steps : steps items ≡ xs
  pub writes : writes items ≡ fs
