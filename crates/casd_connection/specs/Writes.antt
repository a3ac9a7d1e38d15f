-- What a write or a read leaves of a link.
use Rattle.std.specs.Prelude.{◌≡◌, ◌≤◌, ◌<◌, ◌+◌, ℕ, List, ◌++◌, length, Option, Some, None, IfSome}
use Rattle.casd_base.specs.Causes.{Rose}
use Rattle.casd_base.specs.Streams.{Takes, Adds}
use Rattle.casd_base.specs.declared.sink.SinkEnd.{SinkEnd}
use Rattle.casd_base.specs.declared.sink.SinkEnd.TheVariants as sinks
use Rattle.casd_connection.specs.Linked.{Linked, IsUnmet, FoundEnd}

-- just these bytes were read, and nothing was written; where there are some, no end was met
pub record ReadsBytes (a b : Linked) (bytes : List ℕ) : Type 0 where
  pub takes : Takes a.left b.left bytes
  pub written : b.written ≡ a.written
  pub read_count : a.read_faults ≤ b.read_faults
  pub write_count : b.write_faults ≡ a.write_faults
  pub unmet : 0 < length bytes → (c : Linked) → IsUnmet c a → IsUnmet c b

-- the end was met
abbrev pub MeetsEnd : Linked → Linked → Type 0
MeetsEnd a b = (c : Linked) → IsUnmet c a → FoundEnd c b

-- a read failed
pub record FailsToRead (a b : Linked) : Type 0 where
  pub left : b.left ≡ a.left
  pub written : b.written ≡ a.written
  pub rose : Rose a.read_faults b.read_faults
  pub read_count : a.read_faults ≤ b.read_faults
  pub write_count : b.write_faults ≡ a.write_faults

-- just these bytes were written, and nothing was read
pub record Writes (a b : Linked) (bytes : List ℕ) : Type 0 where
  pub adds : Adds a.written b.written bytes
  pub left : b.left ≡ a.left
  pub read_count : b.read_faults ≡ a.read_faults
  pub write_count : a.write_faults ≤ b.write_faults
  pub at_end : IfSome b.at_end (λ noted. a.at_end ≡ Some noted)

-- why a write was refused
abbrev pub Refuses : Linked → Linked → SinkEnd → Type 0
Refuses a b sinks.Failed = Rose a.write_faults b.write_faults
Refuses a b sinks.OutOfMemory = Unit {0}

-- a first part of the bytes was written, and then a write was refused
pub record WritesPart (a b : Linked) (bytes : List ℕ) (end : SinkEnd) : Type 0 where
  pub part : List ℕ
  pub more : List ℕ
  pub whole : part ++ more ≡ bytes
  pub writes : Writes a b part
  pub refuses : Refuses a b end
