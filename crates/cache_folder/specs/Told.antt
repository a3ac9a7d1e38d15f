-- What a shelf over a folder tells: its counts.
use Rattle.std.specs.Prelude.{◌≡◌, ◌≤◌, ◌^◌, ◌-◌, min, ℕ, Bool, true, false, length, None}
use Rattle.std.proofs.Common.{arith}
use Rattle.casd_base.specs.Memory.{counted}
use Rattle.blob_store.specs.Shelves.{Shelved}
use Rattle.blob_store.specs.declared.shelf.ShelfEnd.{ShelfEnd}
use Rattle.blob_store.specs.declared.shelf.ShelfEnd.TheVariants.{Failed, OutOfMemory}
use Rattle.cache_folder.specs.declared.host_shelf.HostShelf.{HostShelf}

-- how many of the listed bodies are still to be found, which a list in memory bounds, and before they were listed, all that
-- a folder can have
abbrev pub left_of : Bool → ℕ → ℕ
left_of true count = min count (2 ^ 63 - 1)
left_of false count = 2 ^ 63

pub few_left : (listed : Bool) (count : ℕ) → left_of listed count ≤ 2 ^ 63
few_left true count = omega arith
few_left false count = omega arith

-- how many bodies are still to be found
abbrev pub left : HostShelf → ℕ
left s = left_of s.listed (length s.found.items)

-- its calls may fail, and it tells no content
abbrev pub told : HostShelf → Shelved
told s = record {
  faults = s.faults;
  discarded = s.discarded;
  dropped = s.dropped;
  may_fail = true;
  found = None;
  to_find = left s;
  saved = None;
}

-- a shelf of a run that has done nothing yet: none of its drafts has a name, and no body was looked for
pub record IsFirst (s : HostShelf) (run seat : ℕ) : Type 0 where
  pub run_is : s.run ≡ run
  pub seat_is : s.seat ≡ seat
  pub drafts : s.drafts ≡ 0
  pub listed : s.listed ≡ false
  pub faults : s.faults ≡ 0
  pub discarded : s.discarded ≡ 0
  pub dropped : s.dropped ≡ 0

-- a fault was counted, and for want of memory nothing changed
abbrev pub IsRefusal : HostShelf → HostShelf → ShelfEnd → Type 0
IsRefusal old new Failed = new ≡ record old { faults = counted old.faults }
IsRefusal old new OutOfMemory = new ≡ old
