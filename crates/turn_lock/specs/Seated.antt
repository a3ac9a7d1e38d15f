-- What holds of the fields of a diary.
use Rattle.std.specs.Prelude.{◌≡◌, ◌≤◌, ◌^◌, [], length}
use Rattle.store_core.specs.History.{Legal}
use Rattle.turn_lock.specs.declared.diary.Diary.TheInside.{Inside}

-- The seat is one of the table, which has one word, and it holds no slot. The count is that of the entries that the
-- seat knows.
pub record IsSeated (d : Inside) : Type 0 where
  pub table : d.seat.table_id ≡ d.table.shared.table_id
  pub word : d.seat.table_id.words ≡ 1
  pub bare : d.seat.me.1 ≡ []
  pub legal : Legal d.seat.me.0.start d.seat.me.0.seen
  pub count : d.count ≡ length d.seat.me.0.seen
  pub room : d.count ≤ 2 ^ 63
