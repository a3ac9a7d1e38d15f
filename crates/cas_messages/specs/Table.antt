-- What messages are made of (Protocol Buffers, Language Guide): a table for each, with a row for each field.
use Rattle.std.specs.Prelude.{◌^◌, ◌&&◌, nat_lt, ℕ, ℤ, Bool, true, List, Option}
use Rattle.digest_types.specs.Name.{HashAndSize}

-- what a field holds
pub data Kind : Type 0 where
  int32 : Kind
  int64 : Kind
  bool : Kind
  text : Kind
  bytes : Kind
  digest : Kind
  optional_digest : Kind
  int32_list : Kind
  text_list : Kind
  bytes_list : Kind
  digest_list : Kind

-- the value of a field
abbrev pub Of : Kind → Type 0
Of int32 = ℤ
Of int64 = ℤ
Of bool = Bool
Of text = List ℕ
Of bytes = List ℕ
Of digest = HashAndSize
Of optional_digest = Option HashAndSize
Of int32_list = List ℤ
Of text_list = List (List ℕ)
Of bytes_list = List (List ℕ)
Of digest_list = List HashAndSize

-- The rows of a message, by ascending number: fields of these kinds, messages of their own, and lists of those.
pub data Table : Type 0 where
  end : Table
  field : ℕ → Kind → Table → Table
  message : ℕ → Table → Table → Table
  message_list : ℕ → Table → Table → Table

-- the rest of the rows, below
infixr 5 ◌▹◌
abbrev pub ◌▹◌ : (Table → Table) → Table → Table
row ▹ rows = row rows

-- the value of a message: that of each of its fields
abbrev pub Value : Table → Type 0
Value end = Unit {0}
Value (field number kind rows) = Of kind × Value rows
Value (message number inner rows) = Value inner × Value rows
Value (message_list number inner rows) = List (Value inner) × Value rows

-- whether the numbers of the rows, and of the messages inside, ascend from above `low` and stay below 2^29
abbrev pub is_table : ℕ → Table → Bool
is_table low end = true
is_table low (field number kind rows) = nat_lt low number && nat_lt number (2 ^ 29) && is_table number rows
is_table low (message number inner rows) = nat_lt low number && nat_lt number (2 ^ 29) && is_table 0 inner && is_table number rows
is_table low (message_list number inner rows) =
    nat_lt low number && nat_lt number (2 ^ 29) && is_table 0 inner && is_table number rows

-- the value of a row, and those of the rows below
infixr 5 ◌&◌
abbrev pub ◌&◌ : {A B : Type 0} → A → B → A × B
v & vs = (v, vs)
