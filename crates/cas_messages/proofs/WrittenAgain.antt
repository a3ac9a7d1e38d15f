-- What is written is read.
use Rattle.std.proofs.Common.{◌≡◌, ℕ, ◌+◌, ◌<◌, ◌^◌, true, List, [], length, Result, Ok, refl, ap, ◌∙◌, arith}
use Rattle.std.specs.Prelude.{◌&&◌, nat_lt}
use Rattle.std.specs.List.{flat_map}
use Rattle.std.proofs.lemmas.Bool.{and_parts, ltb-true}
use Rattle.proto_wire.specs.declared.fault.WireError.{WireError}
use Rattle.proto_wire.specs.Field.{WireField}
use Rattle.proto_wire.specs.Spelling.{bytes_field}
use Rattle.proto_wire.proofs.WireLaws.{wire_read}
use Rattle.proto_wire.specs.Steps.{◌>>=◌}
use Rattle.cas_messages.specs.Fault.{wire_fault, with_fault}
use Rattle.cas_messages.specs.Table.{Table, end, field, message, message_list, Value, is_table}
use Rattle.cas_messages.specs.Meaning.{field_in, one_in, list_in, fields_in, message_in}
use Rattle.cas_messages.specs.Spelling.{field_spelled, spelled}
use Rattle.cas_messages.specs.Fits.{Short, Fits}
use Rattle.cas_messages.proofs.Lists.{all_from}
use Rattle.cas_messages.proofs.Rows.{WrittenAbove, joined_written}
use Rattle.cas_messages.proofs.EachKind.{field_alone, one_alone, list_alone, field_written, one_written, messages_written}

-- what the test of a table says of a row, and of a row with a table inside
pub record IsRow (low number : ℕ) (rows : Table) : Type 0 where
  pub above : low < number
  pub high : number < 2 ^ 29
  pub below : is_table number rows ≡ true

row_parts : (low number : ℕ) (rows : Table) → (nat_lt low number && nat_lt number (2 ^ 29) && is_table number rows) ≡ true → IsRow low number rows
row_parts low number rows h =
    let p = and_parts (nat_lt low number && nat_lt number (2 ^ 29)) (is_table number rows) h in
    let q = and_parts (nat_lt low number) (nat_lt number (2 ^ 29)) p.0 in
    record { above = ltb-true low number q.0; high = ltb-true number (2 ^ 29) q.1; below = p.1 }

pub record IsNested (low number : ℕ) (inner rows : Table) : Type 0 where
  pub row : IsRow low number rows
  pub inside : is_table 0 inner ≡ true

nested_parts : (low number : ℕ) (inner rows : Table) → (nat_lt low number && nat_lt number (2 ^ 29) && is_table 0 inner && is_table number rows) ≡ true → IsNested low number inner rows
nested_parts low number inner rows h =
    let p = and_parts (nat_lt low number && nat_lt number (2 ^ 29) && is_table 0 inner) (is_table number rows) h in
    let q = and_parts (nat_lt low number && nat_lt number (2 ^ 29)) (is_table 0 inner) p.0 in
    let r = and_parts (nat_lt low number) (nat_lt number (2 ^ 29)) q.0 in
    record { row = record { above = ltb-true low number r.0; high = ltb-true number (2 ^ 29) r.1; below = p.1 }; inside = q.1 }

-- a row of fields that is a message is read as one
read_again : (table : Table) (v : Value table) → WrittenAbove 0 0 (spelled table v) (fields_in table) v → message_in table (spelled table v) ≡ Ok v
read_again table v w = ap (λ (r : Result (List WireField) WireError). with_fault (wire_fault 0) r >>= fields_in table) (wire_read (spelled table v) w.fields w.row) ∙ w.again [] tt

table_written : (table : Table) (low at : ℕ) (v : Value table) → is_table low table ≡ true → Fits table v → WrittenAbove at low (spelled table v) (fields_in table) v
unfolding fields_in spelled
table_written end low at v ascends fits = record { fields = []; row = refl; above = tt; again = λ before h. refl }
table_written (field number kind rows) low at v ascends fits =
    let is = row_parts low number rows ascends in
    let here = field_spelled kind number v.0 in
    joined_written at low number here (spelled rows v.1) (field_in kind number) (fields_in rows) v.0 v.1 is.above (field_alone kind number) (field_written kind at number v.0 (omega (arith, is.above)) is.high fits.0) (table_written rows number (at + length here) v.1 is.below fits.1)
table_written (message number inner rows) low at v ascends fits =
    let is = nested_parts low number inner rows ascends in
    let content = spelled inner v.0 in
    let here = bytes_field number content in
    let again = read_again inner v.0 (table_written inner 0 0 v.0 is.inside fits.0.1) in
    joined_written at low number here (spelled rows v.1) (one_in (fields_in inner) number) (fields_in rows) v.0 v.1 is.row.above (one_alone (fields_in inner) number) (one_written at number (fields_in inner) content v.0 (omega (arith, is.row.above)) is.row.high fits.0.0 again)
    (table_written rows number (at + length here) v.1 is.row.below fits.1)
table_written (message_list number inner rows) low at v ascends fits =
    let is = nested_parts low number inner rows ascends in
    let here = flat_map (λ (m : Value inner). bytes_field number (spelled inner m)) v.0 in
    let all = all_from (λ (m : Value inner). Short (spelled inner m) × Fits inner m) (λ (m : Value inner). Short (spelled inner m) × (message_in inner (spelled inner m) ≡ Ok m)) (λ m h. (h.0, read_again inner m (table_written inner 0 0 m is.inside h.1))) v.0 fits.0 in
    joined_written at low number here (spelled rows v.1) (list_in (fields_in inner) number) (fields_in rows) v.0 v.1 is.row.above (list_alone (fields_in inner) number) (messages_written at number (fields_in inner) (spelled inner) v.0 (omega (arith, is.row.above)) is.row.high all)
    (table_written rows number (at + length here) v.1 is.row.below fits.1)

-- the message that is spelled is the one that is read
pub written_again : (table : Table) (v : Value table) → is_table 0 table ≡ true → Fits table v → message_in table (spelled table v) ≡ Ok v
written_again table v ascends fits = read_again table v (table_written table 0 0 v ascends fits)
