-- A representation that is read leaves a shorter rest, so the length is fuel enough.
use Rattle.std.proofs.Common.{◌≡◌, ℕ, zero, suc, ◌+◌, ◌-◌, ◌*◌, ◌%◌, ◌^◌, ◌<◌, ◌≤◌, inl, inr, Bool, cond, ltb, Option, Some, None, Result, Ok, Err, List, [], ◌∷◌, length, take, drop, ap, arith}
use Rattle.std.specs.Prelude.{◌&&◌}
use Rattle.std.proofs.lemmas.List.{length-drop}
use Rattle.proto_wire.specs.Steps.{◌>>=◌}
use Rattle.proto_wire.proofs.Steps.{bind_ok, chosen, held, ok_is, passed}
use Rattle.hpack_tables.specs.declared.header.Header.{Header}
use Rattle.hpack_tables.specs.declared.offence.Offence.{Offence}
use Rattle.hpack_tables.specs.declared.offence.Offence.TheVariants as offences
use Rattle.hpack_tables.specs.Huffman.{text_of}
use Rattle.hpack_tables.specs.Integer.{filled}
use Rattle.hpack_tables.specs.Block.{max_table}
use Rattle.hpack_tables.specs.Table.{HeaderTable, header_at, with_entry, with_max}
use Rattle.hpack_tables.specs.Reading.{groups_at, small_int, int_at, text_or_offence, is_coded, string_at, entry_or_offence, name_by, literal_at, Given, given, indexed_at, update_at, representation_at}

groups_shrinks : (more : ℕ) (bytes : List ℕ) (x : ℕ × List ℕ) → groups_at more bytes ≡ Ok x → length x.1 < length bytes
unfolding groups_at
groups_shrinks zero [] x e = absurd cc
groups_shrinks (suc more) [] x e = absurd cc
groups_shrinks zero (b ∷ rest) x e = absurd cc
groups_shrinks (suc more) (b ∷ rest) x e =
    elim (chosen (ltb b 128) (Ok (b, rest)) (groups_at more rest >>= λ high. Ok (b - 128 + 128 * high.0, high.1)) (Ok x) e) [
      | inl q ↦ omega (arith, ap (λ (y : ℕ × List ℕ). length y.1) (ok_is (b, rest) x q.1))
      | inr q ↦
          let h = bind_ok (groups_at more rest) (λ high. Ok (b - 128 + 128 * high.0, high.1)) x q.1 in
          omega (arith, groups_shrinks more rest h.0 h.1, ap (λ (y : ℕ × List ℕ). length y.1) (ok_is (b - 128 + 128 * h.0.0, h.0.1) x h.2))
    ]

pub int_shrinks : (bits : ℕ) (bytes : List ℕ) (x : ℕ × List ℕ) → int_at bits bytes ≡ Ok x → length x.1 < length bytes
unfolding int_at
int_shrinks bits [] x e = absurd cc
int_shrinks bits (b ∷ rest) x e =
    elim (chosen (ltb (b % 2 ^ bits) (filled bits)) (Ok (b % 2 ^ bits, rest)) (groups_at 5 rest >>= λ more. small_int (filled bits + more.0, more.1)) (Ok x) e) [
      | inl q ↦ omega (arith, ap (λ (y : ℕ × List ℕ). length y.1) (ok_is (b % 2 ^ bits, rest) x q.1))
      | inr q ↦
          let h = bind_ok (groups_at 5 rest) (λ more. small_int (filled bits + more.0, more.1)) x q.1 in
          let s = held (ltb (filled bits + h.0.0) (2 ^ 32)) offences.Int (Ok (filled bits + h.0.0, h.0.1)) x h.2 in
          omega (arith, groups_shrinks 5 rest h.0 h.1, ap (λ (y : ℕ × List ℕ). length y.1) (ok_is (filled bits + h.0.0, h.0.1) x s.1))
    ]

text_rest : (text : Option (List ℕ)) (rest : List ℕ) (x : List ℕ × List ℕ) → text_or_offence text rest ≡ Ok x → rest ≡ x.1
text_rest None rest x e = absurd cc
text_rest (Some text) rest x e = ap (λ (y : List ℕ × List ℕ). y.1) (ok_is (text, rest) x e)

pub string_shrinks : (bytes : List ℕ) (x : List ℕ × List ℕ) → string_at bytes ≡ Ok x → length x.1 < length bytes
unfolding string_at
string_shrinks bytes x e =
    let coded : ℕ × List ℕ → Result (List ℕ × List ℕ) Offence = λ len. text_or_offence (text_of (take len.0 len.1)) (drop len.0 len.1) in
    let plain : ℕ × List ℕ → Result (List ℕ × List ℕ) Offence = λ len. Ok (take len.0 len.1, drop len.0 len.1) in
    let k = bind_ok (int_at 7 bytes) (λ len. cond (ltb (length len.1) len.0) (Err offences.Truncated) (cond (is_coded bytes) (coded len) (plain len))) x e in
    let len = k.0 in
    let g = passed (ltb (length len.1) len.0) offences.Truncated (cond (is_coded bytes) (coded len) (plain len)) x k.2 in
    let shorter = int_shrinks 7 bytes len k.1 in
    elim (chosen (is_coded bytes) (coded len) (plain len) (Ok x) g.1) [
      | inl q ↦ omega (arith, shorter, length-drop len.0 len.1, ap length (text_rest (text_of (take len.0 len.1)) (drop len.0 len.1) x q.1))
      | inr q ↦ omega (arith, shorter, length-drop len.0 len.1, ap (λ (y : List ℕ × List ℕ). length y.1) (ok_is (take len.0 len.1, drop len.0 len.1) x q.1))
    ]

name_shrinks : (t : HeaderTable) (index : ℕ × List ℕ) (x : List ℕ × List ℕ) → name_by t index ≡ Ok x → length x.1 ≤ length index.1
name_shrinks t (zero, rest) x e = omega (arith, string_shrinks rest x e)
name_shrinks t (suc place, rest) x e =
    let k = bind_ok (entry_or_offence (header_at t (suc place))) (λ entry. Ok (entry.name, rest)) x e in
    omega (arith, ap (λ (y : List ℕ × List ℕ). length y.1) (ok_is (k.0.name, rest) x k.2))

value_shrinks : (name : List ℕ × List ℕ) (x : Header × List ℕ) → (string_at name.1 >>= λ value. Ok (record { name = name.0; value = value.0 }, value.1)) ≡ Ok x → length x.1 < length name.1
value_shrinks name x e =
    let v = bind_ok (string_at name.1) (λ value. Ok (record { name = name.0; value = value.0 }, value.1)) x e in
    omega (arith, string_shrinks name.1 v.0 v.1, ap (λ (y : Header × List ℕ). length y.1) (ok_is (record { name = name.0; value = v.0.0 }, v.0.1) x v.2))

literal_shrinks : (t : HeaderTable) (bits : ℕ) (bytes : List ℕ) (x : Header × List ℕ) → literal_at t bits bytes ≡ Ok x → length x.1 < length bytes
unfolding literal_at
literal_shrinks t bits bytes x e =
    let value_of : List ℕ × List ℕ → Result (Header × List ℕ) Offence = λ name. string_at name.1 >>= λ value. Ok (record { name = name.0; value = value.0 }, value.1) in
    let i = bind_ok (int_at bits bytes) (λ index. name_by t index >>= value_of) x e in
    let n = bind_ok (name_by t i.0) value_of x i.2 in
    omega (arith, int_shrinks bits bytes i.0 i.1, name_shrinks t i.0 n.0 n.1, value_shrinks n.0 x n.2)

indexed_shrinks : (t : HeaderTable) (bytes : List ℕ) (g : Given) → indexed_at t bytes ≡ Ok g → length g.rest < length bytes
unfolding indexed_at
indexed_shrinks t bytes g e =
    let i = bind_ok (int_at 7 bytes) (λ index. entry_or_offence (header_at t index.0) >>= λ entry. Ok (given (Some entry) t index.1)) g e in
    let n = bind_ok (entry_or_offence (header_at t i.0.0)) (λ entry. Ok (given (Some entry) t i.0.1)) g i.2 in
    omega (arith, int_shrinks 7 bytes i.0 i.1, ap (λ (y : Given). length y.rest) (ok_is (given (Some n.0) t i.0.1) g n.2))

update_shrinks : (t : HeaderTable) (may_update : Bool) (bytes : List ℕ) (g : Given) → update_at t may_update bytes ≡ Ok g → length g.rest < length bytes
unfolding update_at
update_shrinks t may_update bytes g e =
    let i = bind_ok (int_at 5 bytes) (λ max. cond (may_update && ltb max.0 (max_table + 1)) (Ok (given None (with_max t max.0) max.1)) (Err offences.Update)) g e in
    let h = held (may_update && ltb i.0.0 (max_table + 1)) offences.Update (Ok (given None (with_max t i.0.0) i.0.1)) g i.2 in
    omega (arith, int_shrinks 5 bytes i.0 i.1, ap (λ (y : Given). length y.rest) (ok_is (given None (with_max t i.0.0) i.0.1) g h.1))

-- a literal, whatever becomes of the table
given_shrinks : (t : HeaderTable) (bits : ℕ) (next : Header → HeaderTable) (bytes : List ℕ) (g : Given) → (literal_at t bits bytes >>= λ read. Ok (given (Some read.0) (next read.0) read.1)) ≡ Ok g → length g.rest < length bytes
given_shrinks t bits next bytes g e =
    let k = bind_ok (literal_at t bits bytes) (λ read. Ok (given (Some read.0) (next read.0) read.1)) g e in
    omega (arith, literal_shrinks t bits bytes k.0 k.1, ap (λ (y : Given). length y.rest) (ok_is (given (Some k.0.0) (next k.0.0) k.0.1) g k.2))

pub representation_shrinks : (t : HeaderTable) (may_update : Bool) (bytes : List ℕ) (g : Given) → representation_at t may_update bytes ≡ Ok g → length g.rest < length bytes
unfolding representation_at
representation_shrinks t may_update [] g e = absurd cc
representation_shrinks t may_update (b ∷ rest) g e =
    let added : Result Given Offence = literal_at t 6 (b ∷ rest) >>= λ read. Ok (given (Some read.0) (with_entry t read.0) read.1) in
    let kept : Result Given Offence = literal_at t 4 (b ∷ rest) >>= λ read. Ok (given (Some read.0) t read.1) in
    let update : Result Given Offence = update_at t may_update (b ∷ rest) in
    elim (chosen (ltb 127 b) (indexed_at t (b ∷ rest)) (cond (ltb 63 b) added (cond (ltb 31 b) update kept)) (Ok g) e) [
      | inl p ↦ indexed_shrinks t (b ∷ rest) g p.1
      | inr p ↦
          elim (chosen (ltb 63 b) added (cond (ltb 31 b) update kept) (Ok g) p.1) [
            | inl q ↦ given_shrinks t 6 (λ header. with_entry t header) (b ∷ rest) g q.1
            | inr q ↦
                elim (chosen (ltb 31 b) update kept (Ok g) q.1) [
                  | inl r ↦ update_shrinks t may_update (b ∷ rest) g r.1
                  | inr r ↦ given_shrinks t 4 (λ header. t) (b ∷ rest) g r.1
                ]
          ]
    ]
