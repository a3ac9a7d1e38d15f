-- Names, literals and representations as relations and as they are read.
use Rattle.std.proofs.Common.{◌≡◌, ℕ, zero, suc, ◌+◌, ◌<◌, ◌≤◌, inl, inr, Bool, true, cond, ltb, Result, Ok, Err, Option, Some, None, List, [], ◌∷◌, ◌++◌, length, refl, sym, ap, subst, arith, ◌∙◌, append_assoc}
use Rattle.std.specs.Prelude.{◌&&◌}
use Rattle.std.proofs.lemmas.Bool.{cases_lt, lt-ltb, le-ltb, ltb-true, ltb-false, and_parts}
use Rattle.proto_wire.specs.Steps.{◌>>=◌}
use Rattle.proto_wire.proofs.Steps.{bind_ok, chosen, held_ok, ok_is}
use Rattle.proto_wire.specs.Reading.{IsBytes}
use Rattle.hpack_tables.specs.declared.header.Header.{Header}
use Rattle.hpack_tables.specs.declared.offence.Offence.{Offence}
use Rattle.hpack_tables.specs.declared.offence.Offence.TheVariants as offences
use Rattle.hpack_tables.specs.Integer.{IsInt}
use Rattle.hpack_tables.specs.Table.{HeaderTable, header_at, with_entry, with_max}
use Rattle.hpack_tables.specs.Block.{IsName, IsLiteral, IsRepresentation, max_table}
use Rattle.hpack_tables.specs.Reading.{int_at, entry_or_offence, name_by, string_at, literal_at, Given, given, indexed_at, update_at, representation_at}
use Rattle.hpack_tables.proofs.LawInt.{TakesInt, HasHigh, IsHigh, HasFirst, int_takes, int_again, int_first, first_append, int_some}
use Rattle.hpack_tables.proofs.LawString.{TakesString, rest_bytes, string_takes, string_again}

entry_ok : (o : Option Header) (entry : Header) → entry_or_offence o ≡ Ok entry → o ≡ Some entry
entry_ok None entry e = absurd cc
entry_ok (Some header) entry e = cc

-- ---- what is read is spelled so

record TakesName (t : HeaderTable) (bits high : ℕ) (bytes name rest : List ℕ) : Type 0 where
  pub front : List ℕ
  pub parts : bytes ≡ front ++ rest
  pub is_name : IsName t bits high front name

name_takes : (t : HeaderTable) (bits high : ℕ) (bytes : List ℕ) (index : ℕ) (after : List ℕ) (x : List ℕ × List ℕ) → IsBytes bytes → TakesInt bits high bytes index after
    → name_by t (index, after) ≡ Ok x → TakesName t bits high bytes x.0 x.1
name_takes t bits high bytes zero after x fits i e =
    let s = string_takes after x (rest_bytes bytes i.front after i.parts fits) e in
    record {
      front = i.front ++ s.front;
      parts = i.parts ∙ (ap (λ (y : List ℕ). i.front ++ y) s.parts ∙ sym (append_assoc i.front s.front x.1));
      is_name = inr (i.front, s.front, i.is_int, refl, s.is_string);
    }
name_takes t bits high bytes (suc place) after x fits i e =
    let h = bind_ok (entry_or_offence (header_at t (suc place))) (λ entry. Ok (entry.name, after)) x e in
    let entry = h.0 in
    subst (λ (y : List ℕ × List ℕ). TakesName t bits high bytes y.0 y.1) (ok_is (entry.name, after) x h.2)
    (record { front = i.front; parts = i.parts; is_name = inl (suc place, entry, i.is_int, entry_ok (header_at t (suc place)) entry h.1, refl) })

record TakesLiteral (t : HeaderTable) (bits high : ℕ) (bytes : List ℕ) (header : Header) (rest : List ℕ) : Type 0 where
  pub front : List ℕ
  pub parts : bytes ≡ front ++ rest
  pub is_literal : IsLiteral t bits high front header

takes_value : (t : HeaderTable) (bits high : ℕ) (bytes name after value rest : List ℕ) (x : Header × List ℕ) → TakesName t bits high bytes name after → TakesString after value rest
    → ◌≡◌ {A = Header × List ℕ} (record { name = name; value = value }, rest) x → TakesLiteral t bits high bytes x.0 x.1
takes_value t bits high bytes name after value rest x n s e =
    subst (λ (y : Header × List ℕ). TakesLiteral t bits high bytes y.0 y.1) e (record {
      front = n.front ++ s.front;
      parts = n.parts ∙ (ap (λ (y : List ℕ). n.front ++ y) s.parts ∙ sym (append_assoc n.front s.front rest));
      is_literal = (n.front, s.front, refl, n.is_name, s.is_string);
    })

literal_takes : (t : HeaderTable) (bits high b : ℕ) (rest : List ℕ) (x : Header × List ℕ) → HasHigh bits high b → IsBytes (b ∷ rest)
    → literal_at t bits (b ∷ rest) ≡ Ok x → TakesLiteral t bits high (b ∷ rest) x.0 x.1
unfolding literal_at
literal_takes t bits high b rest x h fits e =
    let i = bind_ok (int_at bits (b ∷ rest)) (λ index. name_by t index >>= λ name. string_at name.1 >>= λ value. Ok (record { name = name.0; value = value.0 }, value.1)) x e in
    let n = bind_ok (name_by t i.0) (λ name. string_at name.1 >>= λ value. Ok (record { name = name.0; value = value.0 }, value.1)) x i.2 in
    let v = bind_ok (string_at n.0.1) (λ value. Ok (record { name = n.0.0; value = value.0 }, value.1)) x n.2 in
    let index = int_takes bits high b rest i.0 h (λ k. fits (suc k)) i.1 in
    let name = name_takes t bits high (b ∷ rest) i.0.0 i.0.1 n.0 fits index n.1 in
    let value = string_takes n.0.1 v.0 (rest_bytes (b ∷ rest) name.front n.0.1 name.parts fits) v.1 in
    takes_value t bits high (b ∷ rest) n.0.0 n.0.1 v.0.0 v.0.1 x name value (ok_is (record { name = n.0.0; value = v.0.0 }, v.0.1) x v.2)

-- what reading a representation took from the front
pub record TakesRepresentation (t : HeaderTable) (may_update : Bool) (bytes : List ℕ) (g : Given) : Type 0 where
  pub front : List ℕ
  pub parts : bytes ≡ front ++ g.rest
  pub is : IsRepresentation t may_update front g.header g.table

indexed_takes : (t : HeaderTable) (may_update : Bool) (b : ℕ) (rest : List ℕ) (g : Given) → 127 < b → IsBytes (b ∷ rest)
    → indexed_at t (b ∷ rest) ≡ Ok g → TakesRepresentation t may_update (b ∷ rest) g
unfolding indexed_at
indexed_takes t may_update b rest g large fits e =
    let byte : b < 256 = fits 0 in
    let i = bind_ok (int_at 7 (b ∷ rest)) (λ index. entry_or_offence (header_at t index.0) >>= λ entry. Ok (given (Some entry) t index.1)) g e in
    let h = bind_ok (entry_or_offence (header_at t i.0.0)) (λ entry. Ok (given (Some entry) t i.0.1)) g i.2 in
    let index = int_takes 7 128 b rest i.0 (record { whole = omega arith; within = omega arith; few = omega arith }) (λ k. fits (suc k)) i.1 in
    subst (TakesRepresentation t may_update (b ∷ rest)) (ok_is (given (Some h.0) t i.0.1) g h.2)
    (record { front = index.front; parts = index.parts; is = inl (i.0.0, h.0, index.is_int, entry_ok (header_at t i.0.0) h.0 h.1, refl, refl) })

added_takes : (t : HeaderTable) (may_update : Bool) (b : ℕ) (rest : List ℕ) (g : Given) → 63 < b → b ≤ 127 → IsBytes (b ∷ rest)
    → (literal_at t 6 (b ∷ rest) >>= λ read. Ok (given (Some read.0) (with_entry t read.0) read.1)) ≡ Ok g → TakesRepresentation t may_update (b ∷ rest) g
added_takes t may_update b rest g large small fits e =
    let r = bind_ok (literal_at t 6 (b ∷ rest)) (λ read. Ok (given (Some read.0) (with_entry t read.0) read.1)) g e in
    let l = literal_takes t 6 64 b rest r.0 (record { whole = omega arith; within = omega arith; few = omega arith }) fits r.1 in
    subst (TakesRepresentation t may_update (b ∷ rest)) (ok_is (given (Some r.0.0) (with_entry t r.0.0) r.0.1) g r.2)
    (record { front = l.front; parts = l.parts; is = inr (inl (r.0.0, l.is_literal, refl, refl)) })

update_takes : (t : HeaderTable) (may_update : Bool) (b : ℕ) (rest : List ℕ) (g : Given) → 31 < b → b ≤ 63 → IsBytes (b ∷ rest)
    → update_at t may_update (b ∷ rest) ≡ Ok g → TakesRepresentation t may_update (b ∷ rest) g
unfolding update_at
update_takes t may_update b rest g large small fits e =
    let i = bind_ok (int_at 5 (b ∷ rest)) (λ max. cond (may_update && ltb max.0 (max_table + 1)) (Ok (given None (with_max t max.0) max.1)) (Err offences.Update)) g e in
    let h = held_ok (may_update && ltb i.0.0 (max_table + 1)) offences.Update (given None (with_max t i.0.0) i.0.1) g i.2 in
    let both = and_parts may_update (ltb i.0.0 (max_table + 1)) h.0 in
    let few = ltb-true _ _ both.1 in
    let max = int_takes 5 32 b rest i.0 (record { whole = omega arith; within = omega arith; few = omega arith }) (λ k. fits (suc k)) i.1 in
    subst (TakesRepresentation t may_update (b ∷ rest)) h.1
    (record { front = max.front; parts = max.parts; is = inr (inr (inr (i.0.0, max.is_int, both.0, omega arith, refl, refl))) })

given_takes : (t : HeaderTable) (may_update : Bool) (b : ℕ) (rest : List ℕ) (g : Given) → b ≤ 31 → IsBytes (b ∷ rest)
    → (literal_at t 4 (b ∷ rest) >>= λ read. Ok (given (Some read.0) t read.1)) ≡ Ok g → TakesRepresentation t may_update (b ∷ rest) g
given_takes t may_update b rest g small fits e =
    let r = bind_ok (literal_at t 4 (b ∷ rest)) (λ read. Ok (given (Some read.0) t read.1)) g e in
    subst (TakesRepresentation t may_update (b ∷ rest)) (ok_is (given (Some r.0.0) t r.0.1) g r.2)
    (elim (cases_lt 15 b) [
      | inl large ↦
          let l = literal_takes t 4 16 b rest r.0 (record { whole = omega arith; within = omega arith; few = omega arith }) fits r.1 in
          record { front = l.front; parts = l.parts; is = inr (inr (inl (r.0.0, inr l.is_literal, refl, refl))) }
      | inr low ↦
          let l = literal_takes t 4 0 b rest r.0 (record { whole = omega arith; within = omega arith; few = omega arith }) fits r.1 in
          record { front = l.front; parts = l.parts; is = inr (inr (inl (r.0.0, inl l.is_literal, refl, refl))) }
    ])

pub representation_takes : (t : HeaderTable) (may_update : Bool) (bytes : List ℕ) (g : Given) → IsBytes bytes → representation_at t may_update bytes ≡ Ok g
    → TakesRepresentation t may_update bytes g
unfolding representation_at
representation_takes t may_update [] g fits e = absurd cc
representation_takes t may_update (b ∷ rest) g fits e =
    let added : Result Given Offence = literal_at t 6 (b ∷ rest) >>= λ (read : Header × List ℕ). Ok (given (Some read.0) (with_entry t read.0) read.1) in
    let kept : Result Given Offence = literal_at t 4 (b ∷ rest) >>= λ (read : Header × List ℕ). Ok (given (Some read.0) t read.1) in
    elim (chosen (ltb 127 b) (indexed_at t (b ∷ rest)) (cond (ltb 63 b) added (cond (ltb 31 b) (update_at t may_update (b ∷ rest)) kept)) (Ok g) e) [
      | inl p ↦ indexed_takes t may_update b rest g (ltb-true _ _ p.0) fits p.1
      | inr p ↦
          elim (chosen (ltb 63 b) added (cond (ltb 31 b) (update_at t may_update (b ∷ rest)) kept) (Ok g) p.1) [
            | inl q ↦ added_takes t may_update b rest g (ltb-true _ _ q.0) (ltb-false _ _ p.0) fits q.1
            | inr q ↦
                elim (chosen (ltb 31 b) (update_at t may_update (b ∷ rest)) kept (Ok g) q.1) [
                  | inl r ↦ update_takes t may_update b rest g (ltb-true _ _ r.0) (ltb-false _ _ q.0) fits r.1
                  | inr r ↦ given_takes t may_update b rest g (ltb-false _ _ r.0) fits r.1
                ]
          ]
    ]

-- ---- what is spelled so is read

-- what reads an index and goes on by it
abbrev indexed_by : HeaderTable → ℕ × List ℕ → Result (Header × List ℕ) Offence
indexed_by t index = name_by t index >>= λ name. string_at name.1 >>= λ value. Ok (record { name = name.0; value = value.0 }, value.1)

entry_again : (t : HeaderTable) (index : ℕ) (entry : Header) (after : List ℕ) → header_at t index ≡ Some entry
    → indexed_by t (index, after) ≡ (string_at after >>= λ value. Ok (record { name = entry.name; value = value.0 }, value.1))
unfolding header_at
entry_again t zero entry after e = absurd cc
entry_again t (suc place) entry after e = rw e refl

literal_again : (t : HeaderTable) (bits high : ℕ) (bytes : List ℕ) (header : Header) (rest : List ℕ) → IsHigh bits high → IsLiteral t bits high bytes header
    → literal_at t bits (bytes ++ rest) ≡ Ok (header, rest)
unfolding literal_at
literal_again t bits high bytes header rest h l =
    let value = string_again l.1 header.value rest l.4 in
    let parts : bytes ++ rest ≡ l.0 ++ (l.1 ++ rest) = ap (λ (x : List ℕ). x ++ rest) l.2 ∙ append_assoc l.0 l.1 rest in
    elim l.3 [
      | inl n ↦
          rw (parts, int_again bits high n.0 l.0 (l.1 ++ rest) h n.2, entry_again t n.0 n.1 (l.1 ++ rest) n.3, value, n.4) refl
      | inr n ↦
          let inner : l.0 ++ (l.1 ++ rest) ≡ n.0 ++ (n.1 ++ (l.1 ++ rest)) = ap (λ (x : List ℕ). x ++ (l.1 ++ rest)) n.3 ∙ append_assoc n.0 n.1 (l.1 ++ rest) in
          rw (parts, inner, int_again bits high 0 n.0 (n.1 ++ (l.1 ++ rest)) h n.2, string_again n.1 header.name (l.1 ++ rest) n.4, value) refl
    ]

name_first : (t : HeaderTable) (bits high : ℕ) (bytes name : List ℕ) → IsName t bits high bytes name → HasFirst bits high bytes
name_first t bits high bytes name (inl n) = int_first bits high n.0 bytes n.2
name_first t bits high bytes name (inr n) = subst (HasFirst bits high) (sym n.3) (first_append bits high n.0 n.1 (int_first bits high 0 n.0 n.2))

literal_first : (t : HeaderTable) (bits high : ℕ) (bytes : List ℕ) (header : Header) → IsLiteral t bits high bytes header → HasFirst bits high bytes
literal_first t bits high bytes header l = subst (HasFirst bits high) (sym l.2) (first_append bits high l.0 l.1 (name_first t bits high l.0 header.name l.3))

-- by the first byte

by_indexed : (t : HeaderTable) (may_update : Bool) (bytes rest : List ℕ) → HasFirst 7 128 bytes
    → representation_at t may_update (bytes ++ rest) ≡ indexed_at t (bytes ++ rest)
unfolding representation_at
by_indexed t may_update bytes rest f = rw (f.first, lt-ltb 127 (128 + f.low) (omega arith)) refl

by_added : (t : HeaderTable) (may_update : Bool) (bytes rest : List ℕ) → HasFirst 6 64 bytes
    → representation_at t may_update (bytes ++ rest) ≡ (literal_at t 6 (bytes ++ rest) >>= λ read. Ok (given (Some read.0) (with_entry t read.0) read.1))
unfolding representation_at
by_added t may_update bytes rest f =
    let small : f.low ≤ 63 = f.small in
    rw (f.first, le-ltb 127 (64 + f.low) (omega arith), lt-ltb 63 (64 + f.low) (omega arith)) refl

by_update : (t : HeaderTable) (may_update : Bool) (bytes rest : List ℕ) → HasFirst 5 32 bytes
    → representation_at t may_update (bytes ++ rest) ≡ update_at t may_update (bytes ++ rest)
unfolding representation_at
by_update t may_update bytes rest f =
    let small : f.low ≤ 31 = f.small in
    rw (f.first, le-ltb 127 (32 + f.low) (omega arith), le-ltb 63 (32 + f.low) (omega arith), lt-ltb 31 (32 + f.low) (omega arith)) refl

by_given : (t : HeaderTable) (may_update : Bool) (high : ℕ) (bytes rest : List ℕ) → high ≤ 16 → HasFirst 4 high bytes
    → representation_at t may_update (bytes ++ rest) ≡ (literal_at t 4 (bytes ++ rest) >>= λ read. Ok (given (Some read.0) t read.1))
unfolding representation_at
by_given t may_update high bytes rest le f =
    let small : f.low ≤ 15 = f.small in
    rw (f.first, le-ltb 127 (high + f.low) (omega arith), le-ltb 63 (high + f.low) (omega arith), le-ltb 31 (high + f.low) (omega arith)) refl

indexed_again : (t : HeaderTable) (bytes rest : List ℕ) (index : ℕ) (entry : Header) → IsInt 7 128 index bytes → header_at t index ≡ Some entry
    → indexed_at t (bytes ++ rest) ≡ Ok (given (Some entry) t rest)
unfolding indexed_at
indexed_again t bytes rest index entry i e = rw (int_again 7 128 index bytes rest (record { low = λ v lt. omega arith; some = omega arith }) i, e) refl

update_again : (t : HeaderTable) (bytes rest : List ℕ) (max : ℕ) → IsInt 5 32 max bytes → max ≤ max_table
    → update_at t true (bytes ++ rest) ≡ Ok (given None (with_max t max) rest)
unfolding update_at
update_again t bytes rest max i le = rw (int_again 5 32 max bytes rest (record { low = λ v lt. omega arith; some = omega arith }) i, lt-ltb max (max_table + 1) (omega arith)) refl

given_again : (t : HeaderTable) (may_update : Bool) (high : ℕ) (bytes : List ℕ) (header : Header) (rest : List ℕ) → high ≤ 16 → IsHigh 4 high → IsLiteral t 4 high bytes header
    → representation_at t may_update (bytes ++ rest) ≡ Ok (given (Some header) t rest)
given_again t may_update high bytes header rest le h l =
    rw (by_given t may_update high bytes rest le (literal_first t 4 high bytes header l), literal_again t 4 high bytes header rest h l) refl

pub representation_again : (t : HeaderTable) (may_update : Bool) (bytes : List ℕ) (header : Option Header) (t' : HeaderTable) (rest : List ℕ)
    → IsRepresentation t may_update bytes header t' → representation_at t may_update (bytes ++ rest) ≡ Ok (given header t' rest)
representation_again t may_update bytes header t' rest (inl r) =
    rw (by_indexed t may_update bytes rest (int_first 7 128 r.0 bytes r.2), indexed_again t bytes rest r.0 r.1 r.2 r.3, r.4, r.5) refl
representation_again t may_update bytes header t' rest (inr (inl r)) =
    rw (by_added t may_update bytes rest (literal_first t 6 64 bytes r.0 r.1), literal_again t 6 64 bytes r.0 rest (record { low = λ v lt. omega arith; some = omega arith }) r.1, r.2, r.3) refl
representation_again t may_update bytes header t' rest (inr (inr (inl r))) =
    elim r.1 [
      | inl l ↦ rw (given_again t may_update 0 bytes r.0 rest (omega arith) (record { low = λ v lt. omega arith; some = omega arith }) l, r.2, r.3) refl
      | inr l ↦ rw (given_again t may_update 16 bytes r.0 rest (omega arith) (record { low = λ v lt. omega arith; some = omega arith }) l, r.2, r.3) refl
    ]
representation_again t may_update bytes header t' rest (inr (inr (inr r))) =
    rw (by_update t may_update bytes rest (int_first 5 32 r.0 bytes r.1), r.2, update_again t bytes rest r.0 r.1 r.3, r.4, r.5) refl

-- a representation has a byte

first_some : (bits high : ℕ) (bytes : List ℕ) → HasFirst bits high bytes → 0 < length bytes
first_some bits high bytes f = omega (arith, ap length f.first)

pub representation_some : (t : HeaderTable) (may_update : Bool) (bytes : List ℕ) (header : Option Header) (t' : HeaderTable)
    → IsRepresentation t may_update bytes header t' → 0 < length bytes
representation_some t may_update bytes header t' (inl r) = int_some 7 128 r.0 bytes r.2
representation_some t may_update bytes header t' (inr (inl r)) = first_some 6 64 bytes (literal_first t 6 64 bytes r.0 r.1)
representation_some t may_update bytes header t' (inr (inr (inl r))) =
    elim r.1 [
      | inl l ↦ first_some 4 0 bytes (literal_first t 4 0 bytes r.0 l)
      | inr l ↦ first_some 4 16 bytes (literal_first t 4 16 bytes r.0 l)
    ]
representation_some t may_update bytes header t' (inr (inr (inr r))) = int_some 5 32 r.0 bytes r.1
