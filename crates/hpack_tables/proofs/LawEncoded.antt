-- What is written is a block, so it is read again.
use Rattle.std.proofs.Common.{◌≡◌, ℕ, ◌+◌, ◌^◌, ◌<◌, ◌≤◌, inl, inr, Bool, false, true, Ok, Option, Some, None, List, [], ◌∷◌, ◌++◌, length, get_or, refl, sym, ap, arith, ◌∙◌, add-one}
use Rattle.std.specs.Prelude.{◌&&◌, nat_eq, position, if◌then◌else◌}
use Rattle.std.specs.List.{flat_map}
use Rattle.std.specs.Cmp.Lexicographic.{pointwise, same_text}
use Rattle.std.proofs.lemmas.Bool.{and_parts}
use Rattle.std.proofs.lemmas.List.{length-append, get_or_append_left}
use Rattle.std.proofs.lemmas.List.Concat.{flat_map-cons}
use Rattle.std.proofs.lemmas.List.Quantifiers.{position-Some}
use Rattle.std.proofs.lemmas.List.Sums.{sum_by-cons}
use Rattle.std.proofs.lemmas.Option.{slice_get-get_or}
use Rattle.hpack_tables.specs.declared.header.Header.{Header}
use Rattle.hpack_tables.specs.Integer.{IsInt, int_spelled}
use Rattle.hpack_tables.specs.Table.{HeaderTable, static_entries, header_at, with_max, size_of, list_size}
use Rattle.hpack_tables.specs.Block.{IsString, IsName, IsRepresentation, Step, AreSteps, IsBlock, max_list}
use Rattle.hpack_tables.specs.Reading.{block_at}
use Rattle.hpack_tables.specs.Encoding.{has_name, is_header, string_spelled, name_spelled, header_by, header_spelled, block_spelled}
use Rattle.hpack_tables.proofs.LawInt.{int_spells}
use Rattle.hpack_tables.proofs.LawBlock.{block_again}

static_len : length static_entries ≡ 61
unfolding static_entries
static_len = refl

-- the entry of a static place, whatever the dynamic table is
static_place : (t : HeaderTable) (place : ℕ) (d : Header) → place < length static_entries → header_at t (place + 1) ≡ Some (get_or static_entries place d)
unfolding header_at
static_place t place d lt =
    let within : place < length (static_entries ++ t.entries) = omega (arith, length-append static_entries t.entries) in
    rw add-one (slice_get-get_or (static_entries ++ t.entries) place d within ∙ ap (λ (e : Header). Some e) (get_or_append_left static_entries t.entries d place lt))

same_header : (a b : Header) → a.name ≡ b.name → a.value ≡ b.value → a ≡ b
same_header a b n v =
    let header : List ℕ → List ℕ → Header = λ name value. record { name = name; value = value } in
    ap (λ (x : List ℕ). header x a.value) n ∙ ap (λ (y : List ℕ). header b.name y) v

string_spells : (text : List ℕ) → length text < 2 ^ 32 → IsString (string_spelled text) text
unfolding string_spelled
string_spells text small = inl (int_spelled 7 0 (length text), int_spells 7 0 (length text) small, refl)

name_spells : (t : HeaderTable) (name : List ℕ) (o : Option ℕ) → length name < 2 ^ 32 → position (has_name name) static_entries ≡ o → IsName t 4 0 (name_spelled o name) name
name_spells t name None small e = inr (0 ∷ [], string_spelled name, record { small = omega arith; spelled = inl (omega arith, refl) }, refl, string_spells name small)
name_spells t name (Some place) small e =
    let d : Header = record { name = name; value = name } in
    let found = position-Some (has_name name) static_entries place d e in
    let entry = get_or static_entries place d in
    let index : place + 1 < 2 ^ 32 = omega (arith, found.0, static_len) in
    inl (place + 1, entry, int_spells 4 0 (place + 1) index, static_place t place d found.0, sym (same_text entry.name name (sym found.1)))

header_spells_by : (t : HeaderTable) (may_update : Bool) (header : Header) (o : Option ℕ) → length header.name < 2 ^ 32 → length header.value < 2 ^ 32
    → position (is_header header) static_entries ≡ o → IsRepresentation t may_update (header_by o header) (Some header) t
header_spells_by t may_update header None few small e =
    let name = name_spells t header.name (position (has_name header.name) static_entries) few refl in
    inr (inr (inl (header, inl (name_spelled (position (has_name header.name) static_entries) header.name, string_spelled header.value, refl, name, string_spells header.value small), refl, refl)))
header_spells_by t may_update header (Some place) few small e =
    let found = position-Some (is_header header) static_entries place header e in
    let entry = get_or static_entries place header in
    let both = and_parts (has_name header.name entry) (pointwise nat_eq entry.value header.value) found.1 in
    let same : entry ≡ header = same_header entry header (same_text entry.name header.name (sym both.0)) (same_text entry.value header.value (sym both.1)) in
    let index : place + 1 < 2 ^ 32 = omega (arith, found.0, static_len) in
    inl (place + 1, entry, int_spells 7 128 (place + 1) index, static_place t place header found.0, ap (λ (h : Header). Some h) (sym same), refl)

header_spells : (t : HeaderTable) (may_update : Bool) (header : Header) → size_of header ≤ max_list → IsRepresentation t may_update (header_spelled header) (Some header) t
unfolding header_spelled
header_spells t may_update header small =
    header_spells_by t may_update header (position (is_header header) static_entries) (omega arith) (omega arith) refl

headers_spell : (t : HeaderTable) (may_update : Bool) (headers : List Header) → list_size headers ≤ max_list
    → (steps : List Step) × AreSteps t may_update steps (flat_map header_spelled headers) headers t
headers_spell t may_update [] small = ([], (refl, refl, refl))
headers_spell t may_update (header ∷ headers) small =
    let sizes = sum_by-cons size_of header headers in
    let step : Step = record { bytes = header_spelled header; header = Some header; table = t } in
    let others = headers_spell t (may_update && false) headers (omega (arith, sizes)) in
    (step ∷ others.0, (flat_map header_spelled headers, headers, flat_map-cons header_spelled header headers, refl, header_spells t may_update header (omega (arith, sizes)), others.1))

block_spells : (t : HeaderTable) (headers : List Header) (shrink : Bool) → list_size headers ≤ max_list
    → IsBlock t (block_spelled headers shrink) headers (if shrink then with_max t 0 else t)
unfolding block_spelled
block_spells t headers false small = headers_spell t true headers small
block_spells t headers true small =
    let step : Step = record { bytes = 32 ∷ []; header = None; table = with_max t 0 } in
    let zero_max : IsInt 5 32 0 (32 ∷ []) = record { small = omega arith; spelled = inl (omega arith, refl) } in
    let others = headers_spell (with_max t 0) true headers small in
    (step ∷ others.0, (flat_map header_spelled headers, headers, refl, refl, inr (inr (inr (0, zero_max, refl, omega arith, refl, refl))), others.1))

pub encoded_again : (t : HeaderTable) (headers : List Header) (shrink : Bool) → list_size headers ≤ max_list
    → block_at t (block_spelled headers shrink) ≡ Ok (headers, if shrink then with_max t 0 else t)
encoded_again t headers shrink small = block_again t (if shrink then with_max t 0 else t) (block_spelled headers shrink) headers (block_spells t headers shrink small) small
