-- Fields of each kind: what is written is read, whatever fields of other numbers stand beside it.
use Rattle.std.proofs.Common.{◌≡◌, ℕ, ℤ, ◌+◌, ◌<◌, ◌^◌, Bool, true, not, eqb, List, [], ◌∷◌, ◌++◌, length, map, Option, Some, None, Result, Ok, refl, sym, ap, ◌∙◌}
use Rattle.std.specs.Prelude.{unwrap_or, FitsSigned}
use Rattle.std.specs.Int.{w32, w64, cast_unsigned, cast_signed}
use Rattle.std.specs.List.{AllByRecursion, flat_map}
use Rattle.std.specs.Str.{is_utf8}
use Rattle.std.proofs.lemmas.Bool.{eq-eqb}
use Rattle.std.proofs.lemmas.List.{append-nil, map-id}
use Rattle.proto_wire.specs.declared.fault.WireError.{WireError}
use Rattle.proto_wire.specs.Field.{WireField, contents_of, joined_of, last_of}
use Rattle.proto_wire.specs.Spelling.{bytes_field}
use Rattle.proto_wire.specs.Packed.{varints_in, packed_of}
use Rattle.digest_types.specs.Name.{HashAndSize}
use Rattle.digest_types.specs.Digest as digests
use Rattle.digest_types.specs.Digest.{IsDigest}
use Rattle.digest_types.proofs.Written.{spelled-read}
use Rattle.cas_messages.specs.declared.error.MessageError.{MessageError}
use Rattle.proto_wire.specs.Steps.{◌>>=◌}
use Rattle.cas_messages.specs.Fault.{wire_fault, digest_fault, inside, with_fault}
use Rattle.cas_messages.specs.Table.{Kind, int32, int64, bool, text, bytes, digest, optional_digest, int32_list, text_list, bytes_list, digest_list, Of}
use Rattle.cas_messages.specs.Meaning.{int32_of, text_from, digest_from, digest_by, optional_by, each, field_in, message_by, one_in, list_in}
use Rattle.cas_messages.specs.Spelling.{packed_content, digest_spelled, field_spelled}
use Rattle.cas_messages.specs.Fits.{Short, IsText, FitsKind}
use Rattle.cas_messages.proofs.Casts.{int64_again, int64_small, int32_again, int32_small, int32s_again, int32s_small}
use Rattle.cas_messages.proofs.Lists.{Without, all_from, ints_alone, contents_alone, packed_alone}
use Rattle.proto_wire.proofs.PackedLaws.{packed-read}
use Rattle.cas_messages.proofs.DigestShort.{digest_short}
use Rattle.cas_messages.proofs.Rows.{Written, WrittenList, bytes_row, none_written, number_written, flag_written, content_written, bytes_written, list_written, one_int, one_content, one_joined}

-- ---- fields of other numbers change nothing

pub field_alone : (kind : Kind) (number : ℕ) (before fs after : List WireField) → Without number before → Without number after → field_in kind number (before ++ (fs ++ after)) ≡ field_in kind number fs
unfolding field_in
field_alone int32 number before fs after b a = ap (λ (ns : List ℕ). Ok (int32_of (unwrap_or (last_of ns) 0))) (ints_alone number before fs after b a)
field_alone int64 number before fs after b a = ap (λ (ns : List ℕ). Ok (cast_signed w64 (unwrap_or (last_of ns) 0))) (ints_alone number before fs after b a)
field_alone bool number before fs after b a = ap (λ (ns : List ℕ). Ok (not (eqb (unwrap_or (last_of ns) 0) 0))) (ints_alone number before fs after b a)
field_alone text number before fs after b a = ap (λ (cs : List (List ℕ)). text_from number (unwrap_or (last_of cs) [])) (contents_alone number before fs after b a)
field_alone bytes number before fs after b a = ap (λ (cs : List (List ℕ)). Ok (unwrap_or (last_of cs) [])) (contents_alone number before fs after b a)
field_alone digest number before fs after b a = ap (λ (cs : List (List ℕ)). digest_by number (joined_of cs)) (contents_alone number before fs after b a)
field_alone optional_digest number before fs after b a = ap (λ (cs : List (List ℕ)). optional_by number (joined_of cs)) (contents_alone number before fs after b a)
field_alone int32_list number before fs after b a = ap (λ (r : Result (List ℕ) WireError). with_fault (wire_fault number) r >>= λ ns. Ok (map int32_of ns)) (packed_alone number before fs after b a)
field_alone text_list number before fs after b a = ap (each (λ (index : ℕ). text_from number) 0) (contents_alone number before fs after b a)
field_alone bytes_list number before fs after b a = ap (λ (cs : List (List ℕ)). Ok cs) (contents_alone number before fs after b a)
field_alone digest_list number before fs after b a = ap (each (digest_from number) 0) (contents_alone number before fs after b a)

pub one_alone : {A : Type 0} (read : List WireField → Result A MessageError) (number : ℕ) (before fs after : List WireField) → Without number before → Without number after → one_in read number (before ++ (fs ++ after)) ≡ one_in read number fs
one_alone read number before fs after b a = ap (λ (cs : List (List ℕ)). with_fault (inside number 0) (message_by read (unwrap_or (joined_of cs) []))) (contents_alone number before fs after b a)

pub list_alone : {A : Type 0} (read : List WireField → Result A MessageError) (number : ℕ) (before fs after : List WireField) → Without number before → Without number after → list_in read number (before ++ (fs ++ after)) ≡ list_in read number fs
list_alone read number before fs after b a = ap (each (λ (index : ℕ) (c : List ℕ). with_fault (inside number index) (message_by read c)) 0) (contents_alone number before fs after b a)

-- ---- the parts

text_again : (number : ℕ) (b : List ℕ) → is_utf8 b ≡ true → text_from number b ≡ Ok b
text_again number b h = rw h refl

digest_again : (number index : ℕ) (d : HashAndSize) → IsDigest d → digest_from number index (digests.spelled d) ≡ Ok d
digest_again number index d is = ap (with_fault (digest_fault number index)) (spelled-read d is)

one_packed : (at number : ℕ) (b : List ℕ) (ns : List ℕ) → varints_in (length b) at b ≡ Ok ns → packed_of number (bytes_row at number b ∷ []) ≡ Ok ns
unfolding packed_of
one_packed at number b ns h = rw (eq-eqb number number refl, h) (ap (λ (ms : List ℕ). Ok ms) (append-nil ns))

none_packed : (number : ℕ) (ns : List ℕ) → varints_in 0 0 [] ≡ Ok ns → packed_of number [] ≡ Ok ns
unfolding packed_of varints_in
none_packed number ns h = h

int32s_from : (number : ℕ) (zs : List ℤ) (r : Result (List ℕ) WireError) → AllByRecursion (FitsSigned w32) zs → r ≡ Ok (map (cast_unsigned w64) zs) → (with_fault (wire_fault number) r >>= λ ns. Ok (map int32_of ns)) ≡ Ok zs
int32s_from number zs r fits h = ap (λ (x : Result (List ℕ) WireError). with_fault (wire_fault number) x >>= λ ns. Ok (map int32_of ns)) h ∙ ap (λ (ys : List ℤ). Ok ys) (int32s_again zs fits)

-- nothing is written only for no numbers
no_packed : (zs : List ℤ) → AllByRecursion (FitsSigned w32) zs → packed_content zs ≡ [] → varints_in 0 0 [] ≡ Ok (map (cast_unsigned w64) zs)
no_packed zs fits e = sym (ap (λ (t : List ℕ). varints_in (length t) 0 t) e) ∙ packed-read 0 (map (cast_unsigned w64) zs) (int32s_small zs fits)

pub each_again : {A : Type 0} (read : ℕ → List ℕ → Result A MessageError) (f : A → List ℕ) (i : ℕ) (xs : List A) → AllByRecursion (λ x. (index : ℕ) → read index (f x) ≡ Ok x) xs → each read i (map f xs) ≡ Ok xs
unfolding each
each_again read f i [] h = refl
each_again read f i (x ∷ xs) h = rw (h.0 i, each_again read f (i + 1) xs h.1) refl

elements_written : {A : Type 0} (at number : ℕ) (t : List ℕ) (f : A → List ℕ) (xs : List A) (read : ℕ → List ℕ → Result A MessageError) → WrittenList at number t (map f xs) → AllByRecursion (λ x. (index : ℕ) → read index (f x) ≡ Ok x) xs
    → Written at number t (λ fs. each read 0 (contents_of number fs)) xs
elements_written at number t f xs read w h = record { fields = w.fields; row = w.row; only = w.only; again = ap (each read 0) w.contents ∙ each_again read f 0 xs h }

-- ---- each kind

pub field_written : (kind : Kind) (at number : ℕ) (v : Of kind) → 0 < number → number < 2 ^ 29 → FitsKind kind v → Written at number (field_spelled kind number v) (field_in kind number) v
unfolding field_in
field_written int32 at number z low high fits =
    let n = cast_unsigned w64 z in
    let again = ap (λ (y : ℤ). Ok y) (int32_again z fits) in
    number_written at number n (field_in int32 number) z low high (int32_small z fits) (λ e. ap (λ (m : ℕ). Ok (int32_of m)) (sym e) ∙ again) (ap (λ (ns : List ℕ). Ok (int32_of (unwrap_or (last_of ns) 0))) (one_int at number n) ∙ again)
field_written int64 at number z low high fits =
    let n = cast_unsigned w64 z in
    let again = ap (λ (y : ℤ). Ok y) (int64_again z fits) in
    number_written at number n (field_in int64 number) z low high (int64_small z fits) (λ e. ap (λ (m : ℕ). Ok (cast_signed w64 m)) (sym e) ∙ again) (ap (λ (ns : List ℕ). Ok (cast_signed w64 (unwrap_or (last_of ns) 0))) (one_int at number n) ∙ again)
field_written bool at number b low high fits =
    flag_written at number b (field_in bool number) b low high (λ e. ap (λ (x : Bool). Ok x) (sym e)) (λ e. ap (λ (ns : List ℕ). Ok (not (eqb (unwrap_or (last_of ns) 0) 0))) (one_int at number 1) ∙ ap (λ (x : Bool). Ok x) (sym e))
field_written text at number b low high fits =
    content_written at number b (field_in text number) b low high fits.1 (λ e. ap (text_from number) (sym e) ∙ text_again number b fits.0) (ap (λ (cs : List (List ℕ)). text_from number (unwrap_or (last_of cs) [])) (one_content at number b) ∙ text_again number b fits.0)
field_written bytes at number b low high fits =
    content_written at number b (field_in bytes number) b low high fits (λ e. ap (λ (c : List ℕ). Ok c) (sym e)) (ap (λ (cs : List (List ℕ)). Ok (unwrap_or (last_of cs) [])) (one_content at number b))
field_written digest at number d low high fits =
    bytes_written at number (digests.spelled d) (field_in digest number) d low high (digest_short d fits) (ap (digest_by number) (one_joined at number (digests.spelled d)) ∙ digest_again number 0 d fits)
field_written optional_digest at number None low high fits = none_written at number (field_in optional_digest number) None refl
field_written optional_digest at number (Some d) low high fits =
    bytes_written at number (digests.spelled d) (field_in optional_digest number) (Some d) low high (digest_short d fits) (ap (optional_by number) (one_joined at number (digests.spelled d)) ∙ ap (λ (r : Result HashAndSize MessageError). r >>= λ x. Ok (Some x)) (digest_again number 0 d fits))
field_written int32_list at number zs low high fits =
    let b = packed_content zs in
    let ns = map (cast_unsigned w64) zs in
    content_written at number b (field_in int32_list number) zs low high fits.1 (λ e. int32s_from number zs (packed_of number []) fits.0 (none_packed number ns (no_packed zs fits.0 e))) (int32s_from number zs (packed_of number (bytes_row at number b ∷ [])) fits.0 (one_packed at number b ns (packed-read at ns (int32s_small zs fits.0))))
field_written text_list at number bs low high fits =
    elements_written at number (flat_map (bytes_field number) bs) (λ b. b) bs (λ index. text_from number) (list_written at number (λ b. b) bs low high (all_from IsText Short (λ b h. h.1) bs fits)) (all_from IsText (λ (b : List ℕ). (index : ℕ) → text_from number b ≡ Ok b) (λ b h index. text_again number b h.0) bs fits)
field_written bytes_list at number bs low high fits =
    let w = list_written at number (λ (b : List ℕ). b) bs low high fits in
    record { fields = w.fields; row = w.row; only = w.only; again = ap (λ (cs : List (List ℕ)). Ok cs) (w.contents ∙ map-id bs) }
field_written digest_list at number ds low high fits =
    elements_written at number (flat_map (digest_spelled number) ds) digests.spelled ds (digest_from number) (list_written at number digests.spelled ds low high (all_from IsDigest (λ (d : HashAndSize). Short (digests.spelled d)) digest_short ds fits))
    (all_from IsDigest (λ (d : HashAndSize). (index : ℕ) → digest_from number index (digests.spelled d) ≡ Ok d) (λ d h index. digest_again number index d h) ds fits)

-- ---- messages of their own

pub one_written : {A : Type 0} (at number : ℕ) (read : List WireField → Result A MessageError) (b : List ℕ) (v : A) → 0 < number → number < 2 ^ 29 → Short b → message_by read b ≡ Ok v → Written at number (bytes_field number b) (one_in read number) v
one_written at number read b v low high short h =
    bytes_written at number b (one_in read number) v low high short (ap (λ (o : Option (List ℕ)). with_fault (inside number 0) (message_by read (unwrap_or o []))) (one_joined at number b) ∙ ap (with_fault (inside number 0)) h)

pub messages_written : {A : Type 0} (at number : ℕ) (read : List WireField → Result A MessageError) (f : A → List ℕ) (vs : List A) → 0 < number → number < 2 ^ 29 → AllByRecursion (λ v. Short (f v) × (message_by read (f v) ≡ Ok v)) vs
    → Written at number (flat_map (λ v. bytes_field number (f v)) vs) (list_in read number) vs
messages_written {A} at number read f vs low high h =
    let P : A → Type 0 = λ v. Short (f v) × (message_by read (f v) ≡ Ok v) in
    elements_written at number (flat_map (λ v. bytes_field number (f v)) vs) f vs (λ index c. with_fault (inside number index) (message_by read c)) (list_written at number f vs low high (all_from P (λ (v : A). Short (f v)) (λ v p. p.0) vs h))
    (all_from P (λ (v : A). (index : ℕ) → with_fault (inside number index) (message_by read (f v)) ≡ Ok v) (λ v p index. ap (with_fault (inside number index)) p.1) vs h)
