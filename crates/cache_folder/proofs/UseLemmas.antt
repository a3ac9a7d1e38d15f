-- The text of a list of use is of that list alone.
use Rattle.std.proofs.Common.{◌≡◌, ◌≢◌, ℕ, zero, suc, ◌+◌, ◌<◌, ◌≤◌, Bool, true, false, not, ◌&&◌, eqb, ltb, List, [], ◌∷◌, ◌++◌, length, get_or, take, drop, Some, None, Result, Ok, Err, refl, sym, ap, ◌∙◌, subst, append_assoc, inl, inr, arith, drop-cons}
use Rattle.std.specs.Prelude.{position, nat_eq, IfNone}
use Rattle.std.specs.Cmp.Lexicographic.{pointwise, same_text}
use Rattle.std.specs.Result.{result_ok}
use Rattle.std.specs.Str.{IsUtf8}
use Rattle.std.specs.Fmt.{decimal}
use Rattle.std.specs.List.{AllByRecursion, IsDistinct, list_all, list_any, position_or_len}
use Rattle.std.proofs.lemmas.Bool.{and_parts, eqb-true, lt-ltb, ltb-true, or_cases}
use Rattle.std.proofs.lemmas.List.{take-append-drop, append-nil, length-append}
use Rattle.std.proofs.Math.Seq.{take-append_seam, drop-append_seam}
use Rattle.std.proofs.lemmas.List.Folds.{list_all-append}
use Rattle.std.proofs.lemmas.List.Quantifiers.{position-Some}
use Rattle.std.proofs.lemmas.Fmt.{digits_decimal}
use Rattle.std.proofs.lemmas.Map.Keys.{IsDistinct-head, IsDistinct-tail}
use Rattle.std.proofs.lemmas.Str.{IsUtf8-from_ascii}
use Rattle.indexmap.specs.IndexSet.{insert_key}
use Rattle.hex.specs.Hex.{encode_lower}
use Rattle.digest_types.specs.Name.{HashAndSize}
use Rattle.digest_types.specs.declared.error.DigestError.{DigestError}
use Rattle.digest_types.specs.Digest.{IsDigest, printed}
use Rattle.digest_types.specs.Hex.{is_lower_digit}
use Rattle.digest_types.specs.Parsing.{is_digit, parsed}
use Rattle.digest_types.proofs.HexText.{encode_lower-digits}
use Rattle.digest_types.proofs.Decimals.{AreDigits, numerals}
use Rattle.digest_types.proofs.PrintedText.{printed-parsed}
use Rattle.digest_types.proofs.Written.{encoded_len}
use Rattle.store_core.specs.State.{same, DistinctDigests}
use Rattle.store_core.proofs.Same.{equal_from_same, other_from_not_same}
use Rattle.cache_folder.specs.UseList.{line, lines, first_line, last_line, IsUseText}

-- ---- the bytes of a digest's text

-- a byte of ASCII behind the newline
abbrev is_plain : ℕ → Bool
is_plain c = ltb 10 c && ltb c 128

digit_plain : (c : ℕ) → is_digit c ≡ true → is_plain c ≡ true
digit_plain c h = grind arith

lower_plain : (c : ℕ) → is_lower_digit c ≡ true → is_plain c ≡ true
lower_plain c h = grind arith

all_plain : (p : ℕ → Bool) → ((c : ℕ) → p c ≡ true → is_plain c ≡ true) → (text : List ℕ) → list_all p text ≡ true → list_all is_plain text ≡ true
all_plain p plain [] h = refl
all_plain p plain (c ∷ cs) h =
    let parts = and_parts (p c) (list_all p cs) h in
    rw (plain c parts.0, all_plain p plain cs parts.1) refl

printed_plain : (d : HashAndSize) → IsDigest d → list_all is_plain (printed d) ≡ true
printed_plain d is =
    let hash = all_plain is_lower_digit lower_plain (encode_lower d.hash) (encode_lower-digits d.hash is.bytes) in
    let size : AreDigits (decimal d.size) = digits_decimal numerals d.size (omega (arith, is.size)) in
    list_all-append is_plain (encode_lower d.hash) (47 ∷ decimal d.size)
    ∙ rw (hash, all_plain is_digit digit_plain (decimal d.size) size) refl

-- ---- the first newline

abbrev pub is_newline : ℕ → Bool
is_newline c = eqb c 10

plain_no_newline : (c : ℕ) → is_plain c ≡ true → is_newline c ≡ false
plain_no_newline c h = grind arith

length_first : (l rest : List ℕ) → list_all is_plain l ≡ true → position_or_len is_newline (l ++ (10 ∷ rest)) ≡ length l
length_first [] rest h = refl
length_first (c ∷ cs) rest h =
    let parts = and_parts (is_plain c) (list_all is_plain cs) h in
    rw (plain_no_newline c parts.0, length_first cs rest parts.1) (omega arith)

pub first_line_end : (text l rest : List ℕ) → list_all is_plain l ≡ true → text ≡ l ++ (10 ∷ rest) → position is_newline text ≡ Some (length l)
first_line_end text l rest plain e =
    let at : position_or_len is_newline text ≡ length l = ap (position_or_len is_newline) e ∙ length_first l rest plain in
    let short : length l < length text = omega (arith, ap length e, length-append l (10 ∷ rest)) in
    rw (at, lt-ltb (length l) (length text) short) refl

-- a newline cuts the text
pub cut_at : (text : List ℕ) (end : ℕ) → position is_newline text ≡ Some end → (end < length text) × (text ≡ take end text ++ (10 ∷ drop (end + 1) text))
cut_at text end e =
    let p = position-Some is_newline text end 0 e in
    let byte : get_or text end 0 ≡ 10 = eqb-true (get_or text end 0) 10 p.1 in
    let rest : drop end text ≡ get_or text end 0 ∷ drop (suc end) text = drop-cons text end 0 p.0 in
    let one : suc end ≡ end + 1 = omega arith in
    let next : drop (suc end) text ≡ drop (end + 1) text = ap (λ (n : ℕ). drop n text) one in
    (p.0, sym (take-append-drop end text) ∙ ap (λ (x : List ℕ). take end text ++ x) (rest ∙ rw (byte, next) refl))

-- ---- lines

line_then : (d : HashAndSize) (rest : List ℕ) → line d ++ rest ≡ printed d ++ (10 ∷ rest)
line_then d rest = append_assoc (printed d) (10 ∷ []) rest

printed_apart : (d e : HashAndSize) → IsDigest d → IsDigest e → printed d ≡ printed e → d ≡ e
printed_apart d e is is' h =
    let both : Ok d ≡ Ok e = sym (printed-parsed d is) ∙ ap parsed h ∙ printed-parsed e is' in
    cc

-- the first line of a text and its rest
pub same_line : (d e : HashAndSize) (a b : List ℕ) → IsDigest d → IsDigest e → line d ++ a ≡ line e ++ b → (d ≡ e) × (a ≡ b)
same_line d e a b is is' h =
    let left = line_then d a in
    let right = line_then e b in
    let text : printed d ++ (10 ∷ a) ≡ printed e ++ (10 ∷ b) = cc in
    let at = sym (first_line_end (printed d ++ (10 ∷ a)) (printed d) a (printed_plain d is) refl) ∙ first_line_end (printed d ++ (10 ∷ a)) (printed e) b (printed_plain e is') text in
    let long : length (printed d) ≡ length (printed e) = cc in
    let words : printed d ≡ printed e =
    sym (take-append_seam (printed d) (10 ∷ a)) ∙ ap (take (length (printed d))) text ∙ ap (λ (n : ℕ). take n (printed e ++ (10 ∷ b))) long ∙ take-append_seam (printed e) (10 ∷ b) in
    let rests : 10 ∷ a ≡ 10 ∷ b =
    sym (drop-append_seam (printed d) (10 ∷ a)) ∙ ap (drop (length (printed d))) text ∙ ap (λ (n : ℕ). drop n (printed e ++ (10 ∷ b))) long ∙ drop-append_seam (printed e) (10 ∷ b) in
    (printed_apart d e is is' words, cc)

-- the last line is no digest's: its second letter is no hex digit
no_hex : (hash rest more : List ℕ) → list_all is_lower_digit hash ≡ true → 2 ≤ length hash → 101 ∷ 110 ∷ more ≢ hash ++ rest
no_hex [] rest more lower long e = omega arith
no_hex (a ∷ []) rest more lower long e = omega arith
no_hex (a ∷ b ∷ hash) rest more lower long e =
    let second : 110 ≡ b = cc in
    let parts = and_parts (is_lower_digit a) (list_all is_lower_digit (b ∷ hash)) lower in
    let digit = and_parts (is_lower_digit b) (list_all is_lower_digit hash) parts.1 in
    let no : is_lower_digit 110 ≡ true = ap is_lower_digit second ∙ digit.0 in
    cc

pub end_is_no_line : (count : ℕ) (d : HashAndSize) (rest : List ℕ) → IsDigest d → last_line count ≢ line d ++ rest
end_is_no_line count d rest is e =
    let hash = encode_lower d.hash in
    no_hex hash ((47 ∷ decimal d.size) ++ (10 ∷ rest)) (100 ∷ 32 ∷ (decimal count ++ (10 ∷ []))) (encode_lower-digits d.hash is.bytes) (omega (arith, encoded_len d is))
    (e ∙ line_then d rest ∙ append_assoc hash (47 ∷ decimal d.size) (10 ∷ rest))

-- ---- lists of lines

pub lines_push : (ds : List HashAndSize) (d : HashAndSize) → lines (ds ++ d ∷ []) ≡ lines ds ++ line d
lines_push [] d = append-nil (line d)
lines_push (x ∷ ds) d = ap (λ (t : List ℕ). line x ++ t) (lines_push ds d) ∙ sym (append_assoc (line x) (lines ds) (line d))

-- what a text of lines goes on with
pub record GoesOn (before all : List HashAndSize) (rest last : List ℕ) : Type 0 where
  pub more : List HashAndSize
  pub all_is : all ≡ before ++ more
  pub rest_is : rest ≡ lines more ++ last
  pub digests : AllByRecursion IsDigest more

cons_same : (d x : HashAndSize) (ds xs : List HashAndSize) → d ≡ x → xs ≡ ds → x ∷ xs ≡ d ∷ ds
cons_same d x ds xs e e' = cc

pub goes_on : (count : ℕ) (before all : List HashAndSize) (rest : List ℕ) → AllByRecursion IsDigest before → AllByRecursion IsDigest all → lines before ++ rest ≡ lines all ++ last_line count → GoesOn before all rest (last_line count)
goes_on count [] all rest is is' e = record { more = all; all_is = refl; rest_is = e; digests = is' }
goes_on count (d ∷ before) [] rest is is' e =
    absurd (end_is_no_line count d (lines before ++ rest) is.0 (sym e ∙ append_assoc (line d) (lines before) rest))
goes_on count (d ∷ before) (x ∷ all) rest is is' e =
    let first = same_line d x (lines before ++ rest) (lines all ++ last_line count) is.0 is'.0 (sym (append_assoc (line d) (lines before) rest) ∙ e ∙ append_assoc (line x) (lines all) (last_line count)) in
    let later = goes_on count before all rest is.1 is'.1 first.1 in
    record { more = later.more; all_is = cons_same d x (before ++ later.more) all first.0 later.all_is; rest_is = later.rest_is; digests = later.digests }

-- ---- one line

plain_ascii : (text : List ℕ) → list_all is_plain text ≡ true → (i : ℕ) → get_or text i 0 < 128
plain_ascii [] h i = omega arith
plain_ascii (c ∷ cs) h zero =
    let parts = and_parts (is_plain c) (list_all is_plain cs) h in
    ltb-true c 128 (and_parts (ltb 10 c) (ltb c 128) parts.0).1
plain_ascii (c ∷ cs) h (suc i) = plain_ascii cs (and_parts (is_plain c) (list_all is_plain cs) h).1 i

pub printed_utf8 : (d : HashAndSize) → IsDigest d → IsUtf8 (printed d)
printed_utf8 d is = IsUtf8-from_ascii (printed d) (plain_ascii (printed d) (printed_plain d is))

pub no_digest : (text : List ℕ) (r : Result HashAndSize DigestError) → r ≡ parsed text → IfNone (result_ok r) ((d : HashAndSize) → IsDigest d → text ≢ printed d)
no_digest text (Ok d) e = tt
no_digest text (Err f) e = λ d is h. absurd (let there : parsed text ≡ Ok d = ap parsed h ∙ printed-parsed d is in cc)

pub no_line : (text : List ℕ) → position is_newline text ≡ None → (d : HashAndSize) (rest : List ℕ) → IsDigest d → text ≢ line d ++ rest
no_line text none d rest is e =
    let some = first_line_end text (printed d) rest (printed_plain d is) (e ∙ line_then d rest) in
    cc

pub other_line : (text : List ℕ) (end : ℕ) → position is_newline text ≡ Some end → ((d : HashAndSize) → IsDigest d → take end text ≢ printed d) → (d : HashAndSize) (rest : List ℕ) → IsDigest d → text ≢ line d ++ rest
other_line text end at none d rest is e =
    let whole = e ∙ line_then d rest in
    let some : Some end ≡ Some (length (printed d)) = sym at ∙ first_line_end text (printed d) rest (printed_plain d is) whole in
    let long : end ≡ length (printed d) = cc in
    none d is (ap (λ (n : ℕ). take n text) long ∙ ap (take (length (printed d))) whole ∙ take-append_seam (printed d) (10 ∷ rest))

pub line_cut : (text : List ℕ) (end : ℕ) (d : HashAndSize) → position is_newline text ≡ Some end → take end text ≡ printed d → text ≡ line d ++ drop (end + 1) text
line_cut text end d at e =
    (cut_at text end at).1 ∙ ap (λ (t : List ℕ). t ++ (10 ∷ drop (end + 1) text)) e ∙ sym (line_then d (drop (end + 1) text))

-- ---- distinct digests

each_weaker : {X : Type 0} (P Q : X → Type 0) → ((x : X) → P x → Q x) → (xs : List X) → AllByRecursion P xs → AllByRecursion Q xs
each_weaker P Q f [] h = tt
each_weaker P Q f (x ∷ xs) h = (f x h.0, each_weaker P Q f xs h.1)

pub each_push : {X : Type 0} (P : X → Type 0) (xs : List X) (x : X) → AllByRecursion P xs → P x → AllByRecursion P (xs ++ x ∷ [])
each_push P [] x h p = (p, tt)
each_push P (y ∷ xs) x h p = (h.0, each_push P xs x h.1 p)

pub distinct_from : (ds : List HashAndSize) → IsDistinct same ds → DistinctDigests ds
distinct_from [] h = tt
distinct_from (d ∷ ds) h =
    (each_weaker (λ other. same d other ≡ false) (λ other. other ≢ d) (λ other e q. other_from_not_same d other e (sym q)) ds (IsDistinct-head same d ds h), distinct_from ds (IsDistinct-tail same d ds h))

each_there : (P : HashAndSize → Type 0) (ds : List HashAndSize) (d : HashAndSize) (more : List HashAndSize) → AllByRecursion P (ds ++ (d ∷ more)) → P d
each_there P [] d more h = h.0
each_there P (x ∷ ds) d more h = each_there P ds d more h.1

-- a digest that was there already doesn't follow
pub not_again : (ds : List HashAndSize) (d : HashAndSize) (more : List HashAndSize) → list_any (same d) ds ≡ true → DistinctDigests (ds ++ (d ∷ more)) → ⊥
not_again [] d more there h = cc
not_again (x ∷ ds) d more there h =
    elim (or_cases (same d x) (list_any (same d) ds) there) [
      | inl here ↦ each_there (λ other. other ≢ x) ds d more h.0 (equal_from_same d x here)
      | inr later ↦ not_again ds d more later h.1
    ]

-- ---- whole texts

pub body_is : (text whole : List ℕ) (order : List HashAndSize) → text ≡ first_line ++ whole → IsUseText order text → whole ≡ lines order ++ last_line (length order)
body_is text whole order e u =
    ap (drop 7) (sym e ∙ u.text_is ∙ append_assoc first_line (lines order) (last_line (length order)))

-- where the lines are read up to a rest, a text's list goes on there
reads_on : (text whole rest : List ℕ) (ds order : List HashAndSize) → text ≡ first_line ++ whole → lines ds ++ rest ≡ whole → AllByRecursion IsDigest ds → IsUseText order text → GoesOn ds order rest (last_line (length order))
reads_on text whole rest ds order e so_far is u =
    goes_on (length order) ds order rest is u.digests (so_far ∙ body_is text whole order e u)

pub is_repeated : (text whole rest after : List ℕ) (ds : List HashAndSize) (d : HashAndSize) → text ≡ first_line ++ whole → lines ds ++ rest ≡ whole → AllByRecursion IsDigest ds → IsDigest d → rest ≡ line d ++ after → list_any (same d) ds ≡ true → (order : List HashAndSize) → IsUseText order text → ⊥
is_repeated text whole rest after ds d e so_far is one next there order u =
    let on = reads_on text whole rest ds order e so_far is u in
    goes on.more on.all_is on.rest_is on.digests
  where
    goes : (more : List HashAndSize) → order ≡ ds ++ more → rest ≡ lines more ++ last_line (length order) → AllByRecursion IsDigest more → ⊥
    goes [] all rests each = end_is_no_line (length order) d after one (sym rests ∙ next)
    goes (x ∷ more) all rests each =
        let first = same_line d x after (lines more ++ last_line (length order)) one each.0 (sym next ∙ rests ∙ append_assoc (line x) (lines more) (last_line (length order))) in
        let distinct : DistinctDigests (ds ++ (x ∷ more)) = subst DistinctDigests all u.distinct in
        not_again ds d more there (subst (λ (y : HashAndSize). DistinctDigests (ds ++ (y ∷ more))) (sym first.0) distinct)

-- where no line follows, the rest is the last line
ends : (rest : List ℕ) (ds order more : List HashAndSize) → ((d : HashAndSize) (after : List ℕ) → IsDigest d → rest ≢ line d ++ after) → order ≡ ds ++ more → rest ≡ lines more ++ last_line (length order) → AllByRecursion IsDigest more → (order ≡ ds) × (rest ≡ last_line (length ds))
ends rest ds order [] none all rests each =
    let same_all : order ≡ ds = all ∙ append-nil ds in
    (same_all, rests ∙ ap (λ (xs : List HashAndSize). last_line (length xs)) same_all)
ends rest ds order (x ∷ more) none all rests each =
    absurd (none x (lines more ++ last_line (length order)) each.0 (rests ∙ append_assoc (line x) (lines more) (last_line (length order))))

pub is_unended : (text whole rest : List ℕ) (ds : List HashAndSize) → text ≡ first_line ++ whole → lines ds ++ rest ≡ whole → AllByRecursion IsDigest ds → ((d : HashAndSize) (after : List ℕ) → IsDigest d → rest ≢ line d ++ after) → rest ≢ last_line (length ds) → (order : List HashAndSize) → IsUseText order text → ⊥
is_unended text whole rest ds e so_far is none unended order u =
    let on = reads_on text whole rest ds order e so_far is u in
    unended (ends rest ds order on.more none on.all_is on.rest_is on.digests).1

pub is_text : (text whole rest : List ℕ) (ds : List HashAndSize) → text ≡ first_line ++ whole → lines ds ++ rest ≡ whole → AllByRecursion IsDigest ds → DistinctDigests ds → rest ≡ last_line (length ds) → IsUseText ds text
is_text text whole rest ds e so_far is distinct end = record {
  digests = is;
  distinct = distinct;
  text_is = e ∙ ap (λ (t : List ℕ). first_line ++ t) (sym so_far ∙ ap (λ (t : List ℕ). lines ds ++ t) end) ∙ sym (append_assoc first_line (lines ds) (last_line (length ds)));
}

pub one_text : (text whole rest : List ℕ) (ds order : List HashAndSize) → text ≡ first_line ++ whole → lines ds ++ rest ≡ whole → AllByRecursion IsDigest ds → ((d : HashAndSize) (after : List ℕ) → IsDigest d → rest ≢ line d ++ after) → IsUseText order text → ds ≡ order
one_text text whole rest ds order e so_far is none u =
    let on = reads_on text whole rest ds order e so_far is u in
    sym (ends rest ds order on.more none on.all_is on.rest_is on.digests).0

-- ---- what the code answers

pub from_prefix : (text rest : List ℕ) → pointwise nat_eq (take 7 text) first_line ≡ true → rest ≡ drop 7 text → text ≡ first_line ++ rest
from_prefix text rest same_front after =
    let front : take 7 text ≡ first_line = same_text (take 7 text) first_line (sym same_front) in
    sym (take-append-drop 7 text) ∙ ap (λ (t : List ℕ). t ++ drop 7 text) front ∙ ap (λ (t : List ℕ). first_line ++ t) (sym after)

missing : (b new : Bool) → new ≡ not b → new ≡ true → b ≡ false
missing true new e is = absurd cc
missing false new e is = refl

there : (b new : Bool) → new ≡ not b → new ≡ false → b ≡ true
there true new e is = refl
there false new e is = absurd cc

-- a set took a digest, which is the last one then
pub pushed : (ds : List HashAndSize) (d : HashAndSize) (after : List HashAndSize) (new : Bool) → new ≡ not (list_any (same d) ds) → new ≡ true → after ≡ insert_key same ds d → after ≡ ds ++ d ∷ []
pushed ds d after new added is keys =
    let none : list_any (same d) ds ≡ false = missing (list_any (same d) ds) new added is in
    keys ∙ rw none refl

-- a set had a digest
pub was_there : (ds : List HashAndSize) (d : HashAndSize) (new : Bool) → new ≡ not (list_any (same d) ds) → new ≡ false → list_any (same d) ds ≡ true
was_there ds d new added is = there (list_any (same d) ds) new added is
