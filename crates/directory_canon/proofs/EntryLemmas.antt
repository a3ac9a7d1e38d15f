-- Reading one node: its texts, and what a look-up of a field says.
use Rattle.std.proofs.Common.{◌≡◌, ◌↔◌, ℕ, Bool, true, false, List, Option, Some, None, Err, refl, sym, ap, ◌∙◌}
use Rattle.std.specs.Option.{IsSome}
use Rattle.std.specs.Str.{IsUtf8, is_utf8}
use Rattle.std.proofs.lemmas.Str.{IsUtf8-from_is_utf8, is_utf8-from_IsUtf8}
use Rattle.proto_wire.specs.Field.{WireField}
use Rattle.directory_canon.specs.declared.error.DirError.TheVariants as errors
use Rattle.directory_canon.specs.Reading.{content_at, name_in, target_in}
use Rattle.directory_canon.specs.Node.{is_name, is_target}

-- text is UTF-8
pub ruleset texts = (is_utf8-from_IsUtf8)

told : (b : Bool) → (b ≡ true → ⊥) → b ≡ false
told true h = absurd (h refl)
told false h = refl

false_is : false ≡ true → ⊥
false_is e = cc

no_text : (bytes : List ℕ) → (IsUtf8 bytes → ⊥) → is_utf8 bytes ≡ false
no_text bytes h = told (is_utf8 bytes) (λ e. h (IsUtf8-from_is_utf8 bytes e))

-- what is no text is no name
no_name : {X : Type 0} (bytes : List ℕ) (found : Option X) → IsSome found ↔ IsUtf8 bytes → found ≡ None → is_name bytes ≡ false
unfolding is_name
no_name bytes None h e = rw (no_text bytes (λ text. absurd (false_is (h.1 text)))) refl
no_name bytes (Some x) h e = absurd cc

pub no_name_in : {X : Type 0} (at : ℕ) (fs : List WireField) (content : List ℕ) (found : Option X) → content ≡ content_at 1 fs → IsSome found ↔ IsUtf8 content → found ≡ None → name_in at fs ≡ Err (errors.BadName at)
no_name_in at fs content found is h e =
    let bad : is_name (content_at 1 fs) ≡ false = sym (ap is_name is) ∙ no_name content found h e in
    rw bad refl

-- what is no text is no target
no_target : {X : Type 0} (bytes : List ℕ) (found : Option X) → IsSome found ↔ IsUtf8 bytes → found ≡ None → is_target bytes ≡ false
unfolding is_target
no_target bytes None h e = rw (no_text bytes (λ text. absurd (false_is (h.1 text)))) refl
no_target bytes (Some x) h e = absurd cc

pub no_target_in : {X : Type 0} (at : ℕ) (fs : List WireField) (content : List ℕ) (found : Option X) → content ≡ content_at 2 fs → IsSome found ↔ IsUtf8 content → found ≡ None → target_in at fs ≡ Err (errors.BadTarget at)
no_target_in at fs content found is h e =
    let bad : is_target (content_at 2 fs) ≡ false = sym (ap is_target is) ∙ no_target content found h e in
    rw bad refl
