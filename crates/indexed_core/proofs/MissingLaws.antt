-- A set of digests that are inserted in the order of their mentions.
use Rattle.std.proofs.Common.{◌≡◌, ℕ, ◌+◌, ◌<◌, Bool, true, inl, inr, List, [], ◌∷◌, ◌++◌, length, get_or, drop, ap, ◌∙◌}
use Rattle.std.proofs.lemmas.Bool.{cases_Bool, cond-true, cond-false}
use Rattle.indexmap.specs.IndexSet.{insert_key}
use Rattle.digest_types.specs.Name.{HashAndSize}
use Rattle.store_core.specs.State.{same, is_among}
use Rattle.store_core.proofs.FirstMentions.{so_far, is_known, is_new}

-- one that counts is inserted
pub inserts : (p : HashAndSize → Bool) (ds next all : List HashAndSize) (i : ℕ) (d : HashAndSize) → i < length all → d ≡ get_or all i d → p d ≡ true → next ≡ insert_key same ds d
    → so_far p next (drop (i + 1) all) ≡ so_far p ds (drop i all)
inserts p ds next all i d lt at e is =
    ap (λ (xs : List HashAndSize). so_far p xs (drop (i + 1) all)) is
    ∙ elim (cases_Bool (is_among ds d)) [
      | inl known ↦ ap (λ (xs : List HashAndSize). so_far p xs (drop (i + 1) all)) (cond-true (is_among ds d) ds (ds ++ d ∷ []) known) ∙ is_known p ds all i d lt at e known
      | inr new ↦ ap (λ (xs : List HashAndSize). so_far p xs (drop (i + 1) all)) (cond-false (is_among ds d) ds (ds ++ d ∷ []) new) ∙ is_new p ds all i d lt at e new
    ]
