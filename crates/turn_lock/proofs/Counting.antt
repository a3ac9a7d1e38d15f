-- Each step of a diary's table keeps its rule.
use Rattle.std.proofs.Common.{◌≡◌, ℕ, ◌+◌, ◌≤◌, ◌%◌, ◌^◌, zero, suc, List, [], ◌∷◌, ◌++◌, length, set, get_or, sym, refl, ap, ◌∙◌, subst, arith}
use Rattle.std.proofs.Math.Nat.{mod-eq_of_lt}
use mathlib.Core.Option.{some, some-injective, some-ne-none}
use lib.ListN.{get_elem?}
use Rattle.atomic_table.specs.Table.{Me, keeps, Allows}
use Rattle.store_core.specs.History.{Entry, state, IsLegalAt, Legal}
use Rattle.store_core.specs.Step.{step}
use Rattle.store_core.specs.State.{State}
use Rattle.turn_lock.specs.Told.{Told}
use Rattle.turn_lock.specs.Counted.{IsCounted}

-- a history with one more entry
pub legal_more : (s : State) (entries : List Entry) (entry : Entry) → Legal s entries → IsLegalAt (state s entries) entry → Legal s (entries ++ entry ∷ [])
unfolding state
legal_more s [] entry legal at = (at, tt)
legal_more s (first ∷ entries) entry legal at = (legal.0, legal_more (step s first.owner first.event).1 entries entry legal.1 at)

-- the seat has the one view that there is
only_view : (here old new : Told) (id : ℕ) → get_elem? (here ∷ []) id ≡ some old → (here ≡ old) × (set (here ∷ []) id new ≡ new ∷ [])
only_view here old new zero at = (some-injective here old at, refl)
only_view here old new (suc id) at = absurd (some-ne-none old (sym at))

-- the word that counts `n` entries counts `m` once `k` are added
added : (words : List ℕ) (n k m : ℕ) → words ≡ n ∷ [] → m ≡ n + k → m ≤ 2 ^ 63 → set words 0 ((get_or words 0 0 + k) % 2 ^ 64) ≡ m ∷ []
added words n k m is sum room =
    let now : (n + k) % 2 ^ 64 ≡ m = mod-eq_of_lt (omega (arith, sum, room)) ∙ sym sum in
    subst (λ ws. set ws 0 ((get_or ws 0 0 + k) % 2 ^ 64) ≡ m ∷ []) (sym is) (ap (λ x. x ∷ []) now)

-- A step may add `k` to the word and tell the seat of a history that has `k` more entries.
pub may_learn : (slots id k : ℕ) (me : Me (Unit {0}) Told) (new : Told) → me.1 ≡ [] → Legal new.start new.seen → length new.seen ≡ length me.0.seen + k → length new.seen ≤ 2 ^ 63
    → Allows IsCounted slots id me 0 (λ n. (n + k) % 2 ^ 64) (λ n after. after ≡ (new, []))
may_learn slots id k me new bare legal sum room s held _ at _ =
    let one = only_view held.told me.0 new id (subst (λ views. get_elem? views id ≡ some me.0) held.views at) in
    let counted : length new.seen ≡ length held.told.seen + k = sum ∙ ap (λ (t : Told). length t.seen + k) (sym one.0) in (
      new,
      keeps,
      tt,
      record {
        told = new;
        views = ap (λ views. set views id new) held.views ∙ one.1;
        words = added s.words (length held.told.seen) k (length new.seen) held.words counted room;
        legal = legal;
        room = room;
      },
      ap (λ carried. (new, carried)) bare,
    )
