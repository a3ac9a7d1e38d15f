use Rattle.std.proofs.Common.{◌≡◌, ℕ, refl, subst, sym}
use Rattle.std.specs.Prelude.{nat_lt, ◌&&◌, if◌then◌else◌}
use Rattle.h2_session.specs.Faults.{is_server}
use Rattle.h2_session.specs.Rows.{Rises}
use Rattle.h2_session.proofs.RowLaws.{Rises-higher, higher_by, opens_by, opens_none, top_none}
use Rattle.h2_session.proofs.machine.Machine.on_headers.Goals as goal

pub invariant_of-self-clause-opening : goal.invariant_of-self-clause-opening
invariant_of-self-clause-opening c = let m = c.args.self.now in opens_none m.role m.block _ c.requires.block

pub invariant_of-self-clause-rises : goal.invariant_of-self-clause-rises
invariant_of-self-clause-rises c =
    let m = c.args.self.now in
    let h = c.if_begun-self.result in
    let r = subst (λ (x : ℕ). Rises 0 m.streams x) (top_none m.block m.highest c.requires.block) m.rises in
    let l = higher_by (is_server m.role) (nat_lt m.highest c.args.stream) c.begins_stream-begins.result m.highest c.args.stream h refl c.begins_stream-begins.ensures c.if_begun-self.ensures in
    subst (λ (x : ℕ). Rises 0 m.streams x) (sym (top_none m.block h c.requires.block)) (Rises-higher 0 m.streams m.highest h l r)

pub on_block-requires-clause-opens : goal.on_block-requires-clause-opens
on_block-requires-clause-opens c =
    let m = c.args.self.now in
    let h = c.if_begun-self.result in
    let b = c.begins_stream-begins.result in
    let r = subst (λ (x : ℕ). Rises 0 m.streams x) (top_none m.block m.highest c.requires.block) m.rises in
    opens_by m.role m.streams m.highest h c.new.result b (is_server m.role) (nat_lt m.highest c.new.result) refl refl
    (subst (λ (n : ℕ). b ≡ (is_server m.role && nat_lt m.highest n)) (sym c.new.ensures) c.begins_stream-begins.ensures)
    (subst (λ (n : ℕ). h ≡ (if b then n else m.highest)) (sym c.new.ensures) c.if_begun-self.ensures) r
