use Rattle.std.proofs.Common.{◌≡◌, ◌++◌, List, ℕ, subst}
use Rattle.std.specs.Prelude.{OnOk}
use Rattle.h2_frames.specs.Spelling.{framed, spelled}
use Rattle.h2_frames.proofs.write.push_frame.Goals as goal

pub returns-in-Reset-clause-ok : goal.returns-in-Reset-clause-ok
unfolding spelled
returns-in-Reset-clause-ok c =
    rw c.in-Reset.is (subst (λ (p : List ℕ). OnOk c.push_framed-in-Reset.result (c.push_framed-in-Reset.new.out ≡ c.args.out.now ++ framed 3 0 c.in-Reset.stream p)) c.to_be_bytes.ensures c.push_framed-in-Reset.ensures.ok)

pub returns-in-GoAway-clause-ok : goal.returns-in-GoAway-clause-ok
unfolding spelled
returns-in-GoAway-clause-ok c =
    rw c.in-GoAway.is (subst (λ (p : List ℕ). OnOk c.push_framed-in-GoAway.result (c.push_framed-in-GoAway.new.out ≡ c.args.out.now ++ framed 7 0 0 p)) c.two_numbers.ensures c.push_framed-in-GoAway.ensures.ok)

pub returns-in-Window-clause-ok : goal.returns-in-Window-clause-ok
unfolding spelled
returns-in-Window-clause-ok c =
    rw c.in-Window.is (subst (λ (p : List ℕ). OnOk c.push_framed-in-Window.result (c.push_framed-in-Window.new.out ≡ c.args.out.now ++ framed 8 0 c.in-Window.stream p)) c.to_be_bytes-in-Window.ensures c.push_framed-in-Window.ensures.ok)
