use Rattle.std.proofs.Common.{◌≡◌, ◌+◌, length, ◌++◌, ◌∷◌, [], true, Bool, subst, sym, ap, ◌∙◌, refl}
use Rattle.std.specs.Prelude.{Ok}
use Rattle.grpc_calls.specs.Calls.{Calls, GivesFrame, ReadsOn}
use Rattle.grpc_calls.proofs.StepLaws.{reads_more}
use Rattle.grpc_calls.proofs.calls.Calls.read_on.Goals as goal

pub frames-preserved : goal.frames-preserved
frames-preserved c =
    let i = c.frames.invariant in
    let none = c.in_default.ensures.none refl in
    let P : Bool → Type 0 = λ (b : Bool). GivesFrame c.frames.self c.read_frame.new.self (Ok b) in
    let g : GivesFrame c.frames.self c.read_frame.new.self (Ok true) = subst P c.if-not-branch.false c.in_ok-read_frame.ensures.gives in
    let frames = i.frames ++ (g.0, g.1) ∷ [] in
    record {
      frames = frames;
      reads = subst (λ (x : Calls). ReadsOn c.args.self.now frames x) (sym none.1) (reads_more c.args.self.now i.frames c.frames.self g.0 g.1 c.read_frame.new.self i.reads g.2 none.0);
      sound = ap (λ (x : Calls). x.session.fault) none.1 ∙ c.in_ok-read_frame.ensures.sound;
      empty = ap (λ (x : Calls). x.pending) none.1 ∙ none.0;
      count = ap (λ (x : Calls). x.reader.at + length x.reader.rest) none.1 ∙ (c.read_frame.ensures.count ∙ i.count);
      role = ap (λ (x : Calls). x.session.part.role) none.1 ∙ (c.read_frame.ensures.role ∙ i.role);
    }
