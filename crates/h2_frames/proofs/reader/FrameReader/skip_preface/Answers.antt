use Rattle.std.proofs.Common.{◌≤◌, length, sym, subst, ◌∙◌}
use Rattle.h2_frames.specs.Stream.{Pending}
use Rattle.h2_frames.proofs.ReaderLemmas.{whole_long, long_behind, is_whole}
use Rattle.h2_frames.proofs.reader.FrameReader.skip_preface.Goals as goal

pub advance-requires : goal.advance-requires
advance-requires c =
    let long = whole_long c.self.inside.at _ (sym c.preface_in.ensures ∙ is_whole _ _ c.in-Ok-true.is c.in-Ok-true.field-0-test) in
    subst (λ (p : Pending). 24 ≤ length p.rest) c.self.view_is (long_behind 24 _ c.self.inside.start _ _ long c.deref.ensures.value)
