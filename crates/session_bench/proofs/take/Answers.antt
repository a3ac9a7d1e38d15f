use Rattle.h2_frames.specs.Spelling.{spelled}
use Rattle.session_bench.proofs.take.Goals as goal

pub on_frame-requires : goal.on_frame-requires
on_frame-requires c = (spelled c.args.frame, c.written_is_read.ensures.spells c.args.frame c.requires.writable c.requires.typed)
