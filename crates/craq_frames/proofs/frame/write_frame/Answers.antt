use Rattle.std.proofs.Common.{List, ℕ, ap, ◌∙◌, ◌++◌}
use Rattle.craq_frames.proofs.Frames.{framed_by}
use Rattle.craq_frames.proofs.frame.write_frame.Goals as goal

pub returns-in-Ok-clause-ok : goal.returns-in-Ok-clause-ok
returns-in-Ok-clause-ok c =
    let e = c.in-Ok.ensures.ok in
    e.2 ∙ ap (λ (f : List ℕ). c.args.out.now.items ++ f) (framed_by _ c.frame_codec-codec.ensures.layout c.args.payload e.0 e.1.0)
