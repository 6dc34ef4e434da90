use Rattle.std.proofs.Common.{ℕ, List, take, drop, sym, ◌∙◌, subst, arith, length-drop}
use Rattle.std.proofs.lemmas.List.{take_rest}
use Rattle.std.specs.Io.KnownBytes.{Appends}
use Rattle.craq_frames.proofs.Known.{appends_then, take_more}
use Rattle.craq_front.proofs.buffers.write_all.Goals as goal

pub loop-at-preserved : goal.loop-at-preserved
loop-at-preserved g c =
    let bytes = c.args.bytes.now in
    let at = c.loop-at.at in
    let n = c.in-Ok.n in
    let h = rw (take_rest bytes at) at c.in-Ok.ensures.took in
    let v = c.loop-at.invariant in
    record {
      within = omega (arith, h.0, length-drop at bytes, v.within);
      written = subst (λ (x : List ℕ). Appends (g.W.Sink.contents c.args.writer.now) (g.W.Sink.contents c.write.new.self) x) (sym (take_more at n bytes))
          (appends_then (g.W.Sink.contents c.args.writer.now) (g.W.Sink.contents c.loop-at.writer) (g.W.Sink.contents c.write.new.self) (take at bytes) (take n (drop at bytes)) v.written h.2);
      counted = h.3 ∙ v.counted;
    }
