use Rattle.std.proofs.Common.{◌≡◌, ◌∙◌, ℕ, List, ◌<◌, ◌^◌, sym, refl, arith, true}
use Rattle.craq_frames.proofs.Cuts.{all_bytes, partial_is, decoded_frame, decoded_nothing, decoded_error}
use Rattle.craq_frames.proofs.frame.cut_off_frame.Goals as goal

pub returns-then-is_partial_frame-clause-part : goal.returns-then-is_partial_frame-clause-part
returns-then-is_partial_frame-clause-part c = λ e.
    (partial_is c.args.buffer.now.items (all_bytes c.args.buffer.now.items (rw c.as_slice.ensures at c.is_partial_frame.ensures.bytes)) (rw c.as_slice.ensures at (sym c.is_partial_frame.ensures.value ∙ c.if-is_partial_frame.true)), refl)

pub returns-in-Ok-Some-clause-whole : goal.returns-in-Ok-Some-clause-whole
returns-in-Ok-Some-clause-whole c =
    decoded_frame c.frame_codec-codec.result c.decode.new.self c.args.buffer.now.items c.decode.new.src.items c.frame_codec-codec.ensures.layout c.frame_codec-codec.ensures.state
    (all_bytes c.args.buffer.now.items (rw c.as_slice.ensures at c.is_partial_frame.ensures.bytes)) (rw c.as_slice.ensures at (sym c.is_partial_frame.ensures.value ∙ c.if-is_partial_frame.false))
    c.in-Ok-Some.payload (rw c.in-Ok-Some.field-0-is at c.in-Ok-Some.ensures.next)

pub returns-in-Ok-None-clause-part : goal.returns-in-Ok-None-clause-part
returns-in-Ok-None-clause-part c = λ e. let n = rw c.in-Ok-None.field-0-is at c.in-Ok-None.ensures.next in absurd (
    decoded_nothing c.frame_codec-codec.result c.decode.new.self c.args.buffer.now.items c.decode.new.src.items c.frame_codec-codec.ensures.layout c.frame_codec-codec.ensures.state
    (all_bytes c.args.buffer.now.items (rw c.as_slice.ensures at c.is_partial_frame.ensures.bytes)) (rw c.as_slice.ensures at (sym c.is_partial_frame.ensures.value ∙ c.if-is_partial_frame.false))
    n.1 n.0)

pub returns-else-is_out_of_memory-clause-long : goal.returns-else-is_out_of_memory-clause-long
returns-else-is_out_of_memory-clause-long c = λ e.
    decoded_error c.frame_codec-codec.result c.decode.new.self c.args.buffer.now.items c.decode.new.src.items c.frame_codec-codec.ensures.layout c.frame_codec-codec.ensures.state
    (all_bytes c.args.buffer.now.items (rw c.as_slice.ensures at c.is_partial_frame.ensures.bytes)) (rw c.as_slice.ensures at (sym c.is_partial_frame.ensures.value ∙ c.if-is_partial_frame.false))
    c.in-Err.e (λ k. let t = c.is_out_of_memory.ensures.1 k in let f = sym c.if-is_out_of_memory.false ∙ t in absurd cc) c.in-Err.ensures.next
