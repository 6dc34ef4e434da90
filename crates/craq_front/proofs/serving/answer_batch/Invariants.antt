use Rattle.std.proofs.Common.{length, List, None, ℕ, ◌+◌, ◌++◌, ◌≡◌}
use Rattle.craq_frames.specs.Serving.{Served}
use Rattle.craq_front.proofs.serving.answer_batch.Given as goal

abbrev pub invariant-loop-alloc : goal.invariant-loop-alloc
invariant-loop-alloc g l =
    (unsent : List ℕ) × (n : ℕ) × (l.codec.buffers.output.items ≡ l.fn.codec.buffers.output.items ++ unsent) × (l.frames ≡ l.fn.frames + n)
    × (l.frames ≡ l.fn.frames → l.codec.buffers.output.items ≡ l.fn.codec.buffers.output.items)
    × Served g.D.Door.turn l.fn.door l.fn.codec.buffers.input.items l.codec.buffers.input.items unsent n l.door
    × (l.codec.asking ≡ None)

abbrev pub decreases-loop-alloc : goal.decreases-loop-alloc
decreases-loop-alloc g l = length l.codec.buffers.input.items
