use Rattle.std.proofs.Common.{◌≡◌, ℕ, List, None}
use Rattle.craq_frames.specs.Steps.{IsFirst, ahead}
use Rattle.craq_frames.proofs.Answering.{Standing, left}
use Rattle.craq_front.proofs.serving.answer_payload.Given as goal

abbrev pub invariant-loop-asked : goal.invariant-loop-asked
invariant-loop-asked g l =
    ((payload : List ℕ) → IsFirst l.fn.codec.asking l.fn.first payload
    → Standing g.D.Door.turn l.fn.door payload l.fn.codec.buffers.output.items l.codec.buffers.output.items l.codec.asking l.asked l.door)
    × (l.codec.buffers.input.items ≡ l.fn.codec.buffers.input.items)
    × (l.asked ≡ None → l.codec.asking ≡ None)
    × (ahead l.codec.asking ≡ 0)

abbrev pub decreases-loop-asked : goal.decreases-loop-asked
decreases-loop-asked g l = left l.asked l.codec.asking
