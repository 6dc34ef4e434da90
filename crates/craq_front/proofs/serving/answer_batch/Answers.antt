use Rattle.std.proofs.Common.{ℕ, ◌≡◌, ◌+◌, List, [], ◌++◌, sym, ap, ◌∙◌, append_assoc, refl, arith}
use Rattle.std.proofs.lemmas.List.{append-nil}
use Rattle.craq_frames.proofs.Conversations.{served_none, served_then, served_shorter, next_refused, next_goes_on}
use Rattle.craq_front.proofs.serving.answer_batch.Goals as goal

pub loop-alloc-init : goal.loop-alloc-init
loop-alloc-init g c =
    ([], 0, sym (append-nil c.args.codec.now.buffers.output.items), omega arith, λ same. refl, served_none g.D.Door.turn c.args.door.now c.args.codec.now.buffers.input.items, c.requires)

pub loop-alloc-smaller : goal.loop-alloc-smaller
loop-alloc-smaller g c =
    let h = rw c.in-Ok-true.field-0-test at c.in-Ok-true.ensures.next in
    let s = served_shorter g.D.Door.turn c.loop-alloc.door c.answer_next.new.door c.loop-alloc.codec.buffers.input.items c.answer_next.new.codec.buffers.input.items h.0 h.2 in
    omega (arith, s)

pub loop-alloc-preserved : goal.loop-alloc-preserved
loop-alloc-preserved g c =
    let i = c.loop-alloc.invariant in
    let h = rw c.in-Ok-true.field-0-test at c.in-Ok-true.ensures.next in
    let n : ℕ = i.1 in
    let counted : c.loop-alloc.frames + 1 ≡ c.args.frames.now + (n + 1) = omega (arith, i.3) in (
      i.0 ++ h.0,
      n + 1,
      h.1 ∙ ap (λ (x : List ℕ). x ++ h.0) i.2 ∙ append_assoc c.args.codec.now.buffers.output.items i.0 h.0,
      counted,
      λ same. absurd (omega (arith, counted, same)),
      served_then g.D.Door.turn c.args.door.now c.loop-alloc.door c.answer_next.new.door c.args.codec.now.buffers.input.items c.loop-alloc.codec.buffers.input.items c.answer_next.new.codec.buffers.input.items i.0 h.0 n 1 i.5 h.2,
      c.in-Ok-true.ensures.idle,
    )

pub returns-in-Err-clause-batch : goal.returns-in-Err-clause-batch
returns-in-Err-clause-batch g c =
    let i = c.loop-alloc.invariant in
    let h = c.in-Err.ensures.next in (
      i.0 ++ h.0,
      i.1,
      h.1 ∙ ap (λ (x : List ℕ). x ++ h.0) i.2 ∙ append_assoc c.args.codec.now.buffers.output.items i.0 h.0,
      i.3,
      next_refused g.D.Door.turn c.args.door.now c.loop-alloc.door c.answer_next.new.door c.args.codec.now.buffers.input.items c.loop-alloc.codec.buffers.input.items c.answer_next.new.codec.buffers.input.items i.0 h.0 i.1 c.in-Err.refusal i.5 h.2,
    )

pub returns-in-Err-clause-exhausted : goal.returns-in-Err-clause-exhausted
returns-in-Err-clause-exhausted g c =
    λ used. absurd (next_goes_on g.D.Door.turn c.loop-alloc.door c.answer_next.new.door c.loop-alloc.codec.buffers.input.items c.answer_next.new.codec.buffers.input.items c.in-Err.ensures.next.0 c.in-Err.refusal (cc) c.in-Err.ensures.next.2)
