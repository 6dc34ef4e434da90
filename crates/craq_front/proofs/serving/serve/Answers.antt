use Rattle.std.proofs.Common.{ℕ, ◌≡◌, List, [], ◌++◌, take, Ok, Err, sym, refl, ap, subst, ◌∙◌, arith, inl, inr, length-append}
use Rattle.std.proofs.lemmas.List.{append-nil, nil_from_length}
use Rattle.std.proofs.lemmas.Result.{err_from_is_err_and}
use Rattle.std.specs.Io.KnownBytes.{Appends}
use Rattle.craq_frames.specs.Serving.{Served, neither, reader, writer}
use Rattle.craq_frames.proofs.Known.{consumes_none, consumes_then, consumes_end, keeps_then, appends_none, appends_then}
use Rattle.craq_frames.proofs.Conversations.{served_none, write_failed, batch_refused, read_failed, no_room, ended_so, batch_served, served_on, served_further}
use Rattle.craq_front.proofs.serving.serve.Goals.{then-is_drained+in_ok-count+else-count-eq0, else-is_drained}
use Rattle.craq_front.proofs.serving.serve.Goals as goal

pub loop-turn-init : goal.loop-turn-init
loop-turn-init g c = (
  [],
  [],
  consumes_none (g.R.Source.remaining c.args.reader.now),
  appends_none (g.W.Sink.contents c.args.writer.now),
  refl,
  refl,
  c.new-codec.ensures.output,
  subst (λ (x : List ℕ). Served g.D.Door.turn c.args.door.now [] x [] 0 c.args.door.now) (sym c.new-codec.ensures.input) (served_none g.D.Door.turn c.args.door.now []),
  omega arith,
  c.new-codec.ensures.asking,
)

pub returns-in_err-flush-clause-session : goal.returns-in_err-flush-clause-session
returns-in_err-flush-clause-session g c =
    let p = err_from_is_err_and c.from_residual.result c.from_residual.ensures.1 in
    let i = c.loop-turn.invariant in
    let b = c.answer_batch-batch.ensures.batch in
    let f = c.in_err-flush.ensures.failed in
    let unsent : c.answer_batch-batch.new.codec.buffers.output.items ≡ b.0 = b.2 ∙ ap (λ (x : List ℕ). x ++ b.0) i.6 in
    let part = subst (λ (x : List ℕ). Appends (g.W.Sink.contents c.loop-turn.writer) (g.W.Sink.contents c.flush.new.writer) (take f.0 x)) unsent f.1 in
    rw (p.1, p.2, c.in_err-flush.ensures.err) (
      i.0,
      i.1 ++ take f.0 b.0,
      writer,
      i.2,
      appends_then (g.W.Sink.contents c.args.writer.now) (g.W.Sink.contents c.loop-turn.writer) (g.W.Sink.contents c.flush.new.writer) i.1 (take f.0 b.0) i.3 part,
      omega (arith, i.4),
      omega (arith, i.5, f.2),
      write_failed g.D.Door.turn c.args.door.now c.loop-turn.door c.answer_batch-batch.new.door i.0 c.loop-turn.codec.buffers.input.items c.answer_batch-batch.new.codec.buffers.input.items i.1 b.0 c.loop-turn.frames b.1 f.0
          c.answer_batch-batch.result i.7 b.4,
    )

pub returns-in_err-is_drained-clause-session : goal.returns-in_err-is_drained-clause-session
returns-in_err-is_drained-clause-session g c =
    let p = err_from_is_err_and c.from_residual-in_err-is_drained.result c.from_residual-in_err-is_drained.ensures.1 in
    let i = c.loop-turn.invariant in
    let b = c.in_err-is_drained.ensures.batch in
    let w = c.in_ok-flush.ensures.ok in
    let unsent : c.answer_batch-batch.new.codec.buffers.output.items ≡ b.0 = b.2 ∙ ap (λ (x : List ℕ). x ++ b.0) i.6 in
    let all = subst (λ (x : List ℕ). Appends (g.W.Sink.contents c.loop-turn.writer) (g.W.Sink.contents c.flush.new.writer) x) unsent w.0 in
    rw (p.1, p.2) (
      i.0,
      i.1 ++ b.0,
      neither,
      i.2,
      appends_then (g.W.Sink.contents c.args.writer.now) (g.W.Sink.contents c.loop-turn.writer) (g.W.Sink.contents c.flush.new.writer) i.1 b.0 i.3 all,
      omega (arith, i.4),
      omega (arith, i.5, w.1),
      batch_refused g.D.Door.turn c.args.door.now c.loop-turn.door c.answer_batch-batch.new.door i.0 c.loop-turn.codec.buffers.input.items c.answer_batch-batch.new.codec.buffers.input.items i.1 b.0 c.loop-turn.frames b.1
          c.in_err-is_drained.field-0.0 (λ used. omega (arith, b.3, c.in_err-is_drained.ensures.exhausted (ap Err used))) i.7 b.4,
    )

pub returns-in_err-count-clause-session : goal.returns-in_err-count-clause-session
returns-in_err-count-clause-session g c =
    let p = err_from_is_err_and c.from_residual-in_err-count.result c.from_residual-in_err-count.ensures.1 in
    let i = c.loop-turn.invariant in
    let b = rw c.if-is_drained.true at c.in_ok-is_drained.ensures.batch in
    let w = c.in_ok-flush.ensures.ok in
    let f = c.in_err-count.ensures.failed in
    let unsent : c.answer_batch-batch.new.codec.buffers.output.items ≡ b.0 = b.2 ∙ ap (λ (x : List ℕ). x ++ b.0) i.6 in
    let all = subst (λ (x : List ℕ). Appends (g.W.Sink.contents c.loop-turn.writer) (g.W.Sink.contents c.flush.new.writer) x) unsent w.0 in
    let io = c.in_err-count.ensures.io in
    let memory = c.in_err-count.ensures.memory in
    elim c.in_err-count.ensures.err [
      | inl e ↦ rw (p.1, p.2, e) (
        i.0,
        i.1 ++ b.0,
        reader,
        keeps_then (g.R.Source.remaining c.args.reader.now) (g.R.Source.remaining c.loop-turn.reader) (g.R.Source.remaining c.fill.new.reader) i.0 i.2 f.0,
        appends_then (g.W.Sink.contents c.args.writer.now) (g.W.Sink.contents c.loop-turn.writer) (g.W.Sink.contents c.flush.new.writer) i.1 b.0 i.3 all,
        omega (arith, i.4, io (ap Err e)),
        omega (arith, i.5, w.1),
        read_failed g.D.Door.turn c.args.door.now c.loop-turn.door c.answer_batch-batch.new.door i.0 c.loop-turn.codec.buffers.input.items c.answer_batch-batch.new.codec.buffers.input.items i.1 b.0 c.loop-turn.frames b.1 i.7 b.4,
      )
      | inr e ↦ rw (p.1, p.2, e) (
        i.0,
        i.1 ++ b.0,
        neither,
        keeps_then (g.R.Source.remaining c.args.reader.now) (g.R.Source.remaining c.loop-turn.reader) (g.R.Source.remaining c.fill.new.reader) i.0 i.2 f.0,
        appends_then (g.W.Sink.contents c.args.writer.now) (g.W.Sink.contents c.loop-turn.writer) (g.W.Sink.contents c.flush.new.writer) i.1 b.0 i.3 all,
        omega (arith, i.4, memory (ap Err e)),
        omega (arith, i.5, w.1),
        no_room g.D.Door.turn c.args.door.now c.loop-turn.door c.answer_batch-batch.new.door i.0 c.loop-turn.codec.buffers.input.items c.answer_batch-batch.new.codec.buffers.input.items i.1 b.0 c.loop-turn.frames b.1 i.7 b.4,
      )
    ]

pub returns-then-count-eq0-clause-session : goal.returns-then-count-eq0-clause-session
returns-then-count-eq0-clause-session g c =
    let i = c.loop-turn.invariant in
    let b = rw c.if-is_drained.true at c.in_ok-is_drained.ensures.batch in
    let w = c.in_ok-flush.ensures.ok in
    let r = c.in_ok-count.ensures.ok in
    let unsent : c.answer_batch-batch.new.codec.buffers.output.items ≡ b.0 = b.2 ∙ ap (λ (x : List ℕ). x ++ b.0) i.6 in
    let all = subst (λ (x : List ℕ). Appends (g.W.Sink.contents c.loop-turn.writer) (g.W.Sink.contents c.flush.new.writer) x) unsent w.0 in
    let zero : c.in_ok-count.count ≡ 0 = c.if-count-eq0.true in
    let none : r.0 ≡ [] = nil_from_length r.0 (r.1 ∙ zero) in
    let same : c.fill.new.buffers.input.items ≡ c.answer_batch-batch.new.codec.buffers.input.items = r.2 ∙ ap (λ (x : List ℕ). c.flush.new.buffers.input.items ++ x) none ∙ append-nil c.flush.new.buffers.input.items ∙ c.in_ok-flush.ensures.input in (
      i.0,
      i.1 ++ b.0,
      neither,
      consumes_end (g.R.Source.remaining c.args.reader.now) (g.R.Source.remaining c.loop-turn.reader) (g.R.Source.remaining c.fill.new.reader) i.0 r.0 i.2 r.3 none,
      appends_then (g.W.Sink.contents c.args.writer.now) (g.W.Sink.contents c.loop-turn.writer) (g.W.Sink.contents c.flush.new.writer) i.1 b.0 i.3 all,
      omega (arith, i.4, r.4),
      omega (arith, i.5, w.1),
      ended_so g.D.Door.turn c.args.door.now c.loop-turn.door c.answer_batch-batch.new.door i.0 c.loop-turn.codec.buffers.input.items c.answer_batch-batch.new.codec.buffers.input.items i.1 b.0 c.fill.new.buffers.input.items
          c.loop-turn.frames b.1 c.answer_batch-batch.new.frames c.ended.result i.7 b.4 same b.3 c.ended.ensures.ok c.ended.ensures.err,
    )

pub loop-turn-preserved : goal.loop-turn-preserved
loop-turn-preserved g c =
    let i = c.loop-turn.invariant in
    let b = c.in_ok-is_drained.ensures.batch in
    let w = c.in_ok-flush.ensures.ok in
    let unsent : c.answer_batch-batch.new.codec.buffers.output.items ≡ b.0 = b.2 ∙ ap (λ (x : List ℕ). x ++ b.0) i.6 in
    let all = subst (λ (x : List ℕ). Appends (g.W.Sink.contents c.loop-turn.writer) (g.W.Sink.contents c.flush.new.writer) x) unsent w.0 in
    let written = appends_then (g.W.Sink.contents c.args.writer.now) (g.W.Sink.contents c.loop-turn.writer) (g.W.Sink.contents c.flush.new.writer) i.1 b.0 i.3 all in
    let served = batch_served g.D.Door.turn c.loop-turn.door c.answer_batch-batch.new.door c.loop-turn.codec.buffers.input.items c.answer_batch-batch.new.codec.buffers.input.items b.0 b.1 c.in_ok-is_drained.is_drained b.4 in
    elim c.if-is_drained.branch [
      | then-is_drained+in_ok-count+else-count-eq0 v ↦
          let r = v.in_ok-count.ensures.ok in
          rw (v.reader-is, v.codec-is) (
            i.0 ++ r.0,
            i.1 ++ b.0,
            consumes_then (g.R.Source.remaining c.args.reader.now) (g.R.Source.remaining c.loop-turn.reader) (g.R.Source.remaining v.fill.new.reader) i.0 r.0 i.2 r.3,
            written,
            r.4 ∙ i.4,
            w.1 ∙ i.5,
            v.in_ok-count.ensures.output,
            served_further g.D.Door.turn c.args.door.now c.loop-turn.door c.answer_batch-batch.new.door i.0 c.loop-turn.codec.buffers.input.items c.answer_batch-batch.new.codec.buffers.input.items i.1 b.0 r.0 v.fill.new.buffers.input.items
                c.loop-turn.frames b.1 c.answer_batch-batch.new.frames i.7 served (r.2 ∙ ap (λ (x : List ℕ). x ++ r.0) c.in_ok-flush.ensures.input) b.3,
            omega (arith, i.8, b.3, r.1, length-append i.0 r.0, v.if-count-eq0.false),
            c.in_ok-is_drained.ensures.idle,
          )
      | else-is_drained v ↦
          rw (v.reader-is, v.codec-is) (
            i.0,
            i.1 ++ b.0,
            i.2,
            written,
            i.4,
            w.1 ∙ i.5,
            w.2,
            served_on g.D.Door.turn c.args.door.now c.loop-turn.door c.answer_batch-batch.new.door i.0 c.loop-turn.codec.buffers.input.items c.answer_batch-batch.new.codec.buffers.input.items i.1 b.0 c.flush.new.buffers.input.items
                c.loop-turn.frames b.1 c.answer_batch-batch.new.frames i.7 served c.in_ok-flush.ensures.input b.3,
            omega (arith, i.8, c.in_ok-is_drained.ensures.more (ap Ok v.if-is_drained.false) i.6),
            c.in_ok-is_drained.ensures.idle,
          )
    ]
