use Rattle.std.proofs.Common.{ℕ, List, [], ◌++◌, take, drop, Err, refl, sym, ap, subst, arith, inl, inr}
use Rattle.std.proofs.lemmas.List.{take-append-drop}
use Rattle.std.proofs.lemmas.Result.{err_from_is_err_and}
use Rattle.craq_frames.specs.Frame.{frame}
use Rattle.craq_front.specs.Exchange.{IsFrameOf}
use Rattle.craq_frames.proofs.Known.{consumes_none, appends_none}
use Rattle.craq_front.proofs.Exchanges.{decoded}
use Rattle.craq_front.proofs.exchanging.exchange.Goals as goal

pub returns-in_err-frame_message-clause-exchanged : goal.returns-in_err-frame_message-clause-exchanged
returns-in_err-frame_message-clause-exchanged g c =
    let p = err_from_is_err_and c.from_residual.result c.from_residual.ensures.1 in
    rw (p.1, p.2, c.in_err-frame_message.ensures.err)
    ([], c.args.stream.now, [], 0, appends_none (g.S.Sink.contents c.args.stream.now), consumes_none (g.S.Source.remaining c.args.stream.now), omega arith, (refl, inl refl))

pub returns-in_err-flush-clause-exchanged : goal.returns-in_err-flush-clause-exchanged
returns-in_err-flush-clause-exchanged g c =
    let p = err_from_is_err_and c.from_residual-in_err-flush.result c.from_residual-in_err-flush.ensures.1 in
    let f = c.in_err-flush.ensures.failed in
    let out = c.frame_message.new.output.items in
    let whole = subst (λ (x : List ℕ). IsFrameOf c.args.message.now x) (sym (take-append-drop f.0 out)) c.in_ok-frame_message.ensures.ok in
    rw (p.1, p.2, c.in_err-flush.ensures.err)
    (take f.0 out, c.flush.new.writer, [], 1, f.1, consumes_none (g.S.Source.remaining c.flush.new.writer), f.2, (refl, inl (drop f.0 out, whole, refl)))

pub returns-in_err-payload-clause-exchanged : goal.returns-in_err-payload-clause-exchanged
returns-in_err-payload-clause-exchanged g c =
    let p = err_from_is_err_and c.from_residual-in_err-payload.result c.from_residual-in_err-payload.ensures.1 in
    let w = c.in_ok-flush.ensures.ok in
    let out = c.frame_message.new.output.items in
    let whole = c.in_ok-frame_message.ensures.ok in
    let ends = c.in_err-payload.ensures in
    elim ends.err [
      | inl e ↦ let l = ends.long (ap Err e) in rw (p.1, p.2, e) (out, c.flush.new.writer, l.0, 0, w.0, l.2, omega (arith, l.1, w.1), (whole, refl, l.3))
      | inr other ↦ elim other [
        | inl e ↦ let l = ends.closed (ap Err e) in rw (p.1, p.2, e) (out, c.flush.new.writer, l.0, 0, w.0, l.2, omega (arith, l.1, w.1), (whole, refl, l.3))
        | inr other ↦ elim other [
          | inl e ↦ let l = ends.io (ap Err e) in rw (p.1, p.2, e) (out, c.flush.new.writer, l.0, 1, w.0, l.2, omega (arith, l.1, w.1), (refl, inr (whole, l.3)))
          | inr e ↦ let l = ends.memory (ap Err e) in rw (p.1, p.2, e) (out, c.flush.new.writer, l.0, 0, w.0, l.2, omega (arith, l.1, w.1), (refl, inr whole))
        ]
      ]
    ]

pub returns-clause-exchanged : goal.returns-clause-exchanged
returns-clause-exchanged g c =
    let w = c.in_ok-flush.ensures.ok in
    let r = c.in_ok-payload.ensures.ok in
    let out = c.frame_message.new.output.items in
    let payload = c.in_ok-payload.payload.items in
    let found = rw c.as_slice.ensures at c.decode.ensures.found in
    let bad = rw c.as_slice.ensures at c.decode.ensures.bad in (
      out,
      c.flush.new.writer,
      frame payload ++ r.0,
      0,
      w.0,
      r.2,
      omega (arith, r.1, w.1),
      decoded c.args.message.now out payload r.0 c.decode.result c.in_ok-frame_message.ensures.ok found bad c.decode.ensures.err,
    )
