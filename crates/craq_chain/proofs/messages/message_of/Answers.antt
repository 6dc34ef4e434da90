use Rattle.std.proofs.Common.{◌-◌, arith, sym, ap, ◌∙◌}
use Rattle.std.specs.Prelude.{slice_get}
use Rattle.craq_runs.specs.Chain.{sent_in}
use Rattle.craq_chain.proofs.Sendings.{none_of, some_of}
use Rattle.craq_chain.proofs.messages.message_of.Goals as goal

pub returns-then-place-moves : goal.returns-then-place-moves
returns-then-place-moves c = none_of c.args.sent.now c.args.moves.now c.first_above-place.result c.args.number c.requires c.if-place-moves.true c.first_above-place.ensures.within c.first_above-place.ensures.before (omega arith)

pub returns : goal.returns
returns c =
    c.message_after.ensures
    ∙ ap (λ outs. slice_get (sent_in outs) (c.args.number - 1 - c.counted_before.result)) (c.as_slice.ensures ∙ ap (λ t. t.step.outs) (sym c.index-moves-place.is))
    ∙ some_of c.args.sent.now c.args.moves.now c.index-moves-place.result c.first_above-place.result c.args.number c.counted_before.result c.requires (omega arith) c.index-moves-place.is c.first_above-place.ensures.before c.first_above-place.ensures.here c.counted_before.ensures (omega arith)
