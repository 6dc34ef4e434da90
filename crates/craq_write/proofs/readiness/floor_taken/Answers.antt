use Rattle.std.proofs.Common.{◌≡◌, ◌<◌, List, Some, None, ap, ◌∙◌, arith}
use Rattle.craq_model.specs.declared.step.Out.{Out}
use Rattle.craq_model.specs.Plain.{length_of}
use Rattle.craq_history.specs.declared.change.Change.{Change}
use Rattle.craq_history.specs.declared.change.GatheringChange.{GatheringChange}
use Rattle.craq_history.specs.Change.{no_change}
use Rattle.craq_history.specs.Nodes.{plain_of}
use Rattle.craq_write.proofs.Waiting.{floor_waits}
use Rattle.craq_write.proofs.readiness.floor_taken.Goals as goal

pub returns : goal.returns
returns g c =
    let p = plain_of g.H.History.past c.args.node.now in
    let all : c.new-length.result ≡ length_of p = cc in
    let above : c.new-length.result < c.args.count = omega arith in
    floor_waits p c.args.count c.new-length.result _ _ all c.requires.unready above
    (ap (λ (x : Change). record x { floor = Some c.args.count; gathering = c.gathering_at.result }) c.none-change.ensures ∙ ap (λ (x : GatheringChange). record no_change { floor = Some c.args.count; gathering = x }) c.gathering_at.ensures)
    (c.done.ensures ∙ ap (λ (os : List Out). record { ticket = None; outs = os; ignored = None }) c.new.ensures.items)
