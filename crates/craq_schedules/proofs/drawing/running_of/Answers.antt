use Rattle.std.proofs.Common.{◌≡◌, ap, arith, sym, length, take, ◌∙◌}
use Rattle.craq_model.specs.Plain.{id_of}
use Rattle.craq_schedules.specs.Drawn.{running_ids, with_id}
use Rattle.craq_schedules.proofs.Rising.{all_here, node_here, one_running, one_stopped, receipt_tells}
use Rattle.craq_schedules.proofs.drawing.running_of.Goals as goal
use Rattle.craq_schedules.proofs.drawing.running_of.Goals.{then-is_none+in_ok-put_id, else-is_none}

pub loop-core-preserved : goal.loop-core-preserved
loop-core-preserved g c = λ ps h.
    let before = take c.loop-core.core-index ps in
    let s = node_here g.C.Core.represents c.args.cores.now ps c.loop-core.core-index c.core-item.result h (omega arith) c.core-item.is in
    let own = c.switch-switch.ensures s.node s.stands in
    let runs : s.node.running ≡ c.is_none.result = sym (ap (λ z. z.running) own) ∙ sym (receipt_tells c.switch-switch.result.now.running c.is_none.result c.switch-switch.result.now.name c.receipt.result c.receipt.ensures c.is_none.ensures) in
    elim c.if-is_none.branch [
      | then-is_none+in_ok-put_id w ↦
          let id : w.name.result.node ≡ id_of s.node = ap (λ n. n.node) w.name.ensures ∙ ap (λ z. z.name.node) own in
          ap (λ v. v.items) w.ids-is ∙ w.in_ok-put_id.ensures ∙ ap (λ n. with_id n c.loop-core.ids.items) id ∙ ap (λ ids. with_id (id_of s.node) ids) (c.loop-core.invariant ps h)
          ∙ sym (ap running_ids s.more ∙ one_running before s.node (runs ∙ w.if-is_none.true))
      | else-is_none w ↦ ap (λ v. v.items) w.ids-is ∙ c.loop-core.invariant ps h ∙ sym (ap running_ids s.more ∙ one_stopped before s.node (runs ∙ w.if-is_none.false))
    ]

pub returns : goal.returns
returns g c = λ ps h.
    let all : c.loop-core.core-index ≡ length c.args.cores.now = omega arith in
    c.loop-core.invariant ps h ∙ ap (λ n. running_ids (take n ps)) all ∙ ap running_ids (all_here g.C.Core.represents c.args.cores.now ps h)
