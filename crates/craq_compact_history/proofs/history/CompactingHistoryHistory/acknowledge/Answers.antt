use Rattle.std.proofs.Common.{◌≡◌, ℕ, ◌+◌, ◌-◌, ◌≤◌, length, drop, refl, ap, ◌∙◌, arith, length-drop}
use Rattle.std.proofs.lemmas.Result.{on_ok_weaker, on_err_weaker}
use Rattle.craq_commands.specs.SingleCopy.{after_entries}
use Rattle.craq_compact_history.specs.Stored.{stored}
use Rattle.craq_compact_history.proofs.Applies.{all_applied, applied_up_to, holds}
use Rattle.craq_compact_history.proofs.Counted.{Counts, settled}
use Rattle.craq_compact_history.proofs.Unsettled.{reported_settled}
use Rattle.craq_compact_history.proofs.history.CompactingHistoryHistory.acknowledge.Goals as goal

pub returns-clause-past : goal.returns-clause-past
returns-clause-past c =
    let w = holds c.args.self.now.held.base c.args.self.now.acknowledged c.args.self.now.held.state c.args.self.now.held.entries c.args.self.now.based c.args.self.now.within in
    applied_up_to (stored c.args.self.now.held.base c.args.self.now.held.state c.args.self.now.held.entries c.args.self.now.acknowledged) c.args.position c.apply.new.self.base c.apply.new.self.state c.apply.new.self.entries w c.requires c.apply.ensures.from c.apply.ensures.to c.apply.ensures.state c.apply.ensures.entries

pub returns-clause-ok : goal.returns-clause-ok
returns-clause-ok c = on_ok_weaker c.apply.result (λ base. all_applied c.apply.new.self.base c.args.position c.apply.new.self.state c.apply.new.self.entries base) c.apply.ensures.ok

pub returns-clause-err : goal.returns-clause-err
returns-clause-err c =
    on_err_weaker c.apply.result
    (λ low. record { from = c.apply.ensures.from; to = low; base_state = c.apply.ensures.state; entries = c.apply.ensures.entries; acknowledged = refl })
    c.apply.ensures.err

pub invariant_of-self : goal.invariant_of-self
invariant_of-self c =
    let h = c.args.self.now in
    let m : ℕ = h.acknowledged - h.held.base in
    let left : length (drop m h.held.entries) ≡ length h.held.entries - m = length-drop m h.held.entries in
    let later : h.acknowledged ≤ c.args.position = c.requires.based in
    let known : c.args.position ≤ h.acknowledged + length (drop m h.held.entries) = c.requires.within in
    let reached : c.args.position ≤ h.held.base + length h.held.entries = omega (arith, left, known, h.based, h.within) in
    let rest : length c.apply.new.self.entries ≡ length h.held.entries - (c.apply.new.self.base - h.held.base) = ap length c.apply.ensures.entries ∙ length-drop (c.apply.new.self.base - h.held.base) h.held.entries in
    let low : c.apply.new.self.base ≤ c.args.position = c.apply.ensures.to in
    let high : c.args.position ≤ c.apply.new.self.base + length c.apply.new.self.entries = omega (arith, rest, reached, low, c.apply.ensures.from) in
    let begin : c.let_go.new.self.from ≡ c.args.position = omega (arith, c.let_go.ensures.from, c.between-first.ensures.count, h.reported_from, later) in
    let kept : Counts h.objects (after_entries c.apply.new.self.state c.apply.new.self.entries).objects =
    settled h.objects (c.apply.new.self.base - h.held.base) h.held.state c.apply.new.self.state h.held.entries c.apply.new.self.entries (record { number = h.counted; written = h.written; rising = h.rising }) c.apply.ensures.state c.apply.ensures.entries in
    record {
      based = low;
      within = high;
      reported_from = begin;
      reported = reported_settled h.clients c.let_go.new.self h.held.base h.acknowledged c.args.position c.apply.new.self.base h.held.entries c.between-first.result.now c.apply.new.self.entries h.based later reached c.apply.ensures.from low c.apply.ensures.entries h.reported c.between-first.ensures.entries c.let_go.ensures.tells;
      counted = kept.number;
      written = kept.written;
      rising = kept.rising;
    }
