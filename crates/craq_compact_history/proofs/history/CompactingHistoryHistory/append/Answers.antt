use Rattle.std.proofs.Common.{◌≡◌, ℕ, ◌+◌, ◌-◌, ◌<◌, ◌≤◌, ◌^◌, true, List, length, drop, min, ap, subst, ◌∙◌, arith, length-append, length-drop}
use Rattle.craq_commands.specs.declared.entry.Entry.{Entry}
use Rattle.craq_commands.specs.declared.state.State.{State}
use Rattle.craq_node_invariant.proofs.CompactedPasts.{compacted_newest}
use Rattle.craq_compact_state.specs.Followed.{AreNextVersions}
use Rattle.craq_compact_state.proofs.Applicable.{are_next}
use Rattle.craq_commands.specs.SingleCopy.{after_entries}
use Rattle.craq_model.specs.Deliveries.{are_applicable}
use Rattle.craq_compact_history.specs.Counted.{new_objects}
use Rattle.craq_compact_history.specs.Stored.{stored}
use Rattle.craq_compact_history.proofs.Counted.{Counts, appended}
use Rattle.craq_compact_history.proofs.Unsettled.{reported_appended}
use Rattle.craq_compact_history.proofs.history.CompactingHistoryHistory.append.Goals as goal

pub append-requires-clause-next : goal.append-requires-clause-next
append-requires-clause-next c =
    let h = stored c.args.self.now.held.base c.args.self.now.held.state c.args.self.now.held.entries c.args.self.now.acknowledged in
    subst (λ (s : State). AreNextVersions s c.args.entries) (compacted_newest h) (are_next _ c.args.entries c.requires.applicable c.requires.spelled)

pub from-later-requires-clause-held : goal.from-later-requires-clause-held
from-later-requires-clause-held c =
    let low = c.args.self.now.reported.from in
    omega (arith, low, c.args.self.now.reported_from, c.args.self.now.based, c.to.ensures, c.append.ensures.base)

pub from-later-requires-clause-known : goal.from-later-requires-clause-known
from-later-requires-clause-known c =
    let es : List Entry = c.args.self.now.held.entries in
    let m : ℕ = c.args.self.now.acknowledged - c.args.self.now.held.base in
    let high = c.args.self.now.reported.to in
    let left : length (drop m es) ≡ length es - m = length-drop m es in
    let longer : length c.append.new.self.entries ≡ length es + length c.args.entries = ap length c.in_ok-append.ensures.ok ∙ length-append es c.args.entries in
    omega (arith, high, left, longer, c.args.self.now.reported_from, c.args.self.now.based, c.args.self.now.within, c.to.ensures, c.append.ensures.base)

pub add-requires : goal.add-requires
add-requires c =
    let es : List Entry = c.args.self.now.held.entries in
    let m : ℕ = c.args.self.now.acknowledged - c.args.self.now.held.base in
    let low = c.args.self.now.reported.from in
    let high = c.args.self.now.reported.to in
    let left : length (drop m es) ≡ length es - m = length-drop m es in
    let longer : length c.append.new.self.entries ≡ length es + length c.args.entries = ap length c.in_ok-append.ensures.ok ∙ length-append es c.args.entries in
    let rest : length c.from-later.result.now ≡ length c.append.new.self.entries - (c.to.result - c.append.new.self.base) = ap length c.from-later.ensures.entries ∙ length-drop (c.to.result - c.append.new.self.base) c.append.new.self.entries in
    let fits : c.args.self.now.acknowledged + length (drop m es) + length c.args.entries < 2 ^ 64 = c.requires.fits in
    record { fits = omega (arith, low, high, left, longer, rest, fits, c.args.self.now.reported_from, c.args.self.now.based, c.args.self.now.within, c.to.ensures, c.append.ensures.base) }

pub invariant_of-self-2 : goal.invariant_of-self-2
invariant_of-self-2 c =
    let h = c.args.self.now in
    let longer : length c.append.new.self.entries ≡ length h.held.entries + length c.args.entries = ap length c.in_ok-append.ensures.ok ∙ length-append h.held.entries c.args.entries in
    let low : c.append.new.self.base ≤ h.acknowledged = omega (arith, h.based, c.append.ensures.base) in
    let high : h.acknowledged ≤ c.append.new.self.base + length c.append.new.self.entries = omega (arith, h.within, longer, c.append.ensures.base) in
    let more : Counts c.saturating_add-self.result (after_entries c.append.new.self.state c.append.new.self.entries).objects =
    appended h.objects c.count_new-made.result c.saturating_add-self.result h.held.state c.append.new.self.state h.held.entries c.append.new.self.entries c.args.entries (record { number = h.counted; written = h.written; rising = h.rising })
    (subst (λ (s : State). are_applicable s c.args.entries ≡ true) (compacted_newest (stored h.held.base h.held.state h.held.entries h.acknowledged)) c.requires.applicable)
    c.requires.spelled (c.count_new-made.ensures ∙ ap (λ (es : List Entry). min (new_objects es) (2 ^ 64 - 1)) c.as_slice.ensures) c.saturating_add-self.ensures c.append.ensures.state c.in_ok-append.ensures.ok in
    record {
      based = low;
      within = high;
      reported_from = c.add.ensures.from ∙ h.reported_from;
      reported =
          reported_appended h.clients c.add.new.self h.held.base h.acknowledged c.append.new.self.base h.held.entries c.args.entries c.append.new.self.entries c.from-later.result.now h.reported_from h.based h.within h.reported c.append.ensures.base c.in_ok-append.ensures.ok
          (c.from-later.ensures.entries ∙ ap (λ (k : ℕ). drop (k - c.append.new.self.base) c.append.new.self.entries) c.to.ensures)
          c.add.ensures.tells;
      counted = more.number;
      written = more.written;
      rising = more.rising;
    }
