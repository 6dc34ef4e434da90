-- The figures of a core are those of each node that it represents.
use Rattle.std.proofs.Common.{◌≡◌, ◌≤◌, ℕ, ◌-◌, ◌%◌, ◌^◌, Bool, true, length, min, sym, ap, ◌∙◌}
use Rattle.craq_commands.specs.declared.state.State.{State}
use Rattle.craq_model.specs.Past.{Past, length_in, newest_in}
use Rattle.craq_model.specs.Plain.{Plain, length_of}
use Rattle.craq_node_invariant.specs.Sound.{IsSound}
use Rattle.craq_node_invariant.specs.Compacted.{compacted_in, remembered}
use Rattle.craq_node_invariant.proofs.CompactedPasts.{compacted_length, compacted_newest}
use Rattle.craq_compact_history.specs.declared.figures.NodeFigures.{NodeFigures}
use Rattle.craq_compact_history.specs.Counted.{bytes_in, CountsHeld}
use Rattle.craq_compact_history.specs.Figures.{figures_of}

-- the figures of what is seen of a node are the node's
pub figures_told : (p seen : Plain) (epoch entries committed updates reads objects bytes : ℕ) (ready running : Bool) → IsSound p → seen ≡ remembered true (record p { running = true })
    → epoch ≡ seen.epoch → ready ≡ seen.ready → running ≡ p.running → entries ≡ length_of seen → committed ≡ seen.past.acknowledged
    → updates ≡ length seen.waiting_updates → reads ≡ length seen.waiting_reads → objects ≡ min (length (newest_in seen.past).objects) (2 ^ 64 - 1)
    → record { epoch = epoch; is_ready = ready; is_running = running; length = entries; committed = committed; waiting_updates = updates; waiting_reads = reads; objects = objects; bytes = bytes } ≡ figures_of p bytes
figures_told p seen epoch entries committed updates reads objects bytes ready running sound same a b c d e f g h =
    let a' : epoch ≡ p.epoch = a ∙ ap (λ (s : Plain). s.epoch) same in
    let b' : ready ≡ p.ready = b ∙ ap (λ (s : Plain). s.ready) same in
    let d' : entries ≡ length_of p = d ∙ ap (λ (s : Plain). length_in s.past) same ∙ compacted_length p.past (record { based = sound.based; within = sound.within }) in
    let e' : committed ≡ p.past.acknowledged = e ∙ ap (λ (s : Plain). s.past.acknowledged) same in
    let f' : updates ≡ length p.waiting_updates = f ∙ ap (λ (s : Plain). length s.waiting_updates) same in
    let g' : reads ≡ length p.waiting_reads = g ∙ ap (λ (s : Plain). length s.waiting_reads) same in
    let h' : objects ≡ min (length (newest_in p.past).objects) (2 ^ 64 - 1) = h ∙ ap (λ (s : Plain). min (length (newest_in s.past).objects) (2 ^ 64 - 1)) same ∙ ap (λ (s : State). min (length s.objects) (2 ^ 64 - 1)) (compacted_newest p.past) in
    cc

-- the bytes in memory are those of a past that differs from the node's only in settled entries
pub bytes_told : (p seen : Plain) (held : Past) (bytes : ℕ) → seen ≡ remembered true (record p { running = true }) → seen.past ≡ compacted_in held → bytes ≡ bytes_in held % 2 ^ 64 → CountsHeld p.past bytes
bytes_told p seen held bytes same is number = record { held = held; same = sym is ∙ ap (λ (s : Plain). s.past) same; number = number }
