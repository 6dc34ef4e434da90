-- A node that becomes ready by a state: all its entries are committed, and no request waits.
use Rattle.std.proofs.Common.{◌≡◌, ℕ, ◌+◌, ◌-◌, Bool, true, false, [], None, arith, refl, sym, subst}
use Rattle.std.specs.Prelude.{◌==◌, if◌then◌else◌}
use Rattle.craq_commands.specs.declared.state.State.{State}
use Rattle.craq_model.specs.Plain.{Plain, is_last, entries_after}
use Rattle.craq_model.specs.Deliveries.{with_copy}
use Rattle.craq_model.specs.Sends.{tick_sends, ready_sends, catch_up}
use Rattle.craq_model.specs.Settle.{Transition, transition_with, is_reached, readiness_transition, settling_transition, all_given, by_ticket}
use Rattle.craq_history.specs.Standing.{ready_outs}
use Rattle.craq_write.specs.Settling.{IsIdle}
use Rattle.craq_write.proofs.Ends.{none_after}

abbrev ready_with : Plain → ℕ → State → Transition
ready_with p position state =
    transition_with (record (with_copy p position state) { ready = true; gathering = None })
    (if p.epoch == 0 then [] else ready_outs p.name p.epoch p.members [] position position p.waiting_reads)

no_more : (n : ℕ) → n + 0 ≡ n
no_more n = search arith

-- the node without its waiting requests
abbrev pub idle : Plain → Plain
idle p = record p { waiting_updates = []; waiting_reads = [] }

pub is_idle : (p : Plain) → IsIdle p → p ≡ idle p
is_idle p i = rw (i.updates, i.reads) refl

by_last : (p : Plain) (position : ℕ) (state : State) (b : Bool) → is_last p ≡ b → settling_transition (record (with_copy (idle p) position state) { ready = true; gathering = None }) ≡ ready_with (idle p) position state
unfolding settling_transition all_given by_ticket tick_sends ready_sends catch_up entries_after
by_last p position state true h = rw (h, no_more position, none_after (position - position)) refl
by_last p position state false h = rw (h, none_after (position - position), no_more position) refl

pub ready_copy : (p : Plain) (position : ℕ) (state : State) → p.ready ≡ false → IsIdle p → is_reached p.floor position ≡ true → readiness_transition (with_copy p position state) ≡ ready_with p position state
unfolding readiness_transition
ready_copy p position state u i f =
    rw (u, no_more position, f) (subst (λ (q : Plain). settling_transition (record (with_copy q position state) { ready = true; gathering = None }) ≡ ready_with q position state) (sym (is_idle p i)) (by_last p position state (is_last p) refl))
