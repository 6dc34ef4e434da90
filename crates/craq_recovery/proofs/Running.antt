-- Ticks and messages stop no node.
use Rattle.std.proofs.Common.{◌≡◌, true, None, refl}
use Rattle.std.specs.Prelude.{Bool}
use Rattle.craq_model.specs.declared.message.LinkMessage.{LinkMessage}
use Rattle.craq_model.specs.Deliveries.{acknowledgement_transition, delivery_transition}
use Rattle.craq_model.specs.Plain.{Plain, is_tail}
use Rattle.craq_model.specs.Settle.{Transition, settling_transition}
use Rattle.craq_recovery.proofs.Lines.{ByMessage, by_message, by_test}

module _ (running : Bool) where
  abbrev Runs : Plain → Type 0
  Runs p = p.running ≡ running

  abbrev Leaves : Transition → Type 0
  Leaves t = Runs t.0

  settling_runs : (p : Plain) → Runs p → Leaves (settling_transition p)
  unfolding settling_transition
  settling_runs p h = by_test (is_tail p) Leaves _ _ h h

  message_runs : (m : LinkMessage) → ByMessage Runs Leaves m
  unfolding acknowledgement_transition
  message_runs m = record {
    silent = λ t none h. h;
    sends = λ p past to bs h. h;
    joins = λ p epoch members h. settling_runs (record p { epoch = epoch; members = members; floor = None; gathering = None }) h;
    readies = λ p h. settling_runs (record p { ready = true; gathering = None }) h;
    commits = λ p position h. h;
    answers = λ p r answer h. h;
    takes = λ p past floor h. h;
    drops = λ p h. h;
    gathers = λ p part g says from at count lacks h. h;
  }

pub delivery_transition-runs : (p : Plain) (m : LinkMessage) → (delivery_transition p m).0.running ≡ p.running
delivery_transition-runs p m = by_message (Runs p.running) (Leaves p.running) m (message_runs p.running m) p refl
