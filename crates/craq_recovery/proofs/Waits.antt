-- Ticks and messages make no request wait.
use Rattle.std.proofs.Common.{◌==◌, nat_lt, true, not, None}
use Rattle.std.specs.List.{AllByRecursion}
use Rattle.craq_names.proofs.Lists.{all_filter}
use Rattle.craq_model.specs.declared.message.LinkMessage.{LinkMessage}
use Rattle.craq_model.specs.declared.waiting.WaitingRead.{WaitingRead}
use Rattle.craq_model.specs.declared.waiting.WaitingUpdate.{WaitingUpdate}
use Rattle.craq_model.specs.Deliveries.{acknowledgement_transition, later_updates, reads_without}
use Rattle.craq_model.specs.Plain.{Plain, is_tail}
use Rattle.craq_model.specs.Settle.{Transition, settling_transition}
use Rattle.craq_recovery.proofs.Travels.{Lasts, lasts_by}
use Rattle.craq_recovery.proofs.Lines.{ByMessage, by_message, by_test}

-- each update and each read that waits at the node has the property
abbrev pub Waiting : (WaitingUpdate → Type 0) → (WaitingRead → Type 0) → Plain → Type 0
Waiting P R p = AllByRecursion P p.waiting_updates × AllByRecursion R p.waiting_reads

module _ (P : WaitingUpdate → Type 0) (R : WaitingRead → Type 0) where
  abbrev AfterTransition : Transition → Type 0
  AfterTransition t = Waiting P R t.0

  settling_waits : (p : Plain) → Waiting P R p → AfterTransition (settling_transition p)
  unfolding settling_transition
  settling_waits p w = by_test (is_tail p) AfterTransition _ _ (tt, tt) w

  message_waits : (m : LinkMessage) → ByMessage (Waiting P R) AfterTransition m
  unfolding acknowledgement_transition later_updates reads_without
  message_waits m = record {
    silent = λ t none w. w;
    sends = λ p past to bs w. w;
    joins = λ p epoch members w. settling_waits (record p { epoch = epoch; members = members; floor = None; gathering = None }) w;
    readies = λ p w. settling_waits (record p { ready = true; gathering = None }) w;
    commits = λ p position w. (all_filter P (λ (u : WaitingUpdate). nat_lt position u.position) p.waiting_updates w.0, w.1);
    answers = λ p r answer w. (w.0, all_filter R (λ (x : WaitingRead). not (x.ticket == r.ticket)) p.waiting_reads w.1);
    takes = λ p past floor w. w;
    drops = λ p w. w;
    gathers = λ p part g says from at count lacks w. w;
  }

  pub waits_last : Lasts (Waiting P R)
  waits_last = lasts_by (Waiting P R) (λ p m w. by_message (Waiting P R) AfterTransition m (message_waits m) p w)
