-- A node's messages have its chain's id.
use Rattle.std.proofs.Common.{◌≡◌, ℕ, ◌==◌, true, List, [], ◌∷◌, ◌++◌, cond, map, Option, Some, None, Ok, Err, refl}
use Rattle.std.specs.List.{AllByRecursion}
use Rattle.craq_names.specs.declared.refusal.Refusal.TheVariants as refusals
use Rattle.craq_model.specs.declared.ask.Event.{Event}
use Rattle.craq_model.specs.declared.ask.Event.TheVariants as events
use Rattle.craq_model.specs.declared.message.Body.{Body}
use Rattle.craq_model.specs.declared.message.Body.TheVariants as bodies
use Rattle.craq_model.specs.declared.message.LinkMessage.{LinkMessage}
use Rattle.craq_model.specs.declared.step.Out.{Out}
use Rattle.craq_model.specs.declared.step.Out.TheVariants as outs
use Rattle.craq_model.specs.declared.waiting.WaitingRead.{WaitingRead}
use Rattle.craq_model.specs.Deliveries.{acknowledgement_transition, delivery_transition, pending_updates}
use Rattle.craq_model.specs.Members.{last_of}
use Rattle.craq_model.specs.Node.{event_transition, is_for}
use Rattle.craq_model.specs.Plain.{Plain, is_last, is_tail, predecessor, successor}
use Rattle.craq_model.specs.Sends.{catch_up, queries, ready_sends, send, send_all, tick_sends, to_neighbour, unready_sends}
use Rattle.craq_model.specs.Settle.{Given, Transition, all_committed, all_given, answer_outs, settling_transition, transition_with, update_given}
use Rattle.craq_runs.specs.Chain.{sent_in}
use Rattle.craq_recovery.proofs.Lines.{ByAsk, ByMessage, IfTaken, by_ask, by_message, by_test}

module _ (chain : ℕ) where
  -- each message among the outputs has this chain's id
  abbrev pub AreOfChain : List LinkMessage → Type 0
  AreOfChain ms = AllByRecursion (λ (m : LinkMessage). m.chain ≡ chain) ms

  abbrev pub Speak : List Out → Type 0
  Speak os = AreOfChain (sent_in os)

  abbrev pub Speaks : Transition → Type 0
  Speaks t = Speak t.1.outs

  abbrev IsOf : Plain → Type 0
  IsOf p = p.name.chain ≡ chain

  nothing : (os : List Out) → os ≡ [] → Speak os
  unfolding sent_in
  nothing [] none = tt
  nothing (o ∷ os) none = absurd (cc)

  both : (os ps : List Out) → Speak os → Speak ps → Speak (os ++ ps)
  unfolding sent_in
  both [] ps a b = b
  both (outs.Send to m ∷ os) ps a b = (a.0, both os ps a.1 b)
  both (outs.Answer ticket answer ∷ os) ps a b = both os ps a b

  given : (gs : List Given) → Speak (answer_outs gs)
  unfolding sent_in
  given [] = tt
  given (g ∷ gs) = given gs

  all_sends : (p : Plain) (to : ℕ) (bs : List Body) → IsOf p → Speak (send_all p to bs)
  unfolding sent_in
  all_sends p to [] is = tt
  all_sends p to (b ∷ bs) is = (is, all_sends p to bs is)

  neighbour : (p : Plain) (o : Option ℕ) (bs : List Body) → IsOf p → Speak (to_neighbour o (λ to. send_all p to bs))
  neighbour p None bs is = nothing [] refl
  neighbour p (Some to) bs is = all_sends p to bs is

  asked : (p : Plain) (rs : List WaitingRead) → IsOf p → Speak (map (λ (r : WaitingRead). send p (last_of p.members) (bodies.Query r.ticket r.key)) rs)
  unfolding sent_in
  asked p [] is = tt
  asked p (r ∷ rs) is = (is, asked p rs is)

  ready_speaks : (p : Plain) → IsOf p → Speak (ready_sends p)
  unfolding ready_sends
  ready_speaks p is =
      let first : List Out = to_neighbour (successor p) (λ to. send_all p to (catch_up p p.past.acknowledged)) in
      let second : List Out = to_neighbour (predecessor p) (λ to. send p to (bodies.Ack p.past.acknowledged) ∷ []) in
      both (first ++ second) (cond (is_last p) [] (queries p))
      (both first second (neighbour p (successor p) (catch_up p p.past.acknowledged) is) (neighbour p (predecessor p) (bodies.Ack p.past.acknowledged ∷ []) is))
      (by_test (is_last p) Speak [] (queries p) (nothing [] refl) (asked p p.waiting_reads is))

  tick_speaks : (p : Plain) → IsOf p → Speak (tick_sends p)
  unfolding tick_sends unready_sends
  tick_speaks p is =
      by_test (p.epoch == 0) Speak [] (cond p.ready (ready_sends p) (unready_sends p)) (nothing [] refl)
      (by_test p.ready Speak (ready_sends p) (unready_sends p) (ready_speaks p is) (neighbour p (predecessor p) (_ ∷ []) is))

  settling_speaks : (p : Plain) → IsOf p → Speaks (settling_transition p)
  unfolding settling_transition
  settling_speaks p is =
      let answers : List Out = answer_outs (all_given p) in
      let sends : List Out = tick_sends (all_committed p) in
      by_test (is_tail p) Speaks (transition_with (all_committed p) (answers ++ sends)) (transition_with p (tick_sends p))
      (both answers sends (given (all_given p)) (tick_speaks (all_committed p) is)) (tick_speaks p is)

  acknowledgement_speaks : (p : Plain) (position : ℕ) → IsOf p → Speaks (acknowledgement_transition p position)
  unfolding acknowledgement_transition
  acknowledgement_speaks p position is =
      let pending : List Given = map update_given (pending_updates position p.waiting_updates) in
      both (answer_outs pending) (to_neighbour (predecessor p) (λ to. send p to (bodies.Ack position) ∷ [])) (given pending) (neighbour p (predecessor p) (bodies.Ack position ∷ []) is)

  message_speaks : (m : LinkMessage) → ByMessage IsOf Speaks m
  unfolding sent_in
  message_speaks m = record {
    silent = λ t none is. nothing t.1.outs none;
    sends = λ p past to bs is. neighbour p to bs is;
    joins = λ p epoch members is. settling_speaks (record p { epoch = epoch; members = members; floor = None; gathering = None }) is;
    readies = λ p is. settling_speaks (record p { ready = true; gathering = None }) is;
    commits = λ p position is. acknowledgement_speaks p position is;
    answers = λ p r answer is. tt;
    takes = λ p past floor is. is;
    drops = λ p is. is;
    gathers = λ p part g says from at count lacks is. is;
  }

  ask_speaks : ByAsk IsOf Speaks
  unfolding sent_in
  ask_speaks = record {
    answered = λ p past answer to bs is. neighbour p to bs is;
    waits = λ p past us to bs is. neighbour p to bs is;
    asks = λ p r bs dirty is. all_sends p (last_of p.members) bs is;
  }

  pub event_speaks : (p : Plain) (e : Event) → IsOf p → IfTaken Speaks (event_transition p e)
  event_speaks p (events.Ask ask) is = by_ask IsOf Speaks ask_speaks p ask is
  event_speaks p (events.Deliver m) is = by_test (is_for p m) (IfTaken Speaks) (Ok (delivery_transition p m)) (Err refusals.WrongNode) (by_message IsOf Speaks m (message_speaks m) p is) tt
  event_speaks p events.Tick is = tick_speaks p is
  event_speaks p events.Stop is = nothing [] refl
