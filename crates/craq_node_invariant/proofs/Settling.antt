-- A sound node that adopts a membership, or becomes ready, stays sound.
use Rattle.std.proofs.Common.{◌≤◌, true, not, ◌&&◌, nat_lt, nat_le, None, List, [], ◌∷◌, ◌++◌, map, arith}
use Rattle.std.proofs.lemmas.Bool.{cond_both}
use Rattle.std.specs.List.{AllByRecursion}
use Rattle.craq_names.proofs.Lists.{all_append, all_map, all_each}
use Rattle.craq_model.specs.declared.step.Why.{Why}
use Rattle.craq_model.specs.declared.waiting.WaitingRead.{WaitingRead}
use Rattle.craq_model.specs.declared.waiting.WaitingUpdate.{WaitingUpdate}
use Rattle.craq_model.specs.Plain.{Plain, is_tail, length_of, acknowledging}
use Rattle.craq_model.specs.Sends.{tick_sends}
use Rattle.craq_model.specs.Parts.{gathered_position}
use Rattle.craq_model.specs.Settle.{Transition, transition_with, transition_ignoring, Given, update_given, read_given, insert_given, by_ticket, answer_outs, all_given, all_committed, settling_transition, is_reached, without_reached, readiness_transition}
use Rattle.craq_model.specs.Encodable.{IsReply}
use Rattle.craq_node_invariant.specs.Sound.{IsSound, IsEncodableAnswer}
use Rattle.craq_node_invariant.proofs.Objects.{newest_read}
use Rattle.craq_node_invariant.proofs.Sends.{IsEncodableIfFitting, AreEncodableIfFitting, tick_sent}

-- a transition to a sound node, whose outs have an encoding if their counts fit
abbrev pub IsSoundTransition : Transition → Type 0
IsSoundTransition t = IsSound t.0 × AreEncodableIfFitting t.1.outs

pub ignoring : (p : Plain) (why : Why) → IsSound p → IsSoundTransition (transition_ignoring p why)
ignoring p why s = (s, tt)

-- ---- replies

abbrev pub AreGiven : List Given → Type 0
AreGiven gs = AllByRecursion (λ (g : Given). IsEncodableAnswer g.1) gs

insert_keeps : (g : Given) (gs : List Given) → IsEncodableAnswer g.1 → AreGiven gs → AreGiven (insert_given g gs)
unfolding insert_given
insert_keeps g [] h a = (h, tt)
insert_keeps g (k ∷ ks) h a =
    cond_both (nat_lt g.0 k.0) (g ∷ k ∷ ks) (k ∷ insert_given g ks) (λ (gs : List Given). AreGiven gs) (λ e. (h, a)) (λ e. (a.0, insert_keeps g ks h a.1))

by_ticket_keeps : (gs : List Given) → AreGiven gs → AreGiven (by_ticket gs)
unfolding by_ticket
by_ticket_keeps [] a = tt
by_ticket_keeps (g ∷ gs) a = insert_keeps g (by_ticket gs) a.0 (by_ticket_keeps gs a.1)

pub updates_given : (us : List WaitingUpdate) → AllByRecursion (λ (u : WaitingUpdate). IsReply u.reply) us → AreGiven (map update_given us)
updates_given us a = all_map (λ (g : Given). IsEncodableAnswer g.1) update_given us a

all_are_given : (p : Plain) → IsSound p → AreGiven (all_given p)
unfolding all_given
all_are_given p s =
    by_ticket_keeps (map update_given p.waiting_updates ++ map (read_given p) p.waiting_reads)
    (all_append (λ (g : Given). IsEncodableAnswer g.1) (map update_given p.waiting_updates) (map (read_given p) p.waiting_reads)
    (updates_given p.waiting_updates s.replies)
    (all_map (λ (g : Given). IsEncodableAnswer g.1) (read_given p) p.waiting_reads
    (all_each (λ (r : WaitingRead). IsEncodableAnswer (read_given p r).1) p.waiting_reads (λ r. newest_read p r.key s))))

pub answers_encodable : (gs : List Given) → AreGiven gs → AreEncodableIfFitting (answer_outs gs)
answers_encodable [] a = tt
answers_encodable (g ∷ gs) a = (λ f. a.0, answers_encodable gs a.1)

-- ---- the node

pub committed_is : (p : Plain) → IsSound p → IsSound (acknowledging p (length_of p))
committed_is p s = grind arith

pub settling_is : (p : Plain) → IsSound p → IsSoundTransition (settling_transition p)
unfolding settling_transition
settling_is p s =
    let q : Plain = all_committed p in
    let t : IsSound q = grind arith in
    cond_both (is_tail p) (transition_with q (answer_outs (all_given p) ++ tick_sends q)) (transition_with p (tick_sends p)) (λ (t : Transition). IsSoundTransition t)
    (λ e. (t, all_append IsEncodableIfFitting (answer_outs (all_given p)) (tick_sends q) (answers_encodable (all_given p) (all_are_given p s)) (tick_sent q t)))
    (λ e. (s, tick_sent p s))

-- the node without its gathered parts
pub dropped_is : (p : Plain) → IsSound p → IsSound (record p { gathering = None })
dropped_is p s = assumption

without_reached_is : (p : Plain) → IsSound p → IsSound (without_reached p)
unfolding without_reached
without_reached_is p s =
    cond_both (nat_le (gathered_position p.gathering) (length_of p)) (record p { gathering = None }) p (λ (q : Plain). IsSound q) (λ e. dropped_is p s) (λ e. s)

-- a node that is in a membership and may become ready
pub readiness_is : (p : Plain) → IsSound p → 1 ≤ p.epoch → IsSoundTransition (readiness_transition p)
unfolding readiness_transition
readiness_is p s h =
    cond_both (not p.ready && is_reached p.floor (length_of p)) (settling_transition (record p { ready = true; gathering = None })) (transition_with (without_reached p) []) (λ (t : Transition). IsSoundTransition t)
    (λ e. settling_is (record p { ready = true; gathering = None }) (grind arith))
    (λ e. (without_reached_is p s, tt))
