-- The messages of a step can be numbered and encoded.
use Rattle.std.proofs.Common.{◌≡◌, ◌≤◌, ◌+◌, ◌^◌, ℕ, List, [], ◌∷◌, length, Result, Ok, Err, true, cond, refl, subst, arith}
use Rattle.std.specs.Prelude.{count_by}
use Rattle.std.specs.List.{AllByRecursion}
use Rattle.std.proofs.lemmas.List.Recursion.{is_count_by}
use Rattle.craq_names.specs.declared.refusal.Refusal.{Refusal}
use Rattle.craq_model.specs.declared.ask.Event.{Event}
use Rattle.craq_model.specs.declared.message.LinkMessage.{LinkMessage}
use Rattle.craq_model.specs.declared.step.Out.{Out}
use Rattle.craq_model.specs.declared.step.Out.TheVariants as outs
use Rattle.craq_model.specs.declared.step.Step.{Step}
use Rattle.craq_model.specs.Node.{event_transition, is_send, node_step, outs_fit, within_counts}
use Rattle.craq_model.specs.Plain.{Plain, id_of}
use Rattle.craq_model.specs.Settle.{Transition}
use Rattle.craq_model.specs.Encodable.{IsFromItsSender, IsEncodable}
use Rattle.craq_runs.specs.Chain.{sent_in}
use Rattle.craq_node_invariant.specs.Sound.{AreEncodable}
use Rattle.craq_seat.specs.declared.journal.Receipt.{Receipt}
use Rattle.craq_seat.specs.Numbered.{AreFrom, CanBeSent, named, numbered_from}
use Rattle.craq_seat.proofs.Senders.{sends_from}

-- ---- their number

counted_first : (o : Out) (os : List Out) → length (sent_in (o ∷ os)) ≡ cond (is_send o) (1 + length (sent_in os)) (length (sent_in os))
unfolding sent_in
counted_first (outs.Send to m) os = omega arith
counted_first (outs.Answer ticket answer) os = refl

counted_none : length (sent_in []) ≡ 0
unfolding sent_in
counted_none = refl

sends_counted : (os : List Out) → length (sent_in os) ≡ count_by is_send os
sends_counted os = is_count_by (λ os. length (sent_in os)) is_send counted_none counted_first os

fitting : (os : List Out) → outs_fit os ≡ true → count_by is_send os ≤ 2 ^ 32
unfolding outs_fit
fitting os h = grind arith

within : (r : Result Transition Refusal) (q : Plain) (s : Step) → within_counts r ≡ Ok (q, s) → outs_fit s.outs ≡ true
within (Ok t) q s h = grind (arith, h)
within (Err e) q s h = cc

node_fits : (p q : Plain) (e : Event) (s : Step) → node_step p e ≡ Ok (q, s) → outs_fit s.outs ≡ true
unfolding node_step
node_fits p q e s h = grind (arith, within (event_transition p e) q s)

-- ---- the outputs of a node's step

pub node_can_send : (p q : Plain) (e : Event) (s : Step) (stamp : ℕ) → node_step p e ≡ Ok (q, s) → 1 ≤ stamp → AreEncodable s.outs → CanBeSent (record { node = id_of p; stamp = stamp }) s.outs
node_can_send p q e s stamp h one spelled =
    record {
      stamp = one;
      senders = sends_from p q e s h;
      spelled = spelled;
      few = (let n = fitting s.outs (node_fits p q e s h) in let m = sends_counted s.outs in omega (arith, n, m));
    }

-- ---- numbered messages

one_encodable : (receipt : Receipt) (index : ℕ) (m : LinkMessage) → 1 ≤ receipt.stamp → m.sender ≡ receipt.node → IsEncodable m → IsEncodable (named receipt index m)
one_encodable receipt index m one own h =
    record {
      sender = subst (λ sender. IsFromItsSender sender m.body) own h.sender;
      receiver = h.receiver;
      stamp = one;
      epoch = h.epoch;
      body = h.body;
    }

numbers_encodable : (receipt : Receipt) (index : ℕ) (os : List Out) → 1 ≤ receipt.stamp → AreFrom receipt.node os → AreEncodable os → AllByRecursion IsEncodable (numbered_from index receipt (sent_in os))
unfolding sent_in
numbers_encodable receipt index [] one from spelled = tt
numbers_encodable receipt index (outs.Send to m ∷ os) one from spelled =
    (one_encodable receipt index m one from.0 spelled.0.0, numbers_encodable receipt (index + 1) os one from.2 spelled.1)
numbers_encodable receipt index (outs.Answer ticket answer ∷ os) one from spelled = numbers_encodable receipt index os one from spelled.1

pub sent_encodable : (receipt : Receipt) (os : List Out) → CanBeSent receipt os → AllByRecursion IsEncodable (numbered_from 0 receipt (sent_in os))
sent_encodable receipt os h = numbers_encodable receipt 0 os h.stamp h.senders h.spelled
