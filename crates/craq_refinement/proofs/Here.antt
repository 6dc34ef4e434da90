-- A node of a chain before its step, in the world that stands for the chain.
use Rattle.std.proofs.Common.{◌≡◌, ℕ, ◌<◌, ◌==◌, Bool, true, false, cond, List, [], Some, sym, subst, ◌∙◌}
use Rattle.std.proofs.lemmas.Bool.{cond_both, eqb-true}
use Rattle.craq_commands.specs.declared.entry.Entry.{Entry}
use Rattle.craq_model.specs.declared.message.LinkMessage.{LinkMessage}
use Rattle.craq_model.specs.declared.step.Why.{Why}
use Rattle.craq_model.specs.declared.step.Why.TheVariants.{OtherEpoch}
use Rattle.craq_model.specs.Plain.{Plain, id_of, predecessor, successor}
use Rattle.craq_model.specs.Settle.{Transition, transition_ignoring}
use Rattle.craq_model.specs.Deliveries.{transition_in_epoch}
use Rattle.craq_protocol.specs.Members.{is_member, is_next}
use Rattle.craq_protocol.specs.Machine as machine
use Rattle.craq_protocol.specs.Machine.{MachineState, Message, MachineMove, Take, after_move, after_receipt, known_membership}
use Rattle.craq_protocol.specs.Promises.{Sent, IsReached}
use Rattle.craq_protocol.proofs.Lists.{next_right}
use Rattle.craq_protocol.proofs.Invariant.{Invariant}
use Rattle.craq_protocol.proofs.Reached.{reached_inv}
use Rattle.craq_protocol.proofs.Effects.{take_does}
use Rattle.craq_runs.specs.Chain.{Chain, node_at}
use Rattle.craq_refinement.specs.Follows.{said, seen_of, NodeFollows, Follows}
use Rattle.craq_refinement.proofs.Members.{next_from_successor, next_from_predecessor}
use Rattle.craq_refinement.proofs.Stages.{TransitionFollows, ignored_follows}

pub record Here (c : Chain) (w : MachineState Entry) (p : Plain) : Type 0 where
  pub follows : Follows c w
  pub at : node_at c.nodes (id_of p) ≡ Some p
  pub running : p.running ≡ true

pub here_node : {c : Chain} {w : MachineState Entry} (p : Plain) → Here c w p → NodeFollows w (seen_of p)
here_node p h = let f : _ = h.follows in f.nodes (id_of p) p h.at

-- a test by which a message is ignored
pub guard : {Own : List (MachineMove Entry) → Type 0} {c : Chain} {w : MachineState Entry} (p : Plain) → Here c w p → Own [] → (b : Bool) (why : Why) (t : Transition)
    → (b ≡ false → TransitionFollows Own c w t) → TransitionFollows Own c w (cond b (transition_ignoring p why) t)
guard {Own} {c} {w} p h line b why t go =
    cond_both b (transition_ignoring p why) t (λ (t : Transition). TransitionFollows Own c w t) (λ e. ignored_follows h.follows p h.at h.running line why) go

pub in_epoch : {Own : List (MachineMove Entry) → Type 0} {c : Chain} {w : MachineState Entry} (p : Plain) → Here c w p → Own [] → (m : LinkMessage) (t : Transition)
    → (m.epoch ≡ p.epoch → TransitionFollows Own c w t) → TransitionFollows Own c w (transition_in_epoch p m t)
in_epoch {Own} {c} {w} p h line m t go =
    cond_both (m.epoch == p.epoch) t (transition_ignoring p OtherEpoch) (λ (t : Transition). TransitionFollows Own c w t)
    (λ e. go (eqb-true m.epoch p.epoch e))
    (λ e. ignored_follows h.follows p h.at h.running line OtherEpoch)

-- a message of the node's epoch arrives
pub takes : {w : MachineState Entry} (p : Plain) → NodeFollows w (seen_of p) → p.running ≡ true → (m : LinkMessage) (b : machine.MachineBody Entry) → m.receiver ≡ id_of p → m.epoch ≡ p.epoch
    → Sent w.messages (said m.epoch m.sender m.receiver b)
    → (k : ℕ) × (after_move w (Take (id_of p) k) ≡ after_receipt w (id_of p) m.sender b)
takes {w} p n u m b to ep s =
    let P : ℕ → Type 0 = λ j. Sent w.messages (said m.epoch m.sender j b) in
    let Q : ℕ → Type 0 = λ e. Sent w.messages (said e m.sender (id_of p) b) in
    take_does w (id_of p) m.sender b (n.running ∙ u) (subst Q (ep ∙ sym n.epoch) (subst P to s))

-- neighbours
pub pred_is_next : {c : Chain} {w : MachineState Entry} (p : Plain) → Here c w p → (s : ℕ) → predecessor p ≡ Some s → is_next (known_membership w (id_of p)) s (id_of p) ≡ true
pred_is_next p h s e =
    let n : _ = here_node p h in
    let P : List ℕ → Type 0 = λ l. is_next l s (id_of p) ≡ true in
    subst P (sym n.members) (next_from_predecessor p.members (id_of p) s e)

pub next_is_succ : {c : Chain} {w : MachineState Entry} (p : Plain) → Here c w p → (s : ℕ) → successor p ≡ Some s → is_next (known_membership w (id_of p)) (id_of p) s ≡ true
next_is_succ p h s e =
    let n : _ = here_node p h in
    let P : List ℕ → Type 0 = λ l. is_next l (id_of p) s ≡ true in
    subst P (sym n.members) (next_from_successor p.members (id_of p) s e)

pub with_pred_member : (p : Plain) (s : ℕ) → predecessor p ≡ Some s → is_member p.members (id_of p) ≡ true
with_pred_member p s e = next_right p.members s (id_of p) (next_from_predecessor p.members (id_of p) s e)

-- a ready node is a member of the membership that it knows
pub ready_member : {c : Chain} {w : MachineState Entry} (p : Plain) → Here c w p → IsReached w → p.ready ≡ true → is_member p.members (id_of p) ≡ true
ready_member {c} {w} p h r e =
    let n : NodeFollows w (seen_of p) = here_node p h in
    let i : Invariant w = reached_inv r in
    let late : 0 < w.epoch (id_of p) = i.clauses.ready_has_epoch (id_of p) (n.ready ∙ e) in
    let P : List ℕ → Type 0 = λ l. is_member l (id_of p) ≡ true in
    subst P n.members (i.clauses.is_member_there (id_of p) late)
