-- A node adopts a later membership.
use Rattle.std.proofs.Common.{◌≡◌, inl, inr, ℕ, ◌<◌, nat_le, true, not, cond, List, [], ◌∷◌, None, refl, ap, sym, subst, ◌∙◌, arith}
use Rattle.std.proofs.lemmas.Bool.{not-false, leb-false}
use Rattle.craq_commands.specs.declared.entry.Entry.{Entry}
use Rattle.craq_model.specs.declared.step.Why.TheVariants.{OtherEpoch, NotNeighbour}
use Rattle.craq_model.specs.Members as model
use Rattle.craq_model.specs.Plain.{Plain, id_of}
use Rattle.craq_model.specs.Settle.{Transition, transition_ignoring, settling_transition}
use Rattle.craq_model.specs.Deliveries.{config_transition}
use Rattle.craq_protocol.specs.Members.{is_member, membership_of, with_value}
use Rattle.craq_protocol.specs.Machine.{MachineState, MachineMove, Adopt}
use Rattle.craq_protocol.proofs.Lists.{put_same, put_other}
use Rattle.craq_protocol.proofs.Effects.{adopt_does}
use Rattle.craq_runs.specs.Chain.{Chain}
use Rattle.craq_refinement.specs.Follows.{seen_of, NodeFollows}
use Rattle.craq_refinement.specs.Lines.{IsAdopting}
use Rattle.craq_refinement.proofs.Members.{is_member-same}
use Rattle.craq_refinement.proofs.Stages.{TransitionFollows}
use Rattle.craq_refinement.proofs.Settling.{Uncommitted, settling_follows}
use Rattle.craq_refinement.proofs.Here.{Here, here_node, guard}

adopted : {c : Chain} {w : MachineState Entry} (p : Plain) → Here c w p → (epoch : ℕ) (members : List ℕ) → membership_of w.memberships epoch ≡ members → p.epoch < epoch → is_member members (id_of p) ≡ true
    → Uncommitted c w (Adopt (id_of p) epoch ∷ []) (record w { epoch = with_value w.epoch (id_of p) epoch; floor = with_value w.floor (id_of p) None })
    (record p { epoch = epoch; members = members; floor = None; gathering = None })
adopted {c} {w} p h epoch members is lt m =
    let id : ℕ = id_of p in
    let n : NodeFollows w (seen_of p) = here_node p h in
    let P : List ℕ → Type 0 = λ l. is_member l id ≡ true in
    record {
      was = p;
      at = h.at;
      is = adopt_does w id epoch (n.running ∙ h.running) (omega (arith, n.epoch, lt)) (subst P (sym is) m);
      only = record {
        memberships = refl;
        joined = refl;
        messages = refl;
        running = λ n ne. refl;
        epoch = λ n ne. put_other w.epoch id epoch n ne;
        ready = λ n ne. refl;
        history = λ n ne. refl;
        acknowledged = λ n ne. refl;
        floor = λ n ne. put_other w.floor id None n ne;
      };
      node = record {
        running = n.running;
        epoch = put_same w.epoch id epoch;
        members = ap (membership_of w.memberships) (put_same w.epoch id epoch) ∙ is;
        ready = n.ready;
        history = n.history;
        placed = n.placed;
        acknowledged = n.acknowledged;
        based = n.based;
        floor = put_same w.floor id None;
        gathering = tt;
      };
      running = h.running;
      member = λ r. m;
    }

pub config_follows : {c : Chain} {w : MachineState Entry} (p : Plain) → Here c w p → (epoch : ℕ) (members : List ℕ) → membership_of w.memberships epoch ≡ members
    → TransitionFollows (IsAdopting (id_of p) epoch) c w (config_transition p epoch members)
unfolding config_transition
config_follows {c} {w} p h epoch members is =
    let Own : List (MachineMove Entry) → Type 0 = IsAdopting (id_of p) epoch in
    let none : Own [] = inl refl in
    let last : Transition = settling_transition (record p { epoch = epoch; members = members; floor = None; gathering = None }) in
    guard p h none (nat_le epoch p.epoch) OtherEpoch (cond (not (model.is_member members (id_of p))) (transition_ignoring p NotNeighbour) last)
    (λ a. guard p h none (not (model.is_member members (id_of p))) NotNeighbour last
    (λ b.
    let m : is_member members (id_of p) ≡ true = sym (is_member-same members (id_of p)) ∙ not-false (model.is_member members (id_of p)) b in
    settling_follows h.follows (adopted p h epoch members is (leb-false epoch p.epoch a) m) (inr refl)))
