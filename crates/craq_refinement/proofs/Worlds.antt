-- Worlds that differ only at one node.
use Rattle.std.proofs.Common.{◌≡◌, ◌≢◌, ℕ, Bool, true, false, ◌&&◌, ◌==◌, List, length, Option, Some, None, refl, ap, sym, subst, ◌∙◌, ◌+◌, arith, length-append}
use Rattle.std.proofs.lemmas.Bool.{cond_both}
use Rattle.craq_names.proofs.Lists.{all_like}
use Rattle.craq_commands.specs.declared.entry.Entry.{Entry}
use Rattle.craq_commands.specs.declared.state.State.{State}
use Rattle.craq_model.specs.Members.{last_of}
use Rattle.craq_model.specs.declared.gathering.Gathering.{Gathering}
use Rattle.craq_model.specs.declared.message.StatePart.{StatePart}
use Rattle.craq_model.specs.Past.{acknowledged_in, length_in}
use Rattle.craq_protocol.specs.Members.{is_member, is_last, membership_of, with_value}
use Rattle.craq_protocol.specs.Machine as machine
use Rattle.craq_protocol.specs.Promises.{Sent}
use Rattle.craq_protocol.specs.Machine.{MachineState, Message, known_membership, is_tail, after_commit}
use Rattle.craq_protocol.proofs.Lists.{put_same, put_other}
use Rattle.craq_protocol.proofs.Effects.{commit_tail, commit_other}
use Rattle.craq_refinement.specs.Follows.{IsHistory, IsPlaced, PartFollows, PartWasSent, held_part, AreGathered, said, ProtocolView, NodeFollows}
use Rattle.craq_refinement.proofs.Members.{last_of-same}

pub record OnlyAt (id : ℕ) (w v : MachineState Entry) : Type 0 where
  pub memberships : v.memberships ≡ w.memberships
  pub joined : v.joined ≡ w.joined
  pub messages : v.messages ≡ w.messages
  pub running : (n : ℕ) → n ≢ id → v.running n ≡ w.running n
  pub epoch : (n : ℕ) → n ≢ id → v.epoch n ≡ w.epoch n
  pub ready : (n : ℕ) → n ≢ id → v.ready n ≡ w.ready n
  pub history : (n : ℕ) → n ≢ id → v.history n ≡ w.history n
  pub acknowledged : (n : ℕ) → n ≢ id → v.acknowledged n ≡ w.acknowledged n
  pub floor : (n : ℕ) → n ≢ id → v.floor n ≡ w.floor n

pub only_self : (id : ℕ) (w : MachineState Entry) → OnlyAt id w w
only_self id w = record {
  memberships = refl;
  joined = refl;
  messages = refl;
  running = λ n ne. refl;
  epoch = λ n ne. refl;
  ready = λ n ne. refl;
  history = λ n ne. refl;
  acknowledged = λ n ne. refl;
  floor = λ n ne. refl;
}

pub only_trans : {id : ℕ} {u v w : MachineState Entry} → OnlyAt id u v → OnlyAt id v w → OnlyAt id u w
only_trans a b = record {
  memberships = b.memberships ∙ a.memberships;
  joined = b.joined ∙ a.joined;
  messages = b.messages ∙ a.messages;
  running = λ n ne. b.running n ne ∙ a.running n ne;
  epoch = λ n ne. b.epoch n ne ∙ a.epoch n ne;
  ready = λ n ne. b.ready n ne ∙ a.ready n ne;
  history = λ n ne. b.history n ne ∙ a.history n ne;
  acknowledged = λ n ne. b.acknowledged n ne ∙ a.acknowledged n ne;
  floor = λ n ne. b.floor n ne ∙ a.floor n ne;
}

-- an equal history
pub history_like : {base : ℕ} {state : State} {entries h k : List Entry} → IsHistory base state entries h → k ≡ h → IsHistory base state entries k
history_like {base} {state} {entries} a e = let P : List Entry → Type 0 = λ l. IsHistory base state entries l in subst P (sym e) a

pub placed_like : {h k : List Entry} → IsPlaced 0 h → k ≡ h → IsPlaced 0 k
placed_like a e = let P : List Entry → Type 0 = λ l. IsPlaced 0 l in subst P (sym e) a

-- the length of a node's history
pub history_length : {base : ℕ} {state : State} {entries h : List Entry} → IsHistory base state entries h → length h ≡ (base + length entries)
history_length {base} {state} {entries} {h} a = omega (arith, length-append a.front entries, ap length a.whole, a.count)

-- ---- sent messages stay sent

pub part_later : (old new : List (Message Entry)) → ((m : Message Entry) → Sent old m → Sent new m) → (epoch from to : ℕ) (part : StatePart) → PartFollows old epoch from to part → PartFollows new epoch from to part
part_later old new kept epoch from to part f =
    record { entries = f.entries; count = f.count; placed = f.placed; first = f.first; last = f.last; share = f.share; sent = kept (said epoch from to (machine.Copy f.entries)) f.sent }

pub gathered_later : (old new : List (Message Entry)) → ((m : Message Entry) → Sent old m → Sent new m) → (o : Option Gathering) → AreGathered old o → AreGathered new o
gathered_later old new kept None a = tt
gathered_later old new kept (Some g) a = record {
  numbers_rise = a.numbers_rise;
  parts = all_like (λ (held : ℕ × State). PartWasSent old (held_part g held)) (λ (held : ℕ × State). PartWasSent new (held_part g held)) g.parts
      (λ held h. (h.0, h.1, h.2, part_later old new kept h.0 h.1 h.2 (held_part g held) h.3)) a.parts;
}

pub gathered_like : {old new : List (Message Entry)} (o : Option Gathering) → AreGathered old o → new ≡ old → AreGathered new o
gathered_like {old} {new} o a e = let P : List (Message Entry) → Type 0 = λ l. AreGathered l o in subst P (sym e) a

-- the other nodes stay
pub others_follow : {id : ℕ} {w v : MachineState Entry} → OnlyAt id w v → (s : ProtocolView) → s.id ≢ id → NodeFollows w s → NodeFollows v s
others_follow {id} {w} {v} o s ne n = record {
  running = o.running s.id ne ∙ n.running;
  epoch = o.epoch s.id ne ∙ n.epoch;
  members = (ap (λ (cs : List (List ℕ)). membership_of cs (v.epoch s.id)) o.memberships ∙ ap (membership_of w.memberships) (o.epoch s.id ne)) ∙ n.members;
  ready = o.ready s.id ne ∙ n.ready;
  history = history_like n.history (o.history s.id ne);
  placed = placed_like n.placed (o.history s.id ne);
  acknowledged = o.acknowledged s.id ne ∙ n.acknowledged;
  based = n.based;
  floor = o.floor s.id ne ∙ n.floor;
  gathering = gathered_like s.gathering n.gathering o.messages;
}

-- ---- a tail commits

pub only_commit : (w : MachineState Entry) (id : ℕ) → OnlyAt id w (after_commit w id)
only_commit w id =
    cond_both (is_tail w id) (record w { acknowledged = with_value w.acknowledged id (length (w.history id)); log = w.history id }) w (λ (v : MachineState Entry). OnlyAt id w v)
    (λ e. record {
      memberships = refl;
      joined = refl;
      messages = refl;
      running = λ n ne. refl;
      epoch = λ n ne. refl;
      ready = λ n ne. refl;
      history = λ n ne. refl;
      acknowledged = λ n ne. put_other w.acknowledged id (length (w.history id)) n ne;
      floor = λ n ne. refl;
    })
    (λ e. only_self id w)

and_like : (a b c : Bool) → (a ≡ true → b ≡ c) → (a && b) ≡ (a && c)
and_like true b c f = f refl
and_like false b c f = refl

-- the node is a tail exactly if it is one in the world
pub is_tail-seen : (w : MachineState Entry) (s : ProtocolView) → NodeFollows w s → s.running ≡ true → (s.ready ≡ true → is_member s.members s.id ≡ true)
    → is_tail w s.id ≡ (s.ready && (last_of s.members == s.id))
is_tail-seen w s n u h =
    ap (λ b. (b && w.ready s.id) && is_last (known_membership w s.id) s.id) (n.running ∙ u)
    ∙ (ap (λ b. b && is_last (known_membership w s.id) s.id) n.ready
    ∙ (ap (λ c. s.ready && is_last c s.id) n.members
    ∙ and_like s.ready (is_last s.members s.id) (last_of s.members == s.id) (λ r. sym (last_of-same s.members s.id (h r)))))

-- the node once a tail committed
abbrev pub committed_seen : ProtocolView → ProtocolView
committed_seen s = record s { past = acknowledged_in s.past (length_in s.past) }

pub tail_follows : (w : MachineState Entry) (s : ProtocolView) → NodeFollows w s → is_tail w s.id ≡ true → NodeFollows (after_commit w s.id) (committed_seen s)
tail_follows w s n e =
    let v : MachineState Entry = record w { acknowledged = with_value w.acknowledged s.id (length (w.history s.id)); log = w.history s.id } in
    let P : MachineState Entry → Type 0 = λ v. NodeFollows v (committed_seen s) in
    subst P (sym (commit_tail w s.id e)) (record {
      running = n.running;
      epoch = n.epoch;
      members = n.members;
      ready = n.ready;
      history = n.history;
      placed = n.placed;
      acknowledged = put_same w.acknowledged s.id (length (w.history s.id)) ∙ history_length n.history;
      based = omega arith;
      floor = n.floor;
      gathering = n.gathering;
    })

pub other_follows : (w : MachineState Entry) (s : ProtocolView) → NodeFollows w s → is_tail w s.id ≡ false → NodeFollows (after_commit w s.id) s
other_follows w s n e = let P : MachineState Entry → Type 0 = λ v. NodeFollows v s in subst P (sym (commit_other w s.id e)) n
