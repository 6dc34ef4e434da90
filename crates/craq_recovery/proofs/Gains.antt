-- Nodes only gain by ticks and arrivals, since the protocol's nodes do.
use Rattle.std.proofs.Common.{◌≡◌, ℕ, ◌≤◌, true, List, [], ◌∷◌, length, Option, Some, None, Result, Ok, Err, refl, ap, sym, subst, ◌∙◌, arith}
use Rattle.std.proofs.lemmas.List.{length-append}
use Rattle.std.specs.List.{AllByRecursion}
use Rattle.craq_names.specs.declared.refusal.Refusal.{Refusal}
use Rattle.craq_commands.specs.declared.entry.Entry.{Entry}
use Rattle.craq_model.specs.Plain.{Plain, id_of, length_of}
use Rattle.craq_protocol.specs.Machine as machine
use Rattle.craq_protocol.specs.Machine.{MachineState}
use Rattle.craq_protocol.specs.Promises.{IsPrefix}
use Rattle.craq_protocol.specs.Promises as promises
use Rattle.craq_protocol.proofs.Reached.{reached_later, reached_run}
use Rattle.craq_refinement.specs.Follows.{Follows, NodeFollows, seen_of}
use Rattle.craq_refinement.specs.Lines.{CanFollow, IsFollowed}
use Rattle.craq_refinement.proofs.EachStep.{every_step}
use Rattle.craq_laws.proofs.Nodes.{node_id}
use Rattle.craq_refinement.proofs.Worlds.{history_length}
use Rattle.craq_runs.specs.declared.run.Move.{Move}
use Rattle.craq_runs.specs.Chain.{Chain, Progress, chain_step, is_running, node_at}
use Rattle.craq_runs.specs.Runs.{after_move, progressed}
use Rattle.craq_recovery.specs.Rounds.{after_moves_by}
use Rattle.craq_recovery.proofs.Onward.{IsTravel, Onward, onward_move}

-- the later node knows and holds at least what it did before
pub record Gains (p q : Plain) : Type 0 where
  pub epoch : p.epoch ≤ q.epoch
  pub ready : p.ready ≡ true → q.ready ≡ true
  pub acknowledged : p.past.acknowledged ≤ q.past.acknowledged
  pub held : length_of p ≤ length_of q

pub gains_self : (p : Plain) → Gains p p
gains_self p = record { epoch = omega arith; ready = λ r. r; acknowledged = omega arith; held = omega arith }

pub gains_on : {p q r : Plain} → Gains p q → Gains q r → Gains p r
gains_on a b = record {
  epoch = omega (arith, a.epoch, b.epoch);
  ready = λ h. b.ready (a.ready h);
  acknowledged = omega (arith, a.acknowledged, b.acknowledged);
  held = omega (arith, a.held, b.held);
}

pub prefix_length : {A : Type 0} {xs ys : List A} → IsPrefix xs ys → length xs ≤ length ys
prefix_length {A} {xs} {ys} p = omega (arith, length-append xs p.rest, ap length p.is)

gains_in : {c d : Chain} {w v : MachineState Entry} → Follows c w → Follows d v → promises.Later w v → (id : ℕ) (p q : Plain) → node_at c.nodes id ≡ Some p → node_at d.nodes id ≡ Some q → Gains p q
gains_in {c} {d} {w} {v} f g l id p q a b =
    let P : ℕ → Type 0 = λ k. node_at c.nodes k ≡ Some p in
    let Q : ℕ → Type 0 = λ k. node_at d.nodes k ≡ Some q in
    let m : NodeFollows w (seen_of p) = f.nodes (id_of p) p (subst P (sym (node_id c.nodes id p a)) a) in
    let n : NodeFollows v (seen_of q) = g.nodes (id_of q) q (subst Q (sym (node_id d.nodes id q b)) b) in
    let same : id_of p ≡ id_of q = node_id c.nodes id p a ∙ sym (node_id d.nodes id q b) in
    let E : ℕ → Type 0 = λ k. w.epoch (id_of p) ≤ v.epoch k in
    let R : ℕ → Type 0 = λ k. w.ready (id_of p) ≡ true → v.ready k ≡ true in
    let A : ℕ → Type 0 = λ k. w.acknowledged (id_of p) ≤ v.acknowledged k in
    let H : ℕ → Type 0 = λ k. length (w.history (id_of p)) ≤ length (v.history k) in
    let epoch : w.epoch (id_of p) ≤ v.epoch (id_of q) = subst E same (l.epoch (id_of p)) in
    let acknowledged : w.acknowledged (id_of p) ≤ v.acknowledged (id_of q) = subst A same (l.acknowledged (id_of p)) in
    let held : length (w.history (id_of p)) ≤ length (v.history (id_of q)) = subst H same (prefix_length (l.history (id_of p))) in
    record {
      epoch = omega (arith, epoch, m.epoch, n.epoch);
      ready = λ h. sym n.ready ∙ subst R same (l.ready (id_of p)) (m.ready ∙ h);
      acknowledged = omega (arith, acknowledged, m.acknowledged, n.acknowledged);
      held = omega (arith, held, history_length m.history, history_length n.history);
    }

-- from one chain to another: both stand for worlds of the protocol, and nodes gain
pub record Goes (c d : Chain) : Type 0 where
  pub followed : IsFollowed d
  pub gains : (id : ℕ) (p q : Plain) → node_at c.nodes id ≡ Some p → node_at d.nodes id ≡ Some q → Gains p q

same_node : (o : Option Plain) (p q : Plain) → o ≡ Some p → o ≡ Some q → Gains p q
same_node o p q a b = let e : p ≡ q = cc in let P : Plain → Type 0 = λ x. Gains p x in subst P e (gains_self p)

goes_by : (c : Chain) (m : Move) → IsFollowed c → (r : Result Progress Refusal) → chain_step c m ≡ r → Goes c (progressed c r)
goes_by c m f (Ok x) is =
    let w : MachineState Entry = f.0 in
    let g : CanFollow w x.0 = every_step c w m x f.2 f.1 is in
    record { followed = (machine.after_moves w g.0, reached_run f.1 g.0, g.1); gains = λ id p q a b. gains_in f.2 g.1 (reached_later f.1 g.0) id p q a b }
goes_by c m f (Err e) is = record { followed = f; gains = λ id p q a b. same_node (node_at c.nodes id) p q a b }

pub goes_move : (c : Chain) (m : Move) → IsFollowed c → Goes c (after_move c m)
goes_move c m f = goes_by c m f (chain_step c m) refl

pub followed_moves : (ms : List Move) (c : Chain) → IsFollowed c → IsFollowed (after_moves_by after_move c ms)
followed_moves [] c f = f
followed_moves (m ∷ ms) c f = let g : Goes c (after_move c m) = goes_move c m f in followed_moves ms (after_move c m) g.followed

-- ---- a node that runs, later

pub record Later (d : Chain) (id : ℕ) (p : Plain) : Type 0 where
  pub node : Plain
  pub at : node_at d.nodes id ≡ Some node
  pub runs : node.running ≡ true
  pub gains : Gains p node

later_some : (c d : Chain) (id : ℕ) (p : Plain) → Goes c d → Later c id p → (o : Option Plain) → node_at d.nodes id ≡ o → is_running o ≡ true → Later d id p
later_some c d id p g l None at runs = absurd (cc)
later_some c d id p g l (Some q) at runs = record { node = q; at = at; runs = runs; gains = gains_on l.gains (g.gains id l.node q l.at at) }

pub later_move : (c : Chain) (m : Move) (id : ℕ) (p : Plain) → IsTravel m → IsFollowed c → Later c id p → Later (after_move c m) id p
later_move c m id p t f l =
    let on : Onward c (after_move c m) = onward_move c m t in
    later_some c (after_move c m) id p (goes_move c m f) l (node_at (after_move c m).nodes id) refl (on.running id ∙ (ap is_running l.at ∙ l.runs))

pub later_moves : (ms : List Move) (c : Chain) (id : ℕ) (p : Plain) → AllByRecursion IsTravel ms → IsFollowed c → Later c id p → Later (after_moves_by after_move c ms) id p
later_moves [] c id p t f l = l
later_moves (m ∷ ms) c id p t f l =
    let g : Goes c (after_move c m) = goes_move c m f in
    later_moves ms (after_move c m) id p t.1 g.followed (later_move c m id p t.0 f l)

pub later_here : (c : Chain) (id : ℕ) (p : Plain) → node_at c.nodes id ≡ Some p → p.running ≡ true → Later c id p
later_here c id p at runs = record { node = p; at = at; runs = runs; gains = gains_self p }
