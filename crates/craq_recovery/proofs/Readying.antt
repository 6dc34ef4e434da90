-- In each round one more member becomes ready, and holds the entries of the first one.
use Rattle.std.proofs.Common.{◌≡◌, ℕ, suc, ◌≤◌, Bool, true, false, List, [], ◌∷◌, ◌++◌, append_assoc, length, Some, sym, subst, ◌∙◌, arith}
use Rattle.std.proofs.lemmas.Bool.{cond_both}
use Rattle.std.specs.List.{AllByRecursion}
use Rattle.craq_names.proofs.Lists.{all_like}
use Rattle.craq_model.specs.Members.{is_member}
use Rattle.craq_model.specs.Plain.{Plain, id_of, length_of}
use Rattle.craq_runs.specs.declared.run.Move.{Move}
use Rattle.craq_runs.specs.Chain.{Chain, node_at}
use Rattle.craq_runs.specs.Runs.{after_move}
use Rattle.craq_laws.proofs.Nodes.{node_id}
use Rattle.craq_recovery.specs.Recovered.{AreNeighbours, HearsAt, HoldsEntries, IsReadyAt, Knows, after_round}
use Rattle.craq_recovery.specs.Rounds.{after_moves_by, after_rounds, round}
use Rattle.craq_recovery.specs.Taken.{HaveNumbers, HaveNumbersFor}
use Rattle.craq_recovery.proofs.Entries.{HoldsSo, entries_cross}
use Rattle.craq_recovery.proofs.Extending.{IsReachedBy}
use Rattle.craq_recovery.proofs.Gains.{Gains, Later, followed_moves}
use Rattle.craq_recovery.proofs.Heads.{Good, facing, in_members, knows_later}
use Rattle.craq_recovery.proofs.Spreading.{Hands, reaches_all}
use Rattle.craq_recovery.proofs.Hearing.{knows_at}
use Rattle.craq_recovery.proofs.Ids.{not_master}
use Rattle.craq_recovery.proofs.Onward.{onward_moves}
use Rattle.craq_recovery.proofs.Replying.{joins}
use Rattle.craq_recovery.proofs.Tails.{good_there, reached_round}
use Rattle.craq_recovery.proofs.Taking.{round_travels}
use Rattle.craq_recovery.proofs.Travels.{NodeIs}

-- the node of an id is ready, knows the membership and holds this number of entries
pub record Stands (least : ℕ) (c : Chain) (id : ℕ) : Type 0 where
  pub node : Plain
  pub at : node_at c.nodes id ≡ Some node
  pub knows : Knows c node
  pub ready : node.ready ≡ true
  pub holds : least ≤ length_of node

-- a node that knows the membership also knows it a round later
hears_later : (count : ℕ) (c : Chain) → Good c → (id : ℕ) → HearsAt c id → HearsAt (after_round count c) id
hears_later count c g id h =
    let k : (l : Later (after_round count c) id h.0) × Knows (after_round count c) l.node = knows_later count c id h.0 g h.1 h.2 in
    let l : Later (after_round count c) id h.0 = k.0 in
    (l.node, l.at, k.1)

stands_later : (count : ℕ) (c : Chain) (least : ℕ) → Good c → (id : ℕ) → Stands least c id → Stands least (after_round count c) id
stands_later count c least g id s =
    let k : (l : Later (after_round count c) id s.node) × Knows (after_round count c) l.node = knows_later count c id s.node g s.at s.knows in
    let l : Later (after_round count c) id s.node = k.0 in
    let gains : Gains s.node l.node = l.gains in
    record { node = l.node; at = l.at; knows = k.1; ready = gains.ready s.ready; holds = omega (arith, gains.held, s.holds) }

-- ---- one round

-- a ready member's successor is ready after a round of two hops, and holds the member's entries
pub next_ready : (chain count : ℕ) (c : Chain) (p q : Plain) → IsReachedBy chain c → Good c → AreNeighbours c p q → is_member c.members (id_of p) ≡ true → is_member c.members (id_of q) ≡ true → p.ready ≡ true
    → HaveNumbers c (round after_move (suc (suc count)) c) → NodeIs (after_moves_by after_move c (round after_move (suc (suc count)) c)) (id_of q) (HoldsSo c.epoch (length_of p))
next_ready chain count c p q r g n mp mq ready numbers =
    let some_p : 1 ≤ id_of p = not_master c.nodes (id_of p) p n.earlier g.ids in
    let some_q : 1 ≤ id_of q = not_master c.nodes (id_of q) q n.later g.ids in
    cond_both q.ready true false (λ (b : Bool). NodeIs (after_moves_by after_move c (round after_move (suc (suc count)) c)) (id_of q) (HoldsSo c.epoch (length_of p)))
    (λ e. entries_cross chain (suc count) c p q r g.sound g.followed (λ z. absurd (omega (arith, some_p, z))) n.earlier n.later n.earlier_knows n.later_knows ready e mp n.after n.before numbers)
    (λ e. joins chain count c p q r g.sound g.followed (λ z. absurd (omega (arith, some_q, z))) n.earlier n.later n.earlier_knows n.later_knows ready e mq n.after n.before numbers)

stands_next : (chain count : ℕ) (c : Chain) (least : ℕ) (front : List ℕ) (a b : ℕ) (rest : List ℕ) → IsReachedBy chain c → front ++ a ∷ b ∷ rest ≡ c.members → Stands least c a → HearsAt c b
    → HaveNumbers c (round after_move (suc (suc count)) c) → Stands least (after_round (suc (suc count)) c) b
stands_next chain count c least front a b rest r is sa hb numbers =
    let ms : List Move = round after_move (suc (suc count)) c in
    let d : Chain = after_moves_by after_move c ms in
    let g : Good c = good_there chain c r in
    let p : Plain = sa.node in
    let q : Plain = hb.0 in
    let own_p : id_of p ≡ a = node_id c.nodes a p sa.at in
    let own_q : id_of q ≡ b = node_id c.nodes b q hb.1 in
    let n : AreNeighbours c p q = facing c front a b rest g is p q sa.at hb.1 sa.knows hb.2 in
    let M : ℕ → Type 0 = λ i. is_member c.members i ≡ true in
    let whole : (front ++ a ∷ []) ++ b ∷ rest ≡ c.members = append_assoc front (a ∷ []) (b ∷ rest) ∙ is in
    let i : NodeIs d (id_of q) (HoldsSo c.epoch (length_of p)) =
    next_ready chain count c p q r g n (subst M (sym own_p) (in_members c front a (b ∷ rest) is)) (subst M (sym own_q) (in_members c (front ++ a ∷ []) b rest whole)) sa.ready numbers in
    let h : HoldsSo c.epoch (length_of p) i.node = i.holds in
    let N : ℕ → Type 0 = λ j. node_at d.nodes j ≡ Some i.node in
    let at : node_at d.nodes b ≡ Some i.node = subst N own_q i.at in
    record {
      node = i.node;
      at = at;
      knows = knows_at c d b (onward_moves ms c (round_travels (suc (suc count)) c)) (followed_moves ms c g.followed) (record { node = i.node; at = at; runs = i.runs; late = h.late });
      ready = h.ready;
      holds = omega (arith, h.holds, sa.holds);
    }

-- ---- rounds

stood_on : (chain count least : ℕ) → Hands (suc (suc count)) (IsReachedBy chain) HearsAt (Stands least)
stood_on chain count least = record {
  keeps = λ c r. reached_round chain (suc (suc count)) c r;
  waits = λ c r id h. hears_later (suc (suc count)) c (good_there chain c r) id h;
  stays = λ c r id s. stands_later (suc (suc count)) c least (good_there chain c r) id s;
  hands = λ c r front a b rest is s h numbers. stands_next chain count c least front a b rest r is s h numbers;
}

-- all members are as the first one was, after as many rounds as there are members
pub all_stand : (chain count least rounds : ℕ) (c : Chain) (m : ℕ) (ms : List ℕ) → IsReachedBy chain c → m ∷ ms ≡ c.members → length (m ∷ ms) ≤ rounds → AllByRecursion (HearsAt c) (m ∷ ms) → Stands least c m
    → HaveNumbersFor (suc (suc count)) rounds c → AllByRecursion (Stands least (after_rounds after_move (suc (suc count)) rounds c)) (m ∷ ms)
all_stand chain count least rounds c m ms r is le hear first numbers =
    reaches_all (suc (suc count)) (IsReachedBy chain) HearsAt (Stands least) (stood_on chain count least) rounds c m ms r is le hear.1 first numbers

pub are_ready : (c : Chain) (least : ℕ) (ids : List ℕ) → AllByRecursion (Stands least c) ids → AllByRecursion (IsReadyAt c) ids
are_ready c least ids a = all_like (Stands least c) (IsReadyAt c) ids (λ id s. record { node = s.node; at = s.at; knows = s.knows; ready = s.ready }) a

pub hold_all : (c : Chain) (least : ℕ) (ids : List ℕ) → AllByRecursion (Stands least c) ids → AllByRecursion (λ id. HoldsEntries c id least) ids
hold_all c least ids a = all_like (Stands least c) (λ id. HoldsEntries c id least) ids (λ id s. record { node = s.node; at = s.at; holds = s.holds }) a
