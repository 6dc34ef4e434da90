-- The entries that the last member knows to be committed become known to each member, one member a
-- round.
use Rattle.std.proofs.Common.{◌≡◌, ℕ, zero, suc, ◌+◌, ◌≤◌, ◌==◌, true, false, List, [], ◌∷◌, ◌++◌, append_assoc, length, Some, slice_get, refl, ap, sym, subst, ◌∙◌, arith}
use Rattle.std.proofs.lemmas.Bool.{both_ways, cond-true, cond-false, eq-eqb, eqb-true, false_from_ne_true, or_left, or_right}
use Rattle.std.specs.List.{AllByRecursion}
use Rattle.craq_names.proofs.Lists.{all_like}
use Rattle.craq_commands.specs.declared.entry.Entry.{Entry}
use Rattle.craq_model.specs.Members.{is_member, last_of, predecessor_in, successor_in}
use Rattle.craq_model.specs.Plain.{Plain, id_of}
use Rattle.craq_protocol.specs.Machine.{MachineState}
use Rattle.craq_protocol.specs.Members.{IsDistinct}
use Rattle.craq_protocol.specs.Members as protocol
use Rattle.craq_protocol.specs.Promises.{IsSafe}
use Rattle.craq_protocol.proofs.Reached.{reached_safe}
use Rattle.craq_refinement.specs.Follows.{Follows}
use Rattle.craq_refinement.specs.Lines.{IsFollowed}
use Rattle.craq_refinement.proofs.EachStep.{every_run}
use Rattle.craq_refinement.proofs.Members.{is_member-same}
use Rattle.craq_refinement.proofs.Lists.{all_back}
use Rattle.craq_laws.proofs.Nodes.{node_id}
use Rattle.craq_runs.specs.declared.run.Move.{Move}
use Rattle.craq_runs.specs.declared.run.Run.{Run}
use Rattle.craq_runs.specs.Chain.{Chain, node_at}
use Rattle.craq_runs.specs.Runs.{IsRunOf, after_move}
use Rattle.craq_recovery.specs.Recovered.{AllReady, AreNeighbours, IsReadyAt, Knows, KnowsCommitted, after_round, chain_after_moves}
use Rattle.craq_recovery.specs.Rounds.{after_moves_by, after_rounds, round}
use Rattle.craq_recovery.specs.Taken.{HaveNumbers, HaveNumbersFor}
use Rattle.craq_recovery.proofs.Acks.{ack_crosses}
use Rattle.craq_recovery.proofs.Gains.{Gains, Later, followed_moves, later_here, later_moves}
use Rattle.craq_recovery.proofs.Hearing.{Informed, knows_at}
use Rattle.craq_recovery.proofs.Ids.{NoneIsMaster, none_after, none_is_master, not_master}
use Rattle.craq_recovery.proofs.Onward.{Onward, onward_moves, sound_moves}
use Rattle.craq_recovery.proofs.Sound.{Sound, sound_after}
use Rattle.craq_recovery.proofs.Taking.{round_travels}
use Rattle.craq_recovery.proofs.Travels.{NodeIs}

-- ---- neighbours in a list of distinct ids

apart : (a b : ℕ) → (a == b) ≡ false → (b == a) ≡ false
apart a b h = false_from_ne_true (b == a) (λ e. both_ways (a == b) h (eq-eqb a b (sym (eqb-true b a e))))

self_is : (a : ℕ) → (a == a) ≡ true
self_is a = eq-eqb a a refl

-- the id is in the list
pub stands : (front : List ℕ) (a : ℕ) (rest : List ℕ) → protocol.is_member (front ++ a ∷ rest) a ≡ true
unfolding protocol.is_member
stands [] a rest = or_left (a == a) (protocol.is_member rest a) (self_is a)
stands (m ∷ front) a rest = or_right (m == a) (protocol.is_member (front ++ a ∷ rest) a) (stands front a rest)

other_than : (m a : ℕ) (front rest : List ℕ) → protocol.is_member (front ++ a ∷ rest) m ≡ false → (m == a) ≡ false
other_than m a front rest h =
    false_from_ne_true (m == a)
    (λ e. let same : m ≡ a = eqb-true m a e in
    let P : ℕ → Type 0 = λ i. protocol.is_member (front ++ a ∷ rest) i ≡ false in
    both_ways (protocol.is_member (front ++ a ∷ rest) a) (subst P same h) (stands front a rest))

pub successor_there : (front : List ℕ) (a b : ℕ) (rest : List ℕ) → IsDistinct (front ++ a ∷ b ∷ rest) → successor_in (front ++ a ∷ b ∷ rest) a ≡ Some b
unfolding successor_in
successor_there [] a b rest d = cond-true (a == a) (Some b) (successor_in (b ∷ rest) a) (self_is a)
successor_there (m ∷ front) a b rest d = cond-false (m == a) (slice_get (front ++ a ∷ b ∷ rest) 0) (successor_in (front ++ a ∷ b ∷ rest) a) (other_than m a front (b ∷ rest) d.0) ∙ successor_there front a b rest d.1

pub predecessor_there : (front : List ℕ) (a b : ℕ) (rest : List ℕ) → IsDistinct (front ++ a ∷ b ∷ rest) → predecessor_in (front ++ a ∷ b ∷ rest) b ≡ Some a
unfolding predecessor_in
predecessor_there [] a b rest d = cond-true (b == b) (Some a) (predecessor_in (b ∷ rest) b) (self_is b)
predecessor_there (m ∷ []) a b rest d = cond-false (a == b) (Some m) (predecessor_in (a ∷ b ∷ rest) b) (other_than a b [] rest d.1.0) ∙ predecessor_there [] a b rest d.1
predecessor_there (m ∷ k ∷ front) a b rest d =
    let P : List ℕ → Type 0 = λ l. protocol.is_member l k ≡ false in
    cond-false (k == b) (Some m) (predecessor_in (k ∷ front ++ a ∷ b ∷ rest) b) (other_than k b (front ++ a ∷ []) rest (subst P (sym (append_assoc front (a ∷ []) (b ∷ rest))) d.1.0)) ∙ predecessor_there (k ∷ front) a b rest d.1

-- ---- chains with these invariants

pub record Good (c : Chain) : Type 0 where
  pub sound : Sound c
  pub followed : IsFollowed c
  pub ids : NoneIsMaster c.nodes

ids_moves : (ms : List Move) (c : Chain) → NoneIsMaster c.nodes → NoneIsMaster (after_moves_by after_move c ms).nodes
ids_moves [] c h = h
ids_moves (m ∷ ms) c h = ids_moves ms (after_move c m) (none_after c m h)

pub good_moves : (ms : List Move) (c : Chain) → Good c → Good (after_moves_by after_move c ms)
good_moves ms c g = record { sound = sound_moves ms c g.sound; followed = followed_moves ms c g.followed; ids = ids_moves ms c g.ids }

pub good_run : (chain : ℕ) (run : Run) → IsRunOf chain run → Good (chain_after_moves chain run)
good_run chain run is = record { sound = sound_after chain run.members run.moves; followed = every_run chain run is; ids = none_is_master chain run is }

-- a node that knows the membership knows it a round later, and has only gained
pub knows_later : (count : ℕ) (c : Chain) (id : ℕ) (p : Plain) → Good c → node_at c.nodes id ≡ Some p → Knows c p → (l : Later (after_round count c) id p) × Knows (after_round count c) l.node
knows_later count c id p g at k =
    let ms : List Move = round after_move count c in
    let d : Chain = after_moves_by after_move c ms in
    let l : Later d id p = later_moves ms c id p (round_travels count c) g.followed (later_here c id p at k.running) in
    let gains : Gains p l.node = l.gains in
    let i : Informed d id c.epoch = record { node = l.node; at = l.at; runs = l.runs; late = omega (arith, gains.epoch, k.epoch) } in
    (l, knows_at c d id (onward_moves ms c (round_travels count c)) (followed_moves ms c g.followed) i)

-- a ready node stays ready, and knows the membership
pub ready_later : (count : ℕ) (c : Chain) → Good c → (id : ℕ) → IsReadyAt c id → IsReadyAt (after_round count c) id
ready_later count c g id r =
    let k : (l : Later (after_round count c) id r.node) × Knows (after_round count c) l.node = knows_later count c id r.node g r.at r.knows in
    let l : Later (after_round count c) id r.node = k.0 in
    let gains : Gains r.node l.node = l.gains in
    record { node = l.node; at = l.at; knows = k.1; ready = gains.ready r.ready }

committed_later : (count : ℕ) (c : Chain) (id least : ℕ) → Good c → IsReadyAt c id → KnowsCommitted c id least → KnowsCommitted (after_round count c) id least
committed_later count c id least g r k =
    let same : r.node ≡ k.node = let a : node_at c.nodes id ≡ Some r.node = r.at in let b : node_at c.nodes id ≡ Some k.node = k.at in cc in
    let l : Later (after_round count c) id r.node = (knows_later count c id r.node g r.at r.knows).0 in
    let gains : Gains r.node l.node = l.gains in
    record { node = l.node; at = l.at; knows = omega (arith, gains.acknowledged, k.knows, ap (λ (x : Plain). x.past.acknowledged) same) }

-- ---- one round, for each member of a membership

abbrev KnowAll : Chain → ℕ → List ℕ → Type 0
KnowAll c least ids = AllByRecursion (λ id. KnowsCommitted c id least) ids

later_all : (count : ℕ) (c : Chain) (least : ℕ) (ids : List ℕ) → Good c → AllByRecursion (IsReadyAt c) ids → KnowAll c least ids → KnowAll (after_round count c) least ids
later_all count c least [] g r k = tt
later_all count c least (id ∷ ids) g r k = (committed_later count c id least g r.0 k.0, later_all count c least ids g r.1 k.1)

-- all are ready a round later
pub ready_after : (count : ℕ) (c : Chain) → Good c → AllReady c → AllReady (after_round count c)
ready_after count c g r =
    let d : Chain = after_round count c in
    let on : Onward c d = onward_moves (round after_move count c) c (round_travels count c) in
    let Q : List ℕ → Type 0 = λ l. AllByRecursion (IsReadyAt d) l in
    subst Q (sym on.members) (all_like (IsReadyAt c) (IsReadyAt d) c.members (ready_later count c g) r)

pub distinct_members : (c : Chain) → IsFollowed c → IsDistinct c.members
distinct_members c f =
    let w : MachineState Entry = f.0 in
    let g : Follows c w = f.2 in
    let s : IsSafe w = reached_safe f.1 in
    let P : List ℕ → Type 0 = λ l. IsDistinct l in
    subst P g.members (s.distinct (length w.memberships))

pub in_members : (c : Chain) (front : List ℕ) (a : ℕ) (rest : List ℕ) → front ++ a ∷ rest ≡ c.members → is_member c.members a ≡ true
in_members c front a rest is = let M : List ℕ → Type 0 = λ l. is_member l a ≡ true in subst M is (is_member-same (front ++ a ∷ rest) a ∙ stands front a rest)

-- two adjacent members that know the membership are neighbours
pub facing : (c : Chain) (front : List ℕ) (a b : ℕ) (rest : List ℕ) → Good c → front ++ a ∷ b ∷ rest ≡ c.members → (p q : Plain) → node_at c.nodes a ≡ Some p → node_at c.nodes b ≡ Some q → Knows c p → Knows c q → AreNeighbours c p q
facing c front a b rest g is p q at_p at_q kp kq =
    let own_p : id_of p ≡ a = node_id c.nodes a p at_p in
    let own_q : id_of q ≡ b = node_id c.nodes b q at_q in
    let D : List ℕ → Type 0 = λ l. IsDistinct l in
    let d : IsDistinct (front ++ a ∷ b ∷ rest) = subst D (sym is) (distinct_members c g.followed) in
    let S : List ℕ → Type 0 = λ l. successor_in l a ≡ Some b in
    let R : List ℕ → Type 0 = λ l. predecessor_in l b ≡ Some a in
    let next : successor_in c.members a ≡ Some b = subst S is (successor_there front a b rest d) in
    let before : predecessor_in c.members b ≡ Some a = subst R is (predecessor_there front a b rest d) in
    let NP : ℕ → Type 0 = λ i. node_at c.nodes i ≡ Some p in
    let NQ : ℕ → Type 0 = λ i. node_at c.nodes i ≡ Some q in
    let S1 : ℕ → Type 0 = λ i. successor_in c.members i ≡ Some (id_of q) in
    let S2 : ℕ → Type 0 = λ i. successor_in c.members a ≡ Some i in
    let P1 : ℕ → Type 0 = λ i. predecessor_in c.members i ≡ Some (id_of p) in
    let P2 : ℕ → Type 0 = λ i. predecessor_in c.members b ≡ Some i in
    record {
      earlier = subst NP (sym own_p) at_p;
      later = subst NQ (sym own_q) at_q;
      earlier_knows = kp;
      later_knows = kq;
      after = subst S1 (sym own_p) (subst S2 (sym own_q) next);
      before = subst P1 (sym own_q) (subst P2 (sym own_p) before);
    }

-- the member before one that knows this number to be committed knows it a round later
one_more : (count : ℕ) (c : Chain) (least : ℕ) (front : List ℕ) (a b : ℕ) (rest : List ℕ) → Good c → front ++ a ∷ b ∷ rest ≡ c.members → IsReadyAt c a → IsReadyAt c b → KnowsCommitted c b least
    → HaveNumbers c (round after_move (suc count) c) → KnowsCommitted (after_round (suc count) c) a least
one_more count c least front a b rest g is ra rb k numbers =
    let p : Plain = ra.node in
    let q : Plain = rb.node in
    let n : AreNeighbours c p q = facing c front a b rest g is p q ra.at rb.at ra.knows rb.knows in
    let member : is_member c.members b ≡ true = in_members c (front ++ a ∷ []) b rest (append_assoc front (a ∷ []) (b ∷ rest) ∙ is) in
    let some : 1 ≤ id_of q = not_master c.nodes (id_of q) q n.later g.ids in
    let M : ℕ → Type 0 = λ i. is_member c.members i ≡ true in
    let i : NodeIs (after_round (suc count) c) (id_of p) (λ r. q.past.acknowledged ≤ r.past.acknowledged) =
    ack_crosses count c p q g.sound g.followed (λ z. absurd (omega (arith, some, z))) n.earlier n.later n.earlier_knows n.later_knows ra.ready rb.ready (subst M (sym (node_id c.nodes b q rb.at)) member) n.after n.before numbers in
    let same : q ≡ k.node = let x : node_at c.nodes b ≡ Some q = rb.at in let y : node_at c.nodes b ≡ Some k.node = k.at in cc in
    let E : ℕ → Type 0 = λ j. node_at (after_round (suc count) c).nodes j ≡ Some i.node in
    record { node = i.node; at = subst E (node_id c.nodes a p ra.at) i.at; knows = omega (arith, i.holds, k.knows, ap (λ (x : Plain). x.past.acknowledged) same) }

-- ---- round after round

-- ids before a list, the last of them first
abbrev onto : List ℕ → List ℕ → List ℕ
onto [] l = l
onto (m ∷ rev) l = onto rev (m ∷ l)

onto_front : (rev l : List ℕ) → onto rev l ≡ onto rev [] ++ l
onto_front [] l = refl
onto_front (m ∷ rev) l = onto_front rev (m ∷ l) ∙ (sym (append_assoc (onto rev []) (m ∷ []) l) ∙ ap (λ x. x ++ l) (sym (onto_front rev (m ∷ []))))

split_last : (before : List ℕ) (m : ℕ) (ms : List ℕ) → (rev : List ℕ) × (onto rev (last_of (m ∷ ms) ∷ []) ≡ onto before (m ∷ ms)) × (length rev ≡ length before + length ms)
unfolding last_of
split_last before m [] = (before, refl, omega arith)
split_last before m (k ∷ ms) =
    let r : (rev : List ℕ) × (onto rev (last_of (k ∷ ms) ∷ []) ≡ onto (m ∷ before) (k ∷ ms)) × (length rev ≡ length (m ∷ before) + length ms) = split_last (m ∷ before) k ms in
    (r.0, r.1, omega (arith, r.2))

-- the members from one on know it; after enough rounds all do
spreads : (count least rounds : ℕ) (rev : List ℕ) (a : ℕ) (rest : List ℕ) (c : Chain) → Good c → length rev ≤ rounds → onto rev (a ∷ rest) ≡ c.members → AllReady c
    → KnowAll c least (a ∷ rest) → HaveNumbersFor (suc count) rounds c → KnowAll (after_rounds after_move (suc count) rounds c) least (onto rev (a ∷ rest))
spreads count least zero [] a rest c g le is r k numbers = k
spreads count least zero (m ∷ rev) a rest c g le is r k numbers = absurd (omega (arith, le))
spreads count least (suc rounds) [] a rest c g le is r k numbers =
    let ms : List Move = round after_move (suc count) c in
    let d : Chain = after_moves_by after_move c ms in
    let on : Onward c d = onward_moves ms c (round_travels (suc count) c) in
    let R : List ℕ → Type 0 = λ l. AllByRecursion (IsReadyAt c) l in
    spreads count least rounds [] a rest d (good_moves ms c g) (omega arith) (is ∙ sym on.members) (ready_after (suc count) c g r) (later_all (suc count) c least (a ∷ rest) g (subst R (sym is) r) k) numbers.1
spreads count least (suc rounds) (m ∷ rev) a rest c g le is r k numbers =
    let ms : List Move = round after_move (suc count) c in
    let d : Chain = after_moves_by after_move c ms in
    let on : Onward c d = onward_moves ms c (round_travels (suc count) c) in
    let R : List ℕ → Type 0 = λ l. AllByRecursion (IsReadyAt c) l in
    let front : List ℕ = onto rev [] in
    let whole : front ++ m ∷ a ∷ rest ≡ c.members = sym (onto_front rev (m ∷ a ∷ rest)) ∙ is in
    let here : AllByRecursion (IsReadyAt c) (m ∷ a ∷ rest) = all_back (IsReadyAt c) front (m ∷ a ∷ rest) (subst R (sym whole) r) in
    let more : KnowsCommitted d m least = one_more count c least front m a rest g whole here.0 here.1.0 k.0 numbers.0 in
    spreads count least rounds rev m (a ∷ rest) d (good_moves ms c g) (omega (arith, le)) (is ∙ sym on.members) (ready_after (suc count) c g r)
    (more, later_all (suc count) c least (a ∷ rest) g here.1 k) numbers.1

by_members : (count least rounds : ℕ) (c : Chain) (l : List ℕ) → Good c → l ≡ c.members → length l ≤ rounds → AllReady c → KnowsCommitted c (last_of l) least → HaveNumbersFor (suc count) rounds c
    → KnowAll (after_rounds after_move (suc count) rounds c) least l
by_members count least rounds c [] g is le r k numbers = tt
by_members count least rounds c (m ∷ ms) g is le r k numbers =
    let s : (rev : List ℕ) × (onto rev (last_of (m ∷ ms) ∷ []) ≡ m ∷ ms) × (length rev ≡ 0 + length ms) = split_last [] m ms in
    let P : List ℕ → Type 0 = λ l. KnowAll (after_rounds after_move (suc count) rounds c) least l in
    subst P s.1 (spreads count least rounds s.0 (last_of (m ∷ ms)) [] c g (omega (arith, le, s.2)) (s.1 ∙ is) r (k, tt) numbers)

pub acks_reach_all : (chain : ℕ) (run : Run) (count least : ℕ) → IsRunOf chain run → AllReady (chain_after_moves chain run) → KnowsCommitted (chain_after_moves chain run) (last_of (chain_after_moves chain run).members) least
    → HaveNumbersFor (suc count) (length (chain_after_moves chain run).members) (chain_after_moves chain run)
    → AllByRecursion (λ id. KnowsCommitted (after_rounds after_move (suc count) (length (chain_after_moves chain run).members) (chain_after_moves chain run)) id least) (chain_after_moves chain run).members
acks_reach_all chain run count least is r k numbers =
    let c : Chain = chain_after_moves chain run in
    by_members count least (length c.members) c c.members (good_run chain run is) refl (omega arith) r k numbers
