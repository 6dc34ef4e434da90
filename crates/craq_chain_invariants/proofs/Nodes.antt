-- The laws of nodes: the promises of the protocol, in the terms of the chain.
use Rattle.std.proofs.Common.{◌≡◌, ℕ, ◌≤◌, ◌==◌, true, ◌||◌, List, [], ◌∷◌, length, take, IsSome, Option, Some, refl, ap, sym, subst, ◌∙◌, arith}
use Rattle.craq_commands.specs.declared.entry.Entry.{Entry}
use Rattle.craq_model.specs.Members.{is_member}
use Rattle.craq_model.specs.Plain.{Plain, id_of, is_tail, length_of}
use Rattle.craq_protocol.specs.Members as protocol
use Rattle.craq_protocol.specs.Machine as machine
use Rattle.craq_protocol.specs.Machine.{MachineState, current_membership, known_membership}
use Rattle.craq_protocol.specs.Promises.{Before, IsPrefix, IsSafe}
use Rattle.craq_protocol.proofs.Invariant.{Invariant}
use Rattle.craq_protocol.proofs.Reached.{reached_safe, reached_inv}
use Rattle.craq_runs.specs.Chain.{node_at}
use Rattle.craq_runs.specs.Typed.{IsTypedRunOf}
use Rattle.craq_runs.specs.declared.run.Run.{Run}
use Rattle.craq_refinement.specs.Follows.{IsHistory, IsPlaced}
use Rattle.craq_refinement.proofs.Master.{found}
use Rattle.craq_refinement.proofs.Worlds.{history_like, placed_like, history_length}
use Rattle.craq_updates.proofs.Commits.{tail_seen}
use Rattle.craq_updates.proofs.Known.{some_same}
use Rattle.craq_chain_invariants.specs.Kept.{IsNode, chain_after, committed_in, history_of}
use Rattle.craq_chain_invariants.proofs.Worlds.{Stands, stands, Node, node}

-- ---- histories

pub whole : (chain : ℕ) (run : Run) (p : Plain) → IsTypedRunOf chain run → IsNode (chain_after chain run) p → IsHistory p.past.base p.past.base_state p.past.entries (history_of (committed_in chain run) p)
whole chain run p i at =
    let s : Stands chain run = stands chain run i in
    let n : Node chain run p s = node chain run p s at in
    let f : _ = n.follows in
    history_like f.history (sym n.history)

pub placed : (chain : ℕ) (run : Run) (p : Plain) → IsTypedRunOf chain run → IsNode (chain_after chain run) p → IsPlaced 0 (history_of (committed_in chain run) p)
placed chain run p i at =
    let s : Stands chain run = stands chain run i in
    let n : Node chain run p s = node chain run p s at in
    let f : _ = n.follows in
    placed_like f.placed (sym n.history)

-- ---- members

pub hold_more : (chain : ℕ) (run : Run) (p q : Plain) → IsTypedRunOf chain run → IsNode (chain_after chain run) p → IsNode (chain_after chain run) q
    → Before (chain_after chain run).members (id_of p) (id_of q) → IsPrefix (history_of (committed_in chain run) q) (history_of (committed_in chain run) p)
hold_more chain run p q i at there before =
    let s : Stands chain run = stands chain run i in
    let n : Node chain run p s = node chain run p s at in
    let m : Node chain run q s = node chain run q s there in
    let safe : IsSafe s.world = reached_safe s.reached in
    let f : _ = s.follows in
    let B : List ℕ → Type 0 = λ l. Before l (id_of p) (id_of q) in
    let now : Before (current_membership s.world) (id_of p) (id_of q) = subst B (sym f.members) before in
    let P : List Entry → Type 0 = λ l. IsPrefix l (s.world.history (id_of p)) in
    let Q : List Entry → Type 0 = λ l. IsPrefix (history_of (committed_in chain run) q) l in
    subst Q n.history (subst P m.history (safe.predecessors_hold_now (id_of q) (id_of p) now))

-- the first node's history extends the second's, if it is before it in the membership that the second knows
pub hold_more_known : (chain : ℕ) (run : Run) (p q : Plain) → IsTypedRunOf chain run → IsNode (chain_after chain run) p → IsNode (chain_after chain run) q
    → Before q.members (id_of p) (id_of q) → IsPrefix (history_of (committed_in chain run) q) (history_of (committed_in chain run) p)
hold_more_known chain run p q i at there before =
    let s : Stands chain run = stands chain run i in
    let n : Node chain run p s = node chain run p s at in
    let m : Node chain run q s = node chain run q s there in
    let safe : IsSafe s.world = reached_safe s.reached in
    let later : _ = m.follows in
    let B : List ℕ → Type 0 = λ l. Before l (id_of p) (id_of q) in
    let now : Before (known_membership s.world (id_of q)) (id_of p) (id_of q) = subst B (sym later.members) before in
    let P : List Entry → Type 0 = λ l. IsPrefix l (s.world.history (id_of p)) in
    let Q : List Entry → Type 0 = λ l. IsPrefix (history_of (committed_in chain run) q) l in
    subst Q n.history (subst P m.history (safe.predecessors_hold (id_of q) (id_of p) now))

pub are_ready : (chain : ℕ) (run : Run) (p q : Plain) → IsTypedRunOf chain run → IsNode (chain_after chain run) p → IsNode (chain_after chain run) q
    → Before (chain_after chain run).members (id_of p) (id_of q) → q.ready ≡ true → p.ready ≡ true
are_ready chain run p q i at there before ready =
    let s : Stands chain run = stands chain run i in
    let n : Node chain run p s = node chain run p s at in
    let m : Node chain run q s = node chain run q s there in
    let safe : IsSafe s.world = reached_safe s.reached in
    let f : _ = s.follows in
    let mine : _ = n.follows in
    let later : _ = m.follows in
    let B : List ℕ → Type 0 = λ l. Before l (id_of p) (id_of q) in
    let now : Before (current_membership s.world) (id_of p) (id_of q) = subst B (sym f.members) before in
    sym mine.ready ∙ safe.predecessors_ready (id_of q) (id_of p) now (later.ready ∙ ready)

same_member : (ms : List ℕ) (id : ℕ) → is_member ms id ≡ protocol.is_member ms id
unfolding is_member protocol.is_member
same_member [] id = refl
same_member (m ∷ ms) id = ap (λ b. (m == id) || b) (same_member ms id)

pub are_nodes : (chain : ℕ) (run : Run) (id : ℕ) → IsTypedRunOf chain run → is_member (chain_after chain run).members id ≡ true → IsSome (node_at (chain_after chain run).nodes id)
are_nodes chain run id i member =
    let s : Stands chain run = stands chain run i in
    let w : MachineState Entry = s.world in
    let v : Invariant w = reached_inv s.reached in
    let f : _ = s.follows in
    let M : List ℕ → Type 0 = λ l. protocol.is_member l id ≡ true in
    let now : protocol.is_member (current_membership w) id ≡ true = subst M (sym f.members) (sym (same_member (chain_after chain run).members id) ∙ member) in
    let there : (p : Plain) × (node_at (chain_after chain run).nodes id ≡ Some p) = found (chain_after chain run).nodes id (subst M f.joined (v.clauses.shape.is_listed (length w.memberships) id now)) in
    let S : Option Plain → Type 0 = λ o. IsSome o in
    subst S (sym there.1) refl

pub hold_list : (chain : ℕ) (run : Run) (p : Plain) → IsTypedRunOf chain run → IsNode (chain_after chain run) p → is_member (chain_after chain run).members (id_of p) ≡ true → p.ready ≡ true
    → IsPrefix (committed_in chain run) (history_of (committed_in chain run) p)
hold_list chain run p i at member ready =
    let s : Stands chain run = stands chain run i in
    let n : Node chain run p s = node chain run p s at in
    let safe : IsSafe s.world = reached_safe s.reached in
    let f : _ = s.follows in
    let mine : _ = n.follows in
    let M : List ℕ → Type 0 = λ l. protocol.is_member l (id_of p) ≡ true in
    let now : protocol.is_member (current_membership s.world) (id_of p) ≡ true = subst M (sym f.members) (sym (same_member (chain_after chain run).members (id_of p)) ∙ member) in
    let P : List Entry → Type 0 = λ l. IsPrefix l (s.world.history (id_of p)) in
    let Q : List Entry → Type 0 = λ l. IsPrefix (committed_in chain run) l in
    subst Q n.history (subst P s.log (safe.committed (id_of p) (mine.ready ∙ ready) now))

-- ---- tails

tail_of : (chain : ℕ) (run : Run) (p : Plain) (s : Stands chain run) → IsNode (chain_after chain run) p → p.running ≡ true → is_tail p ≡ true → machine.is_tail s.world (id_of p) ≡ true
tail_of chain run p s at running tail = tail_seen s.follows s.reached (id_of p) p refl at running ∙ tail

pub one : (chain : ℕ) (run : Run) (p q : Plain) → IsTypedRunOf chain run → IsNode (chain_after chain run) p → IsNode (chain_after chain run) q
    → p.running ≡ true → is_tail p ≡ true → q.running ≡ true → is_tail q ≡ true → p ≡ q
one chain run p q i at there running tail also other =
    let s : Stands chain run = stands chain run i in
    let safe : IsSafe s.world = reached_safe s.reached in
    let same : id_of p ≡ id_of q = safe.one_tail (id_of p) (id_of q) (tail_of chain run p s at running tail) (tail_of chain run q s there also other) in
    let P : ℕ → Type 0 = λ j. node_at (chain_after chain run).nodes j ≡ Some p in
    some_same (node_at (chain_after chain run).nodes (id_of q)) (subst P same at) there

pub list : (chain : ℕ) (run : Run) (p : Plain) → IsTypedRunOf chain run → IsNode (chain_after chain run) p → p.running ≡ true → is_tail p ≡ true
    → history_of (committed_in chain run) p ≡ committed_in chain run
list chain run p i at running tail =
    let s : Stands chain run = stands chain run i in
    let n : Node chain run p s = node chain run p s at in
    let safe : IsSafe s.world = reached_safe s.reached in
    sym n.history ∙ (safe.tail (id_of p) (tail_of chain run p s at running tail) ∙ s.log)

pub known : (chain : ℕ) (run : Run) (p : Plain) → IsTypedRunOf chain run → IsNode (chain_after chain run) p → p.running ≡ true → is_tail p ≡ true
    → p.past.acknowledged ≡ length (committed_in chain run)
known chain run p i at running tail =
    let s : Stands chain run = stands chain run i in
    let n : Node chain run p s = node chain run p s at in
    let mine : _ = n.follows in
    let safe : IsSafe s.world = reached_safe s.reached in
    let t : machine.is_tail s.world (id_of p) ≡ true = tail_of chain run p s at running tail in
    sym mine.acknowledged ∙ (safe.tail_knows (id_of p) t ∙ ap length (safe.tail (id_of p) t ∙ s.log))

-- ---- acknowledged entries

pub held : (chain : ℕ) (run : Run) (p : Plain) → IsTypedRunOf chain run → IsNode (chain_after chain run) p → p.past.acknowledged ≤ length_of p
held chain run p i at =
    let s : Stands chain run = stands chain run i in
    let n : Node chain run p s = node chain run p s at in
    let mine : _ = n.follows in
    let safe : IsSafe s.world = reached_safe s.reached in
    omega (arith, mine.acknowledged, (safe.acknowledged (id_of p)).0, history_length mine.history)

pub committed : (chain : ℕ) (run : Run) (p : Plain) → IsTypedRunOf chain run → IsNode (chain_after chain run) p → p.past.acknowledged ≤ length (committed_in chain run)
committed chain run p i at =
    let s : Stands chain run = stands chain run i in
    let n : Node chain run p s = node chain run p s at in
    let mine : _ = n.follows in
    let safe : IsSafe s.world = reached_safe s.reached in
    omega (arith, mine.acknowledged, (safe.acknowledged (id_of p)).1, ap length s.log)

pub same : (chain : ℕ) (run : Run) (p : Plain) → IsTypedRunOf chain run → IsNode (chain_after chain run) p → take p.past.acknowledged (history_of (committed_in chain run) p) ≡ take p.past.acknowledged (committed_in chain run)
same chain run p i at =
    let s : Stands chain run = stands chain run i in
    let n : Node chain run p s = node chain run p s at in
    let mine : _ = n.follows in
    let safe : IsSafe s.world = reached_safe s.reached in
    let P : ℕ → Type 0 = λ k. take k (s.world.history (id_of p)) ≡ take k s.world.log in
    let there : take p.past.acknowledged (s.world.history (id_of p)) ≡ take p.past.acknowledged s.world.log = subst P mine.acknowledged (safe.acknowledged (id_of p)).2 in
    ap (take p.past.acknowledged) (sym n.history) ∙ (there ∙ ap (take p.past.acknowledged) s.log)
