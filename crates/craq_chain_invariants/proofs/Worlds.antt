-- The world that stands for a run's chain, and the histories of its nodes.
use Rattle.std.proofs.Common.{◌≡◌, ℕ, ◌≤◌, List, ◌++◌, take, ap, sym, subst, ◌∙◌, arith, take-take}
use Rattle.craq_commands.specs.declared.entry.Entry.{Entry}
use Rattle.craq_model.specs.Plain.{Plain, id_of}
use Rattle.craq_protocol.specs.Machine.{MachineState, initial_state}
use Rattle.craq_protocol.specs.Promises.{IsPrefix, IsReached, IsSafe}
use Rattle.craq_protocol.proofs.Prefix.{prefix_is_take}
use Rattle.craq_protocol.proofs.Reached.{reached_safe}
use Rattle.craq_runs.specs.Chain.{Chain}
use Rattle.craq_runs.specs.Explain.{opening_account}
use Rattle.craq_runs.specs.Typed.{IsTypedRunOf}
use Rattle.craq_runs.specs.declared.run.Run.{Run}
use Rattle.craq_refinement.specs.Follows.{seen_of, NodeFollows, Follows}
use Rattle.craq_updates.proofs.Known.{Known}
use Rattle.craq_updates.proofs.Runs.{KnownRun, run_account, known_run}
use Rattle.craq_updates.proofs.Explained.{chain_of_account}
use Rattle.craq_chain_invariants.specs.Kept.{IsNode, chain_after, committed_in, history_of}

pub record Stands (chain : ℕ) (run : Run) : Type 0 where
  pub world : MachineState Entry
  pub reached : IsReached world
  pub follows : Follows (chain_after chain run) world
  pub log : world.log ≡ committed_in chain run

abbrev pub stands_by : (chain : ℕ) (run : Run) (w : MachineState Entry) → Known (run_account chain run) w → Stands chain run
stands_by chain run w k =
    let F : Chain → Type 0 = λ c. Follows c w in
    record {
      world = w;
      reached = k.reached;
      follows = subst F (chain_of_account run.moves (opening_account chain run.members)) k.follows;
      log = sym k.committed;
    }

pub stands : (chain : ℕ) (run : Run) → IsTypedRunOf chain run → Stands chain run
stands chain run i =
    let r : KnownRun (opening_account chain run.members) (initial_state run.members) run.moves (run_account chain run) = known_run chain run i in
    stands_by chain run r.world r.known

-- the log and the node's history agree up to the node's base
pub history_in : (w : MachineState Entry) (p : Plain) → IsReached w → NodeFollows w (seen_of p) → history_of w.log p ≡ w.history (id_of p)
history_in w p r n =
    let s : IsSafe w = reached_safe r in
    let h : List Entry = w.history (id_of p) in
    let a : ℕ = w.acknowledged (id_of p) in
    let known : take a h ≡ take a w.log = (s.acknowledged (id_of p)).2 in
    let le : p.past.base ≤ a = omega (arith, n.based, n.acknowledged) in
    let front : List Entry = n.history.front in
    let begins : IsPrefix front h = record { rest = p.past.entries; is = n.history.whole } in
    let mine : take p.past.base h ≡ front = ap (λ k. take k h) (sym n.history.count) ∙ prefix_is_take begins in
    let same : take p.past.base w.log ≡ front = sym (take-take p.past.base a w.log le) ∙ (ap (take p.past.base) (sym known) ∙ (take-take p.past.base a h le ∙ mine)) in
    ap (λ l. l ++ p.past.entries) same ∙ n.history.whole

-- a node of a run's chain, in the world that stands for it
pub record Node (chain : ℕ) (run : Run) (p : Plain) (s : Stands chain run) : Type 0 where
  pub follows : NodeFollows s.world (seen_of p)
  pub history : s.world.history (id_of p) ≡ history_of (committed_in chain run) p

pub node : (chain : ℕ) (run : Run) (p : Plain) (s : Stands chain run) → IsNode (chain_after chain run) p → Node chain run p s
node chain run p s at =
    let f : Follows (chain_after chain run) s.world = s.follows in
    let n : NodeFollows s.world (seen_of p) = f.nodes (id_of p) p at in
    record { follows = n; history = sym (history_in s.world p s.reached n) ∙ ap (λ l. history_of l p) s.log }
