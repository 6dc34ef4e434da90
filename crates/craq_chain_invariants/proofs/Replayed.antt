-- The entries of a node's whole history as the updates from which they were made.
use Rattle.std.proofs.Common.{◌≡◌, ℕ, List, ◌++◌, map, filter_map, length, take, ap, sym, subst, ◌∙◌}
use Rattle.std.proofs.lemmas.List.{map-append}
use Rattle.std.proofs.lemmas.List.Elements.{filter_map-append}
use Rattle.craq_commands.specs.declared.entry.Entry.{Entry}
use Rattle.craq_commands.specs.declared.command.Update.{Update}
use Rattle.craq_commands.specs.SingleCopy.{opening_state, after, after_entries}
use Rattle.craq_model.specs.Plain.{Plain, id_of, length_of}
use Rattle.craq_protocol.specs.Machine.{initial_state}
use Rattle.craq_protocol.specs.Promises.{IsPrefix}
use Rattle.craq_runs.specs.Explain.{ask_number, opening_account}
use Rattle.craq_runs.specs.Seen.{Asked, asks_from, seen, update_at}
use Rattle.craq_runs.specs.Typed.{IsTypedRunOf}
use Rattle.craq_runs.specs.declared.run.Run.{Run}
use Rattle.craq_refinement.specs.Follows.{NodeFollows, seen_of}
use Rattle.craq_refinement.proofs.Worlds.{history_length}
use Rattle.craq_updates.specs.ValidEntries.{AllValid}
use Rattle.craq_updates.proofs.Found.{IsNumbered}
use Rattle.craq_updates.proofs.Known.{Known}
use Rattle.craq_updates.specs.Updates.{updates_in}
use Rattle.craq_updates.proofs.Replay.{made_of, replayed as entries_replayed}
use Rattle.craq_updates.proofs.Runs.{KnownRun, run_account, known_run}
use Rattle.craq_updates.proofs.Updates.{updates_length}
use Rattle.craq_chain_invariants.specs.Kept.{IsNode, chain_after, committed_in, history_of, updates_committed, updates_held}
use Rattle.craq_chain_invariants.proofs.Worlds.{Stands, stands_by, Node, node}

-- the entries of a node's whole history were requested, and the requests are numbered
record IsMade (chain : ℕ) (run : Run) (p : Plain) : Type 0 where
  pub numbered : IsNumbered (asks_from 1 run.moves)
  pub valid_entry : AllValid (asks_from 1 run.moves) opening_state (history_of (committed_in chain run) p)
  pub count : length (history_of (committed_in chain run) p) ≡ length_of p

made : (chain : ℕ) (run : Run) (p : Plain) → IsTypedRunOf chain run → IsNode (chain_after chain run) p → IsMade chain run p
made chain run p i at =
    let r : KnownRun (opening_account chain run.members) (initial_state run.members) run.moves (run_account chain run) = known_run chain run i in
    let k : Known (run_account chain run) r.world = r.known in
    let s : Stands chain run = stands_by chain run r.world k in
    let n : Node chain run p s = node chain run p s at in
    let history : r.world.history (id_of p) ≡ history_of (committed_in chain run) p = n.history in
    let f : NodeFollows s.world (seen_of p) = n.follows in
    let N : List Asked → Type 0 = λ asked. IsNumbered asked in
    let G : List Asked → Type 0 = λ asked. AllValid asked opening_state (r.world.history (id_of p)) in
    let H : List Entry → Type 0 = λ l. AllValid (asks_from 1 run.moves) opening_state l in
    record {
      numbered = subst N r.asks k.numbered;
      valid_entry = subst H history (subst G r.asks (let h : _ = k.held in h.histories (id_of p)));
      count = sym (ap length history) ∙ history_length f.history;
    }

pub held_many : (chain : ℕ) (run : Run) (p : Plain) → IsTypedRunOf chain run → IsNode (chain_after chain run) p → length (updates_held chain run p) ≡ length (history_of (committed_in chain run) p)
held_many chain run p i at =
    let m : IsMade chain run p = made chain run p i at in
    updates_length (asks_from 1 run.moves) opening_state (history_of (committed_in chain run) p) m.numbered m.valid_entry

pub as_many : (chain : ℕ) (run : Run) (p : Plain) → IsTypedRunOf chain run → IsNode (chain_after chain run) p → length (updates_held chain run p) ≡ length_of p
as_many chain run p i at = let m : IsMade chain run p = made chain run p i at in held_many chain run p i at ∙ m.count

pub replayed : (chain : ℕ) (run : Run) (p : Plain) (count : ℕ) → IsTypedRunOf chain run → IsNode (chain_after chain run) p
    → after_entries opening_state (take count (history_of (committed_in chain run) p)) ≡ after (take count (updates_held chain run p))
replayed chain run p count i at =
    let m : IsMade chain run p = made chain run p i at in
    entries_replayed (asks_from 1 run.moves) (history_of (committed_in chain run) p) count m.numbered m.valid_entry

-- ---- the committed updates

-- a history that is the committed entries is made of the committed updates
pub list_updates : (chain : ℕ) (run : Run) (p : Plain) → IsTypedRunOf chain run → history_of (committed_in chain run) p ≡ committed_in chain run → updates_held chain run p ≡ updates_committed chain run
list_updates chain run p i e = ap (λ (l : List Entry). updates_in (seen run) l) e ∙ made_of chain run i

-- a history that begins with the committed entries is made of updates that begin with the committed
-- ones
pub prefix_updates : (chain : ℕ) (run : Run) (p : Plain) → IsTypedRunOf chain run → IsPrefix (committed_in chain run) (history_of (committed_in chain run) p) → IsPrefix (updates_committed chain run) (updates_held chain run p)
prefix_updates chain run p i h =
    let asked : List Asked = asks_from 1 run.moves in
    let es : List Entry = committed_in chain run in
    let parts : updates_in (seen run) (es ++ h.rest) ≡ updates_in (seen run) es ++ updates_in (seen run) h.rest =
    ap (λ (l : List ℕ). filter_map (update_at asked) l) (map-append (ask_number asked) es h.rest) ∙ filter_map-append (update_at asked) (map (ask_number asked) es) (map (ask_number asked) h.rest) in
    record {
      rest = updates_in (seen run) h.rest;
      is = ap (λ (l : List Update). l ++ updates_in (seen run) h.rest) (sym (made_of chain run i)) ∙ (sym parts ∙ ap (λ (l : List Entry). updates_in (seen run) l) h.is);
    }
