-- Replaying valid entries is applying the updates from which they were made.
use Rattle.std.proofs.Common.{◌≡◌, ℕ, zero, suc, List, [], ◌∷◌, map, length, take, filter_map, ap, sym, ◌∙◌}
use Rattle.craq_commands.specs.declared.command.Update.{Update}
use Rattle.craq_commands.specs.declared.entry.Entry.{Entry}
use Rattle.craq_commands.specs.declared.state.State.{State}
use Rattle.craq_commands.specs.SingleCopy.{opening_state, after, after_entry, after_entries}
use Rattle.craq_protocol.specs.Machine.{initial_state}
use Rattle.craq_runs.specs.declared.run.Run.{Run}
use Rattle.craq_runs.specs.Explain.{Account, ask_number, opening_account, explain}
use Rattle.craq_runs.specs.Seen.{Asked, asks_from, seen, update_at}
use Rattle.craq_runs.specs.Typed.{IsTypedRunOf}
use Rattle.craq_runs.specs.Valid.{committed, state_at}
use Rattle.craq_updates.specs.ValidEntries.{AllValid}
use Rattle.craq_updates.specs.Updates.{updates_in}
use Rattle.craq_updates.proofs.Explained.{log_valid}
use Rattle.craq_updates.proofs.Found.{IsNumbered}
use Rattle.craq_updates.proofs.Known.{Known}
use Rattle.craq_updates.proofs.Runs.{KnownRun, known_run, run_account}
use Rattle.craq_updates.proofs.Updates.{updates_of, after_updates, updates_length, updates_take}

valid_take : (asked : List Asked) (s : State) (k : ℕ) (es : List Entry) → AllValid asked s es → AllValid asked s (take k es)
valid_take asked s zero es g = tt
valid_take asked s (suc k) [] g = tt
valid_take asked s (suc k) (e ∷ es) g = (g.0, valid_take asked (after_entry s e) k es g.1)

-- the state after some entries is that after as many updates
pub replayed : (asked : List Asked) (es : List Entry) (count : ℕ) → IsNumbered asked → AllValid asked opening_state es → after_entries opening_state (take count es) ≡ after (take count (updates_of asked es))
replayed asked es count n g =
    sym (after_updates asked opening_state (take count es) n (valid_take asked opening_state count es g))
    ∙ ap after (sym (updates_take asked opening_state count es n g))

-- the requests of an account are those of the run
pub account_asks : (chain : ℕ) (run : Run) → IsTypedRunOf chain run → (run_account chain run).asks ≡ asks_from 1 run.moves
account_asks chain run i = let r : KnownRun (opening_account chain run.members) (initial_state run.members) run.moves (run_account chain run) = known_run chain run i in r.asks

-- the committed updates are those of the committed entries
pub updates_committed : (chain : ℕ) (run : Run) → IsTypedRunOf chain run → updates_of (run_account chain run).asks (run_account chain run).committed ≡ committed (seen run) (explain chain run)
updates_committed chain run i =
    let a : Account = run_account chain run in
    ap (λ (asked : List Asked). filter_map (update_at asked) (map (ask_number a.asks) a.committed)) (account_asks chain run i)

pub made_of : (chain : ℕ) (run : Run) → IsTypedRunOf chain run → updates_in (seen run) (run_account chain run).committed ≡ committed (seen run) (explain chain run)
made_of chain run i =
    let a : Account = run_account chain run in
    ap (λ (asked : List Asked). updates_of asked a.committed) (sym (account_asks chain run i)) ∙ updates_committed chain run i

pub as_many : (chain : ℕ) (run : Run) → IsTypedRunOf chain run → length (committed (seen run) (explain chain run)) ≡ length (run_account chain run).committed
as_many chain run i =
    let a : Account = run_account chain run in
    let r : KnownRun (opening_account chain run.members) (initial_state run.members) run.moves a = known_run chain run i in
    let k : Known a r.world = r.known in
    ap length (sym (updates_committed chain run i)) ∙ updates_length a.asks opening_state a.committed k.numbered (log_valid k)

pub state_replayed : (chain : ℕ) (run : Run) (count : ℕ) → IsTypedRunOf chain run → after_entries opening_state (take count (run_account chain run).committed) ≡ state_at (seen run) (explain chain run) count
state_replayed chain run count i =
    let a : Account = run_account chain run in
    let r : KnownRun (opening_account chain run.members) (initial_state run.members) run.moves a = known_run chain run i in
    let k : Known a r.world = r.known in
    replayed a.asks a.committed count k.numbered (log_valid k) ∙ ap (λ (us : List Update). after (take count us)) (updates_committed chain run i)
