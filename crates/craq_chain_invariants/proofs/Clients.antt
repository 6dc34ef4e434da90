-- The laws of clients' pending requests: versions that were reported, and replies of waiting
-- updates.
use Rattle.std.proofs.Common.{◌≡◌, ℕ, List, [], length, take, Some, ap, sym, subst, ◌∙◌, arith}
use Rattle.std.specs.List.{AllByRecursion}
use Rattle.craq_names.proofs.Lists.{all_like}
use Rattle.craq_commands.specs.declared.state.State.{State}
use Rattle.craq_commands.specs.SingleCopy.{opening_state, after_entries, said}
use Rattle.craq_commands.specs.Objects.{version_of}
use Rattle.craq_model.specs.declared.message.Body.{Body}
use Rattle.craq_model.specs.declared.message.Body.TheVariants as bodies
use Rattle.craq_model.specs.declared.message.LinkMessage.{LinkMessage}
use Rattle.craq_model.specs.Plain.{Plain, id_of}
use Rattle.craq_runs.specs.Chain.{Chain, message_at, node_at}
use Rattle.craq_runs.specs.Explain.{Account, opening_account}
use Rattle.craq_runs.specs.Seen.{Asked, answers_from, ask_with}
use Rattle.craq_runs.specs.Typed.{IsTypedRunOf}
use Rattle.craq_runs.specs.declared.run.Run.{Run}
use Rattle.craq_updates.proofs.Explained.{chain_of_account}
use Rattle.craq_updates.proofs.Known.{Known}
use Rattle.craq_updates.proofs.Replay.{account_asks, as_many as all_updates, state_replayed}
use Rattle.craq_strong_answers.proofs.Clients.{Clients}
use Rattle.craq_strong_answers.proofs.Hearing.{sent_with}
use Rattle.craq_strong_answers.proofs.Served.{RequestsServed}
use Rattle.craq_strong_answers.proofs.Stands.{PendingUpdate, ReportedVersion, IsReported}
use Rattle.craq_strong_answers.proofs.Strong.{ClientsRun, clients_run}
use Rattle.craq_chain_invariants.specs.Kept.{IsNode, WasSent, TellsVersion, HasReply, account_in, chain_after, committed_in, committed_at, history_of}
use Rattle.craq_chain_invariants.proofs.Replayed.{held_many, replayed}
use Rattle.craq_chain_invariants.proofs.Worlds.{Stands, stands_by, Node, node}

chain_is : (chain : ℕ) (run : Run) → (account_in chain run).chain ≡ chain_after chain run
chain_is chain run = chain_of_account run.moves (opening_account chain run.members)

pub reported : (chain : ℕ) (run : Run) (number : ℕ) (m : LinkMessage) (ticket version : ℕ) → IsTypedRunOf chain run → WasSent (chain_after chain run) number m → m.body ≡ bodies.VersionIs ticket version
    → TellsVersion chain run m.receiver ticket version (committed_at chain run number)
reported chain run number m ticket version i at is =
    let a : Account = account_in chain run in
    let r : ClientsRun a (answers_from 1 [] run.moves) = clients_run chain run i in
    let c : Clients a r.world r.receivers (answers_from 1 [] run.moves) = r.clients in
    let k : Known a r.world = c.known in
    let s : RequestsServed a r.world = c.served in
    let sent : ℕ = committed_at chain run number in
    let there : message_at a.chain.messages number ≡ Some m = ap (λ (c : Chain). message_at c.messages number) (chain_is chain run) ∙ at in
    let known : IsReported a r.world m sent = sent_with a r.world a.chain.messages a.sent_at number m s.messages there in
    let B : Body → Type 0 = λ b. IsReported a r.world (record m { body = b }) sent in
    let t : ReportedVersion a r.world m.receiver ticket version sent = subst B is known in
    record {
      ask = t.ask;
      object = t.object;
      is_ask = ap (λ (asked : List Asked). ask_with asked m.receiver ticket) (sym (account_asks chain run i)) ∙ t.is_ask;
      is = t.is;
      not_before = t.not_before;
      not_beyond = omega (arith, t.committed, ap length k.committed, all_updates chain run i);
      version_is = ap (λ (s : State). version_of s.objects t.object.key) (sym (state_replayed chain run sent i))
          ∙ (ap (λ l. version_of (after_entries opening_state (take sent l)).objects t.object.key) k.committed ∙ t.version_is);
    }

pub replies : (chain : ℕ) (run : Run) (p : Plain) → IsTypedRunOf chain run → IsNode (chain_after chain run) p
    → AllByRecursion (HasReply chain run p) p.waiting_updates
replies chain run p i at =
    let a : Account = account_in chain run in
    let r : ClientsRun a (answers_from 1 [] run.moves) = clients_run chain run i in
    let c : Clients a r.world r.receivers (answers_from 1 [] run.moves) = r.clients in
    let k : Known a r.world = c.known in
    let served : RequestsServed a r.world = c.served in
    let s : Stands chain run = stands_by chain run r.world k in
    let n : Node chain run p s = node chain run p s at in
    let there : node_at a.chain.nodes (id_of p) ≡ Some p = ap (λ (c : Chain). node_at c.nodes (id_of p)) (chain_is chain run) ∙ at in
    let history : r.world.history (id_of p) ≡ history_of (committed_in chain run) p = n.history in
    all_like (PendingUpdate a r.world (id_of p)) (HasReply chain run p) p.waiting_updates
    (λ u d. record {
      ask = d.ask;
      update = d.update;
      is_ask = ap (λ (asked : List Asked). ask_with asked (id_of p) u.ticket) (sym (account_asks chain run i)) ∙ d.is_ask;
      is = d.is;
      held = omega (arith, d.newest, ap length history, held_many chain run p i at);
      is_said = ap (λ (s : State). said s d.update.client d.update.number) (sym (replayed chain run p u.position i at))
          ∙ (ap (λ l. said (after_entries opening_state (take u.position l)) d.update.client d.update.number) (sym history) ∙ d.is_newest);
    })
    (served.updates (id_of p) p there)
