-- The invariant of waiting requests and of messages about versions after a run (`RequestsServed`), and the
-- growth of an account.
use Rattle.std.proofs.Common.{◌≡◌, ℕ, ◌+◌, ◌≤◌, ◌==◌, ◌&&◌, List, [], ◌∷◌, length, Some, sym, subst, arith, length-append}
use Rattle.std.specs.List.{AllByRecursion, AllZip}
use Rattle.std.proofs.lemmas.List.{get_or_append_left}
use Rattle.craq_names.proofs.Lists.{all_like}
use Rattle.craq_commands.specs.declared.entry.Entry.{Entry}
use Rattle.craq_model.specs.Plain.{Plain}
use Rattle.craq_protocol.specs.Machine.{MachineState}
use Rattle.craq_protocol.specs.Promises.{Later}
use Rattle.craq_runs.specs.declared.explanation.Place.{Place}
use Rattle.craq_runs.specs.declared.run.Taken.{Taken}
use Rattle.craq_runs.specs.Chain.{Progress, node_at}
use Rattle.craq_runs.specs.Seen.{Asked, ask_in}
use Rattle.craq_runs.specs.Explain.{Account, account_with, pending_in}
use Rattle.craq_updates.proofs.EachMove.{place_of}
use Rattle.craq_updates.proofs.Found.{find_left}
use Rattle.craq_updates.proofs.Lens.{AreLens}
use Rattle.craq_updates.proofs.Updates.{numbers_of}
use Rattle.craq_updates.proofs.Known.{Known, NodesGrow}
use Rattle.craq_updates.proofs.NewAsks.{asks_stay}
use Rattle.craq_updates.proofs.Accounts.{next_account}
use Rattle.craq_strong_answers.proofs.Stands.{PendingUpdate, PendingRead, IsReported}
use Rattle.craq_strong_answers.proofs.Stays.{GoesOn}

-- the place is pending at a node that gave its ticket
pub record IsPendingAt (nodes : List Plain) (d : Place) : Type 0 where
  pub node : Plain
  pub at : node_at nodes d.node ≡ Some node
  pub given : d.ticket ≤ node.last_ticket

pub record RequestsServed (a : Account) (w : MachineState Entry) : Type 0 where
  pub updates : (id : ℕ) (p : Plain) → node_at a.chain.nodes id ≡ Some p → AllByRecursion (PendingUpdate a w id) p.waiting_updates
  pub reads : (id : ℕ) (p : Plain) → node_at a.chain.nodes id ≡ Some p → AllByRecursion (PendingRead a w id) p.waiting_reads
  pub messages : AllZip (IsReported a w) a.chain.messages a.sent_at
  pub pending : AllByRecursion (IsPendingAt a.chain.nodes) a.pending

pub goes_on : (a : Account) (w v : MachineState Entry) (t : Taken) (x : Progress) → Known a w → Later w v → GoesOn a (next_account a t x) w v
unfolding account_with
goes_on a w v t x k later =
    let l : AreLens a.chain.moves a.lens (numbers_of a.asks a.committed) = k.lens in
    let I : ℕ → Type 0 = λ n. AllByRecursion (λ (y : Asked). y.move ≤ n) a.asks in
    record {
      stay = asks_stay a.asks (ask_in (a.chain.moves + 1) t.step.ticket t.chosen);
      in_time = subst I (sym l.count) k.in_time;
      pending = λ node ticket p h. find_left (λ (p : Place). (p.node == node) && (p.ticket == ticket)) a.pending (pending_in (length a.committed) t.step.ticket (node_at x.0.nodes (place_of a.chain t.chosen)) t.chosen) p h;
      lens = λ move le. get_or_append_left (0 ∷ a.lens) _ 0 move (omega (arith, le));
      longer = omega (arith, length-append a.lens (length (next_account a t x).committed ∷ []));
      later = later;
    }

pub pending_grows : (old new : List Plain) (ds : List Place) → NodesGrow old new → AllByRecursion (IsPendingAt old) ds → AllByRecursion (IsPendingAt new) ds
pending_grows old new ds grow a =
    all_like (IsPendingAt old) (IsPendingAt new) ds (λ d i. let q : _ = grow d.node i.node i.at in record { node = q.0; at = q.1; given = omega (arith, i.given, q.2) }) a
