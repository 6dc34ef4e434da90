-- Eventual and bounded replies, move by move.
use Rattle.std.proofs.Common.{◌≡◌, ℕ, ◌+◌, ◌≤◌, List, [], ◌∷◌, ◌++◌, length, slice_index, Result, Ok, Err, refl, ap, sym, subst, ◌∙◌, arith, append-nil, append_assoc}
use Rattle.std.specs.List.{AllByRecursion}
use Rattle.craq_names.specs.declared.refusal.Refusal.{Refusal}
use Rattle.craq_names.proofs.Lists.{all_append, all_like}
use Rattle.craq_commands.specs.declared.entry.Entry.{Entry}
use Rattle.craq_protocol.specs.Machine.{MachineState, initial_state}
use Rattle.craq_protocol.specs.Promises.{IsPrefix}
use Rattle.craq_runs.specs.declared.run.Run.{Run}
use Rattle.craq_runs.specs.declared.run.Taken.{Taken}
use Rattle.craq_runs.specs.Chain.{Chain, Progress, chain_step}
use Rattle.craq_runs.specs.Runs.{progressed, Takes, AreTaken}
use Rattle.craq_runs.specs.Seen.{Asked, Answered, answers_in, answers_from, receivers_in, node_of}
use Rattle.craq_runs.specs.Explain.{Account, opening_account, account_with, account_of}
use Rattle.craq_runs.specs.Typed.{IsMoveOfType, AreOfType, IsTypedRunOf}
use Rattle.craq_updates.proofs.EachMove.{place_of}
use Rattle.craq_updates.proofs.Places.{happens_at}
use Rattle.craq_updates.proofs.Lens.{AreLens}
use Rattle.craq_updates.proofs.Updates.{numbers_of, numbers_length}
use Rattle.craq_updates.proofs.Known.{Known}
use Rattle.craq_updates.proofs.Accounts.{next_account, moves_counted}
use Rattle.craq_updates.proofs.Runs.{account_by, run_account}
use Rattle.craq_strong_answers.proofs.Serving.{next_chain, position_in}
use Rattle.craq_strong_answers.proofs.Placed.{after_move}
use Rattle.craq_strong_answers.proofs.Clients.{Clients, ClientsNext, clients_next, committed_grows, new_answers, opening_clients}
use Rattle.craq_promise.proofs.Lows.{Low, low_stays}
use Rattle.craq_promise.proofs.Facts.{Facts, facts_append, facts_stay, NewLooks, new_looks}

pub record Reported (a : Account) (w : MachineState Entry) (receivers : List ℕ) (given : List Answered) : Type 0 where
  pub clients : Clients a w receivers given
  pub lows : AllByRecursion (Low a w) given
  pub facts : Facts a [] given

record ReportedNext (a : Account) (t : Taken) (x : Progress) (receivers : List ℕ) (given : List Answered) : Type 0 where
  pub world : MachineState Entry
  pub reported : Reported (next_account a t x) world (receivers ++ receivers_in t.step.outs) (given ++ new_answers a t)

reported_next : (a : Account) (w : MachineState Entry) (t : Taken) (x : Progress) (receivers : List ℕ) (given : List Answered) → Reported a w receivers given → chain_step a.chain t.chosen ≡ Ok x → x.1 ≡ t.step → IsMoveOfType t.chosen
    → ReportedNext a t x receivers given
reported_next a w t x receivers given o does same type =
    let b : Account = next_account a t x in
    let c : ClientsNext a t x w receivers given = clients_next a w t x receivers given o.clients does same type in
    let v : MachineState Entry = c.world in
    let before : Clients a w receivers given = o.clients in
    let after : Clients b v (receivers ++ receivers_in t.step.outs) (given ++ new_answers a t) = c.clients in
    let k : Known a w = before.known in
    let n : Known b v = after.known in
    let longer : IsPrefix a.committed b.committed = committed_grows k n c.later in
    let number : ℕ = a.chain.moves + 1 in
    let count : b.chain.moves ≡ number = ap (λ (c : Chain). c.moves) (next_chain a t x) ∙ moves_counted a.chain t.chosen x (happens_at a.chain t.chosen x does) in
    let l : AreLens b.chain.moves b.lens (numbers_of b.asks b.committed) = n.lens in
    let long : number ≤ length b.lens = omega (arith, l.count, count) in
    let last : after_move b number ≡ length v.log = ap (slice_index (0 ∷ b.lens)) (sym count) ∙ (l.ends ∙ (numbers_length b.asks b.committed ∙ ap length n.committed)) in
    let I : ℕ → Type 0 = λ m. AllByRecursion (λ (y : Asked). y.move ≤ m) b.asks in
    let lows : AllByRecursion (Low b v) given = all_like (Low a w) (Low b v) given (λ y h. low_stays a b w v k n c.goes longer y h) o.lows in
    let new : NewLooks b v given (new_answers a t) = new_looks b v (position_in a t x) number (place_of a.chain t.chosen) given t.step.outs n long last (subst I count n.in_time) lows c.reported in
    record {
      world = v;
      reported = record {
        clients = after;
        lows = all_append (Low b v) given (new_answers a t) lows new.lows;
        facts = facts_append b [] given (new_answers a t) (facts_stay a b w v k n c.goes longer [] given o.facts) new.facts;
      };
    }

pub record ReportedRun (b : Account) (given : List Answered) : Type 0 where
  pub world : MachineState Entry
  pub receivers : List ℕ
  pub reported : Reported b world receivers given

by_result : (t : Taken) (ts : List Taken) (a : Account) (w : MachineState Entry) (receivers : List ℕ) (given : List Answered) → Reported a w receivers given → IsMoveOfType t.chosen
    → ((b : Account) (v : MachineState Entry) (receivers : List ℕ) (given : List Answered) → Reported b v receivers given → AreTaken b.chain ts → ReportedRun (account_of b ts) (given ++ answers_from (b.chain.moves + 1) receivers ts))
    → (res : Result Progress Refusal) → chain_step a.chain t.chosen ≡ res → Takes res t.step × AreTaken (progressed a.chain res) ts
    → ReportedRun (account_of (account_by a t res) ts) (given ++ answers_from (a.chain.moves + 1) receivers (t ∷ ts))
unfolding account_with answers_from
by_result t ts a w receivers given c type go (Err e) is taken = absurd taken.0
by_result t ts a w receivers given c type go (Ok x) is taken =
    let n : ReportedNext a t x receivers given = reported_next a w t x receivers given c is taken.0 type in
    let r : ReportedRun (account_of (next_account a t x) ts) ((given ++ new_answers a t) ++ answers_from (x.0.moves + 1) (receivers ++ receivers_in t.step.outs) ts) =
    go (next_account a t x) n.world (receivers ++ receivers_in t.step.outs) (given ++ new_answers a t) n.reported taken.1 in
    let count : x.0.moves ≡ a.chain.moves + 1 = moves_counted a.chain t.chosen x (happens_at a.chain t.chosen x is) in
    let before : Clients a w receivers given = c.clients in
    let same : new_answers a t ≡ answers_in (a.chain.moves + 1) (node_of receivers t.chosen) t.step.outs = ap (λ l. answers_in (a.chain.moves + 1) (node_of l t.chosen) t.step.outs) (sym before.received) in
    let P : List Answered → Type 0 = λ l. ReportedRun (account_of (next_account a t x) ts) l in
    subst P
    (ap (λ k. (given ++ new_answers a t) ++ answers_from (k + 1) (receivers ++ receivers_in t.step.outs) ts) count
    ∙ (append_assoc given (new_answers a t) (answers_from (a.chain.moves + 1 + 1) (receivers ++ receivers_in t.step.outs) ts)
    ∙ ap (λ l. given ++ (l ++ answers_from (a.chain.moves + 1 + 1) (receivers ++ receivers_in t.step.outs) ts)) same))
    r

reported_moves : (ts : List Taken) (a : Account) (w : MachineState Entry) (receivers : List ℕ) (given : List Answered) → Reported a w receivers given → AreTaken a.chain ts → AreOfType ts
    → ReportedRun (account_of a ts) (given ++ answers_from (a.chain.moves + 1) receivers ts)
unfolding answers_from
reported_moves [] a w receivers given c taken type = let P : List Answered → Type 0 = λ l. ReportedRun a l in subst P (sym (append-nil given)) (record { world = w; receivers = receivers; reported = c })
reported_moves (t ∷ ts) a w receivers given c taken type = by_result t ts a w receivers given c type.0 (λ b v r g c taken. reported_moves ts b v r g c taken type.1) (chain_step a.chain t.chosen) refl taken

pub reported_run : (chain : ℕ) (run : Run) → IsTypedRunOf chain run → ReportedRun (run_account chain run) (answers_from 1 [] run.moves)
reported_run chain run i =
    reported_moves run.moves (opening_account chain run.members) (initial_state run.members) [] [] (record { clients = opening_clients chain run i; lows = tt; facts = tt }) i.run_of.moves i.typed
