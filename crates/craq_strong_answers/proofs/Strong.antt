-- Strong replies are correct in each run.
use Rattle.std.proofs.Common.{◌≡◌, ℕ, ◌+◌, List, [], ◌∷◌, ◌++◌, map, take, Result, Ok, Err, refl, ap, sym, subst, ◌∙◌, append-nil, append_assoc}
use Rattle.std.specs.List.{AllZip}
use Rattle.craq_names.specs.declared.refusal.Refusal.{Refusal}
use Rattle.craq_commands.specs.declared.entry.Entry.{Entry}
use Rattle.craq_commands.specs.declared.state.State.{State}
use Rattle.craq_commands.specs.SingleCopy.{opening_state, after}
use Rattle.craq_protocol.specs.Machine.{MachineState, initial_state}
use Rattle.craq_protocol.proofs.Prefix.{prefix_take}
use Rattle.craq_runs.specs.declared.explanation.Place.{Place}
use Rattle.craq_runs.specs.declared.run.Run.{Run}
use Rattle.craq_runs.specs.declared.run.Taken.{Taken}
use Rattle.craq_runs.specs.Chain.{Progress, chain_step}
use Rattle.craq_runs.specs.Runs.{progressed, Takes, AreTaken}
use Rattle.craq_runs.specs.Seen.{Seen, Answered, answers_in, answers_from, receivers_in, node_of, seen, strong_answers}
use Rattle.craq_runs.specs.Explain.{Account, opening_account, account_with, account_of, explanation_in, explain}
use Rattle.craq_runs.specs.Valid.{state_at, IsSaid, IsExplained, StrongHold, IsChecked, place_name, answer_name}
use Rattle.craq_updates.specs.ValidEntries.{AllValid}
use Rattle.craq_runs.specs.Typed.{IsMoveOfType, AreOfType, IsTypedRunOf}
use Rattle.craq_updates.proofs.Places.{happens_at}
use Rattle.craq_updates.proofs.Entries.{valid_closed}
use Rattle.craq_updates.proofs.Updates.{updates_take, after_updates, numbers_name}
use Rattle.craq_updates.proofs.Known.{Known}
use Rattle.craq_updates.proofs.Accounts.{next_account, moves_counted}
use Rattle.craq_updates.proofs.Runs.{account_by, run_account}
use Rattle.craq_updates.proofs.Explained.{seen_by, log_valid, grows_in, seen_run}
use Rattle.craq_strong_answers.proofs.Stands.{state_after}
use Rattle.craq_strong_answers.proofs.Placed.{Explains, strong_of}
use Rattle.craq_strong_answers.proofs.Once.{no_name_twice, all_once, distinct_filter}
use Rattle.craq_strong_answers.proofs.Clients.{Clients, ClientsNext, clients_next, new_answers, opening_clients}

-- ---- each run

pub record ClientsRun (b : Account) (given : List Answered) : Type 0 where
  pub world : MachineState Entry
  pub receivers : List ℕ
  pub clients : Clients b world receivers given

by_result : (t : Taken) (ts : List Taken) (a : Account) (w : MachineState Entry) (receivers : List ℕ) (given : List Answered) → Clients a w receivers given → IsMoveOfType t.chosen
    → ((b : Account) (v : MachineState Entry) (receivers : List ℕ) (given : List Answered) → Clients b v receivers given → AreTaken b.chain ts → ClientsRun (account_of b ts) (given ++ answers_from (b.chain.moves + 1) receivers ts))
    → (res : Result Progress Refusal) → chain_step a.chain t.chosen ≡ res → Takes res t.step × AreTaken (progressed a.chain res) ts
    → ClientsRun (account_of (account_by a t res) ts) (given ++ answers_from (a.chain.moves + 1) receivers (t ∷ ts))
unfolding account_with answers_from
by_result t ts a w receivers given c type go (Err e) is taken = absurd taken.0
by_result t ts a w receivers given c type go (Ok x) is taken =
    let n : ClientsNext a t x w receivers given = clients_next a w t x receivers given c is taken.0 type in
    let r : ClientsRun (account_of (next_account a t x) ts) ((given ++ new_answers a t) ++ answers_from (x.0.moves + 1) (receivers ++ receivers_in t.step.outs) ts) =
    go (next_account a t x) n.world (receivers ++ receivers_in t.step.outs) (given ++ new_answers a t) n.clients taken.1 in
    let count : x.0.moves ≡ a.chain.moves + 1 = moves_counted a.chain t.chosen x (happens_at a.chain t.chosen x is) in
    let same : new_answers a t ≡ answers_in (a.chain.moves + 1) (node_of receivers t.chosen) t.step.outs = ap (λ l. answers_in (a.chain.moves + 1) (node_of l t.chosen) t.step.outs) (sym c.received) in
    let P : List Answered → Type 0 = λ l. ClientsRun (account_of (next_account a t x) ts) l in
    subst P
    (ap (λ k. (given ++ new_answers a t) ++ answers_from (k + 1) (receivers ++ receivers_in t.step.outs) ts) count
    ∙ (append_assoc given (new_answers a t) (answers_from (a.chain.moves + 1 + 1) (receivers ++ receivers_in t.step.outs) ts)
    ∙ ap (λ l. given ++ (l ++ answers_from (a.chain.moves + 1 + 1) (receivers ++ receivers_in t.step.outs) ts)) same))
    r

clients_moves : (ts : List Taken) (a : Account) (w : MachineState Entry) (receivers : List ℕ) (given : List Answered) → Clients a w receivers given → AreTaken a.chain ts → AreOfType ts
    → ClientsRun (account_of a ts) (given ++ answers_from (a.chain.moves + 1) receivers ts)
unfolding answers_from
clients_moves [] a w receivers given c taken type = let P : List Answered → Type 0 = λ l. ClientsRun a l in subst P (sym (append-nil given)) (record { world = w; receivers = receivers; clients = c })
clients_moves (t ∷ ts) a w receivers given c taken type = by_result t ts a w receivers given c type.0 (λ b v r g c taken. clients_moves ts b v r g c taken type.1) (chain_step a.chain t.chosen) refl taken

pub clients_run : (chain : ℕ) (run : Run) → IsTypedRunOf chain run → ClientsRun (run_account chain run) (answers_from 1 [] run.moves)
clients_run chain run i = clients_moves run.moves (opening_account chain run.members) (initial_state run.members) [] [] (opening_clients chain run i) i.run_of.moves i.typed

-- ---- the tests

-- the state of the explanation is that after the entries
pub state_is : (a : Account) (w : MachineState Entry) (answers : List Answered) (count : ℕ) → Known a w → state_at (seen_by a answers) (explanation_in a) count ≡ state_after count a.committed
state_is a w answers count k =
    let g : AllValid a.asks opening_state a.committed = log_valid k in
    let part : AllValid a.asks opening_state (take count a.committed) = valid_closed a.asks opening_state (take count a.committed) a.committed (prefix_take count a.committed) g in
    ap after (updates_take a.asks opening_state count a.committed k.numbered g) ∙ after_updates a.asks opening_state (take count a.committed) k.numbered part

explained : (a : Account) (w : MachineState Entry) (answers xs : List Answered) (ps : List Place) → Known a w → AllZip (Explains a) xs ps → AllZip (IsExplained (seen_by a answers) (explanation_in a)) xs ps
explained a w answers [] [] k z = tt
explained a w answers [] (p ∷ ps) k z = absurd z
explained a w answers (x ∷ xs) [] k z = absurd z
explained a w answers (x ∷ xs) (p ∷ ps) k z =
    let e : Explains a x p = z.0 in
    let P : State → Type 0 = λ s. IsSaid s e.ask.ask x.answer in (
      record {
        ask = e.ask;
        is_ask = e.is_ask;
        asked_first = e.asked_first;
        not_before = e.not_before;
        not_beyond = e.not_beyond;
        is_said = subst P (sym (state_is a w answers p.position k)) e.is_said;
      },
      explained a w answers xs ps k z.1,
    )

names : (a : Account) (xs : List Answered) (ps : List Place) → AllZip (Explains a) xs ps → map place_name ps ≡ map answer_name xs
names a [] [] z = refl
names a [] (p ∷ ps) z = absurd z
names a (x ∷ xs) [] z = absurd z
names a (x ∷ xs) (p ∷ ps) z = let e : Explains a x p = z.0 in λ i. (e.node i, e.ticket i) ∷ names a xs ps z.1 i

pub strong_in : (a : Account) (w : MachineState Entry) (receivers : List ℕ) (answers : List Answered) → Clients a w receivers answers → StrongHold (seen_by a answers) (explanation_in a)
unfolding strong_answers
strong_in a w receivers answers c = record {
  explained = explained a w answers (strong_of a.asks answers) a.places c.known c.placed;
  once = distinct_filter _ _ answers (no_name_twice answers (all_once a.chain.nodes answers c.once));
}

pub places_in : (a : Account) (w : MachineState Entry) (receivers : List ℕ) (answers : List Answered) → Clients a w receivers answers → map place_name a.places ≡ map answer_name (strong_answers (seen_by a answers))
unfolding strong_answers
places_in a w receivers answers c = names a (strong_of a.asks answers) a.places c.placed

pub checked_in : (a : Account) (w : MachineState Entry) (receivers : List ℕ) (answers : List Answered) → Clients a w receivers answers → IsChecked (seen_by a answers) (explanation_in a)
checked_in a w receivers answers c =
    let k : Known a w = c.known in
    let l : _ = k.lens in
    record {
      form = record { asks = numbers_name a.asks opening_state a.committed k.numbered (log_valid k); lens = l.count; places = places_in a w receivers answers c };
      list = grows_in a w answers k;
      strong = strong_in a w receivers answers c;
    }

pub checked : (chain : ℕ) (run : Run) → IsTypedRunOf chain run → IsChecked (seen run) (explain chain run)
checked chain run i =
    let r : ClientsRun (run_account chain run) (answers_from 1 [] run.moves) = clients_run chain run i in
    let P : Seen → Type 0 = λ s. IsChecked s (explain chain run) in
    subst P (seen_run chain run i) (checked_in (run_account chain run) r.world r.receivers (answers_from 1 [] run.moves) r.clients)

pub strong : (chain : ℕ) (run : Run) → IsTypedRunOf chain run → StrongHold (seen run) (explain chain run)
strong chain run i = let c : IsChecked (seen run) (explain chain run) = checked chain run i in c.strong

pub places : (chain : ℕ) (run : Run) → IsTypedRunOf chain run → map place_name (explain chain run).places ≡ map answer_name (strong_answers (seen run))
places chain run i = let c : IsChecked (seen run) (explain chain run) = checked chain run i in let f : _ = c.form in f.places
