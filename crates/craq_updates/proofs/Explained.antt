-- The explanation of a run: its form and its list.
use Rattle.std.proofs.Common.{◌≡◌, ℕ, ◌+◌, List, [], ◌∷◌, ◌++◌, length, IsSome, Some, Result, Ok, Err, refl, ap, sym, subst, ◌∙◌, arith}
use Rattle.std.specs.List.{AllByRecursion}
use Rattle.std.proofs.lemmas.List.{map-append}
use Rattle.craq_commands.specs.declared.entry.Entry.{Entry}
use Rattle.craq_commands.specs.SingleCopy.{opening_state}
use Rattle.craq_protocol.specs.Machine.{MachineState, initial_state}
use Rattle.craq_runs.specs.declared.run.Run.{Run}
use Rattle.craq_runs.specs.Seen.{Seen, Asked, Answered, ask_in, asks_from, answers_from, seen, update_at}
use Rattle.craq_names.specs.declared.refusal.Refusal.{Refusal}
use Rattle.craq_model.specs.Plain.{Plain, id_of}
use Rattle.craq_protocol.specs.Promises.{IsPrefix, Later}
use Rattle.craq_protocol.proofs.Prefix.{prefix_more}
use Rattle.craq_runs.specs.declared.run.Taken.{Taken}
use Rattle.craq_runs.specs.Chain.{Chain, Progress, node_at, opening_chain, chain_step}
use Rattle.craq_runs.specs.Runs.{Takes, AreTaken, after_move, after_moves}
use Rattle.craq_runs.specs.Explain.{Account, opening_account, account_with, account_after, account_of, ask_number, explanation_in, explain}
use Rattle.craq_refinement.specs.Follows.{seen_of, NodeFollows}
use Rattle.craq_runs.specs.Valid.{OnlyGrows}
use Rattle.craq_updates.specs.ValidEntries.{AllValid, HasValidHistory, IsBeginning}
use Rattle.craq_runs.specs.Typed.{IsMoveOfType, AreOfType, IsTypedRunOf}
use Rattle.craq_laws.proofs.Histories.{opening_rises}
use Rattle.craq_updates.proofs.Updates.{numbers_of, updates_length, numbers_name, numbers_stay, no_request_twice, numbers_length}
use Rattle.craq_updates.proofs.Lens.{AreLens}
use Rattle.craq_updates.proofs.Known.{Known}
use Rattle.craq_updates.proofs.NewAsks.{asks_stay}
use Rattle.craq_updates.proofs.Accounts.{KnownNext, next_account, known_after}
use Rattle.craq_updates.proofs.Runs.{KnownRun, account_by, run_account, known_run}

-- the answers that clients see, with the requests of the account
abbrev pub seen_by : Account → List Answered → Seen
seen_by a answers = record { moves = a.chain.moves; asks = a.asks; answers = answers }

-- the committed entries are valid
pub log_valid : {a : Account} {w : MachineState Entry} → Known a w → AllValid a.asks opening_state a.committed
log_valid {a} k = let P : List Entry → Type 0 = λ l. AllValid a.asks opening_state l in subst P (sym k.committed) k.held.log

pub grows_in : (a : Account) (w : MachineState Entry) (answers : List Answered) → Known a w → OnlyGrows (seen_by a answers) (explanation_in a)
grows_in a w answers k =
    let g : AllValid a.asks opening_state a.committed = log_valid k in
    let l : AreLens a.chain.moves a.lens (numbers_of a.asks a.committed) = k.lens in
    record {
      grows = l.grows;
      ends = l.ends ∙ (numbers_length a.asks a.committed ∙ sym (updates_length a.asks opening_state a.committed k.numbered g));
      asked = l.asked;
      once = no_request_twice a.asks opening_state a.committed opening_rises k.numbered g;
    }

-- the account of a run has what clients see of it
pub seen_run : (chain : ℕ) (run : Run) → IsTypedRunOf chain run → seen_by (run_account chain run) (answers_from 1 [] run.moves) ≡ seen run
seen_run chain run i =
    let r : KnownRun (opening_account chain run.members) (initial_state run.members) run.moves (run_account chain run) = known_run chain run i in
    let moves : (run_account chain run).chain.moves ≡ length run.moves = omega (arith, r.moves) in
    let asks : (run_account chain run).asks ≡ asks_from 1 run.moves = r.asks in
    λ i. record { moves = moves i; asks = asks i; answers = answers_from 1 [] run.moves }

pub only_grows : (chain : ℕ) (run : Run) → IsTypedRunOf chain run → OnlyGrows (seen run) (explain chain run)
only_grows chain run i =
    let r : KnownRun (opening_account chain run.members) (initial_state run.members) run.moves (run_account chain run) = known_run chain run i in
    let P : Seen → Type 0 = λ s. OnlyGrows s (explain chain run) in
    subst P (seen_run chain run i) (grows_in (run_account chain run) r.world (answers_from 1 [] run.moves) r.known)

-- ---- the laws

pub valid_run : (chain : ℕ) (run : Run) → IsTypedRunOf chain run → AllValid (asks_from 1 run.moves) opening_state (run_account chain run).committed
valid_run chain run i =
    let r : KnownRun (opening_account chain run.members) (initial_state run.members) run.moves (run_account chain run) = known_run chain run i in
    let P : List Asked → Type 0 = λ l. AllValid l opening_state (run_account chain run).committed in
    subst P r.asks (log_valid r.known)

-- the chain of the account
chain_by : (t : Taken) (ts : List Taken) (a : Account) → ((b : Account) → (account_of b ts).chain ≡ after_moves b.chain ts) → (account_of a (t ∷ ts)).chain ≡ after_moves a.chain (t ∷ ts)
unfolding account_with
chain_by t ts a go = go (account_after a t)

pub chain_of_account : (ts : List Taken) (a : Account) → (account_of a ts).chain ≡ after_moves a.chain ts
chain_of_account [] a = refl
chain_of_account (t ∷ ts) a = chain_by t ts a (λ b. chain_of_account ts b)

pub valid_nodes : (chain : ℕ) (run : Run) (id : ℕ) (p : Plain) → IsTypedRunOf chain run → node_at (after_moves (opening_chain chain run.members) run.moves).nodes id ≡ Some p → HasValidHistory (asks_from 1 run.moves) p
valid_nodes chain run id p i at =
    let r : KnownRun (opening_account chain run.members) (initial_state run.members) run.moves (run_account chain run) = known_run chain run i in
    let k : Known (run_account chain run) r.world = r.known in
    let there : node_at (run_account chain run).chain.nodes id ≡ Some p = ap (λ (c : Chain). node_at c.nodes id) (chain_of_account run.moves (opening_account chain run.members)) ∙ at in
    let n : NodeFollows r.world (seen_of p) = let f : _ = k.follows in f.nodes id p there in
    let P : List Asked → Type 0 = λ l. AllValid l opening_state (r.world.history (id_of p)) in
    record { history = r.world.history (id_of p); is = n.history; valid_entry = subst P r.asks (let h : _ = k.held in h.histories (id_of p)) }

pub form_asks : (chain : ℕ) (run : Run) → IsTypedRunOf chain run → AllByRecursion (λ number. IsSome (update_at (seen run).asks number)) (explain chain run).asks
form_asks chain run i =
    let r : KnownRun (opening_account chain run.members) (initial_state run.members) run.moves (run_account chain run) = known_run chain run i in
    let a : Account = run_account chain run in
    let P : List Asked → Type 0 = λ l. AllByRecursion (λ number. IsSome (update_at l number)) (explain chain run).asks in
    let k : Known a r.world = r.known in
    subst P r.asks (numbers_name a.asks opening_state a.committed k.numbered (log_valid k))

pub form_lens : (chain : ℕ) (run : Run) → IsTypedRunOf chain run → length (explain chain run).lens ≡ (seen run).moves
form_lens chain run i =
    let r : KnownRun (opening_account chain run.members) (initial_state run.members) run.moves (run_account chain run) = known_run chain run i in
    let k : Known (run_account chain run) r.world = r.known in
    let l : AreLens (run_account chain run).chain.moves (run_account chain run).lens (numbers_of (run_account chain run).asks (run_account chain run).committed) = k.lens in
    omega (arith, l.count, r.moves)

-- ---- one more move

account_push : (ts : List Taken) (t : Taken) (a : Account) → account_of a (ts ++ t ∷ []) ≡ account_after (account_of a ts) t
account_push [] t a = refl
account_push (s ∷ ts) t a = account_push ts t (account_after a s)

pub taken_front : (ts us : List Taken) (c : Chain) → AreTaken c (ts ++ us) → AreTaken c ts × AreTaken (after_moves c ts) us
taken_front [] us c h = (tt, h)
taken_front (t ∷ ts) us c h = let r : _ = taken_front ts us (after_move c t.chosen) h.1 in ((h.0, r.0), r.1)

pub typed_front : (ts us : List Taken) → AreOfType (ts ++ us) → AreOfType ts × AreOfType us
typed_front [] us h = (tt, h)
typed_front (t ∷ ts) us h = let r : _ = typed_front ts us h.1 in ((h.0, r.0), r.1)

begins_next : (a : Account) (w : MachineState Entry) (t : Taken) → Known a w → IsMoveOfType t.chosen → (res : Result Progress Refusal) → chain_step a.chain t.chosen ≡ res → Takes res t.step
    → IsBeginning (explanation_in a) (explanation_in (account_by a t res))
unfolding account_with
begins_next a w t k type (Err e) is taken = absurd taken
begins_next a w t k type (Ok x) is taken =
    let one : KnownNext a (next_account a t x) w = known_after a w t x k is taken type in
    let b : Account = next_account a t x in
    let extra : List Asked = ask_in (a.chain.moves + 1) t.step.ticket t.chosen in
    let P : List Entry → Type 0 = λ l. IsPrefix a.committed l in
    let n : Known b one.world = one.known in
    let later : Later w one.world = one.later in
    let Q : List Entry → Type 0 = λ l. IsPrefix l one.world.log in
    let longer : IsPrefix a.committed b.committed = subst P (sym n.committed) (subst Q (sym k.committed) later.log) in
    record {
      asks = record {
        rest = numbers_of b.asks longer.rest;
        is = ap (λ l. l ++ numbers_of b.asks longer.rest) (sym (numbers_stay a.asks b.asks (asks_stay a.asks extra) opening_state a.committed (log_valid k)))
            ∙ (sym (map-append (ask_number b.asks) a.committed longer.rest) ∙ ap (numbers_of b.asks) longer.is);
      };
      lens = record { rest = length b.committed ∷ []; is = refl };
      places = prefix_more a.places _;
    }

pub begins : (chain : ℕ) (members : List ℕ) (ts : List Taken) (t : Taken) → IsTypedRunOf chain (record { members = members; moves = ts ++ t ∷ [] })
    → IsBeginning (explain chain (record { members = members; moves = ts })) (explain chain (record { members = members; moves = ts ++ t ∷ [] }))
begins chain members ts t i =
    let o : Account = opening_account chain members in
    let a : Account = account_of o ts in
    let taken : AreTaken o.chain ts × AreTaken (after_moves o.chain ts) (t ∷ []) = taken_front ts (t ∷ []) o.chain i.run_of.moves in
    let typed : AreOfType ts × AreOfType (t ∷ []) = typed_front ts (t ∷ []) i.typed in
    let before : IsTypedRunOf chain (record { members = members; moves = ts }) = record { run_of = record { members = i.run_of.members; moves = taken.0 }; typed = typed.0 } in
    let r : KnownRun o (initial_state members) ts a = known_run chain (record { members = members; moves = ts }) before in
    let C : Chain → Type 0 = λ c. Takes (chain_step c t.chosen) t.step in
    let last : Takes (chain_step a.chain t.chosen) t.step = subst C (sym (chain_of_account ts o)) taken.1.0 in
    let P : Account → Type 0 = λ b. IsBeginning (explanation_in a) (explanation_in b) in
    subst P (sym (account_push ts t o)) (begins_next a r.world t r.known typed.1.0 (chain_step a.chain t.chosen) refl last)
