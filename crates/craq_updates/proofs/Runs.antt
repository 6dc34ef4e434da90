-- The invariant of the account of a whole run.
use Rattle.std.proofs.Common.{◌≡◌, ℕ, ◌+◌, ◌≤◌, ◌==◌, List, [], ◌∷◌, ◌++◌, map, length, find, Some, None, Result, Ok, Err, refl, ap, sym, ◌∙◌, arith, append-nil, append_assoc}
use Rattle.std.specs.List.{AllByRecursion}
use Rattle.std.proofs.lemmas.Bool.{cond-false, ne_eqb}
use Rattle.craq_names.specs.Limits.{greatest_count}
use Rattle.craq_names.specs.declared.refusal.Refusal.{Refusal}
use Rattle.craq_commands.specs.declared.entry.Entry.{Entry}
use Rattle.craq_model.specs.Members.{IsMembership}
use Rattle.craq_model.specs.Plain.{Plain, id_of, opening_member}
use Rattle.craq_protocol.specs.Machine.{MachineState, initial_state}
use Rattle.craq_protocol.specs.Promises.{Later}
use Rattle.craq_protocol.proofs.Reached.{reached_opening}
use Rattle.craq_protocol.proofs.Stays.{later_self, later_trans}
use Rattle.craq_runs.specs.declared.run.Taken.{Taken}
use Rattle.craq_runs.specs.declared.run.Run.{Run}
use Rattle.craq_runs.specs.Chain.{Progress, node_at, chain_step}
use Rattle.craq_runs.specs.Runs.{progressed, Takes, AreTaken}
use Rattle.craq_runs.specs.Seen.{Asked, asks_from, ask_in}
use Rattle.craq_runs.specs.Explain.{Account, opening_account, account_with, account_of}
use Rattle.craq_refinement.proofs.Opening.{opening_follows, distinct_members}
use Rattle.craq_runs.specs.Typed.{IsMoveOfType, AreOfType, IsTypedRunOf}
use Rattle.craq_updates.proofs.EachMove.{place_of}
use Rattle.craq_updates.proofs.Places.{happens_at}
use Rattle.craq_updates.proofs.Lens.{lens_nil}
use Rattle.craq_updates.proofs.Known.{Known}
use Rattle.craq_updates.proofs.Accounts.{KnownNext, next_account, known_after, moves_counted}

-- ---- the opening

nobody_opens : (chain : ℕ) (members ids : List ℕ) → AllByRecursion (λ id. (1 ≤ id) × (id ≤ greatest_count)) ids → node_at (map (λ id. opening_member (record { chain = chain; node = id }) members) ids) 0 ≡ None
unfolding node_at
nobody_opens chain members [] a = refl
nobody_opens chain members (id ∷ ids) a =
    let q : ℕ → Plain = λ id. opening_member (record { chain = chain; node = id }) members in
    let one : 1 ≤ id = a.0.0 in
    cond-false (id == 0) (Some (q id)) (find (λ (p : Plain). id_of p == 0) (map q ids)) (ne_eqb id 0 (λ e. omega (arith, e, one))) ∙ nobody_opens chain members ids a.1

pub opening_known : (chain : ℕ) (members : List ℕ) → IsMembership members → Known (opening_account chain members) (initial_state members)
opening_known chain members m = record {
  reached = reached_opening members (distinct_members members m.distinct);
  follows = opening_follows chain members;
  committed = refl;
  held = record { histories = λ n. tt; log = tt };
  numbered = tt;
  in_time = tt;
  ticketed = tt;
  nobody = nobody_opens chain members members m.ids;
  lens = lens_nil;
}

-- ---- moves

-- the account after a move, by the move's result
abbrev pub account_by : Account → Taken → Result Progress Refusal → Account
account_by a t r = account_with a t (place_of a.chain t.chosen) (progressed a.chain r) (node_at a.chain.nodes (place_of a.chain t.chosen)) (node_at (progressed a.chain r).nodes (place_of a.chain t.chosen))

-- the invariant after moves: the requests are those of the moves, and each move was counted
pub record KnownRun (a : Account) (w : MachineState Entry) (ts : List Taken) (b : Account) : Type 0 where
  pub world : MachineState Entry
  pub known : Known b world
  pub later : Later w world
  pub asks : b.asks ≡ a.asks ++ asks_from (a.chain.moves + 1) ts
  pub moves : b.chain.moves ≡ a.chain.moves + length ts

by_result : (t : Taken) (ts : List Taken) (a : Account) (w : MachineState Entry) → Known a w → IsMoveOfType t.chosen
    → ((b : Account) (v : MachineState Entry) → Known b v → AreTaken b.chain ts → KnownRun b v ts (account_of b ts))
    → (res : Result Progress Refusal) → chain_step a.chain t.chosen ≡ res → Takes res t.step × AreTaken (progressed a.chain res) ts → KnownRun a w (t ∷ ts) (account_of (account_by a t res) ts)
unfolding account_with asks_from
by_result t ts a w k type go (Err e) is taken = absurd taken.0
by_result t ts a w k type go (Ok x) is taken =
    let one : KnownNext a (next_account a t x) w = known_after a w t x k is taken.0 type in
    let rest : KnownRun (next_account a t x) one.world ts (account_of (next_account a t x) ts) = go (next_account a t x) one.world one.known taken.1 in
    let count : x.0.moves ≡ a.chain.moves + 1 = moves_counted a.chain t.chosen x (happens_at a.chain t.chosen x is) in
    let first : List Asked = ask_in (a.chain.moves + 1) t.step.ticket t.chosen in
    record {
      world = rest.world;
      known = rest.known;
      later = later_trans one.later rest.later;
      asks = rest.asks ∙ (ap (λ n. (a.asks ++ first) ++ asks_from (n + 1) ts) count ∙ append_assoc a.asks first (asks_from (a.chain.moves + 1 + 1) ts));
      moves = omega (arith, rest.moves, count);
    }

pub known_moves : (ts : List Taken) (a : Account) (w : MachineState Entry) → Known a w → AreTaken a.chain ts → AreOfType ts → KnownRun a w ts (account_of a ts)
unfolding asks_from
known_moves [] a w k taken type = record { world = w; known = k; later = later_self w; asks = sym (append-nil a.asks); moves = omega arith }
known_moves (t ∷ ts) a w k taken type = by_result t ts a w k type.0 (λ b v k taken. known_moves ts b v k taken type.1) (chain_step a.chain t.chosen) refl taken

-- the account of a run
abbrev pub run_account : ℕ → Run → Account
run_account chain run = account_of (opening_account chain run.members) run.moves

pub known_run : (chain : ℕ) (run : Run) → IsTypedRunOf chain run → KnownRun (opening_account chain run.members) (initial_state run.members) run.moves (run_account chain run)
known_run chain run i = known_moves run.moves (opening_account chain run.members) (initial_state run.members) (opening_known chain run.members i.run_of.members) i.run_of.moves i.typed
