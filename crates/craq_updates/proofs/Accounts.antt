-- Each move preserves the invariant of an account.
use Rattle.std.proofs.Common.{◌≡◌, ◌⊎◌, inl, inr, ⊎_elim, ℕ, ◌+◌, ◌≤◌, ◌==◌, true, ◌&&◌, List, [], ◌∷◌, ◌++◌, length, Option, Some, None, Ok, refl, ap, sym, subst, ◌∙◌, arith}
use Rattle.std.specs.List.{AllByRecursion}
use Rattle.std.proofs.lemmas.List.{map-append}
use Rattle.craq_commands.specs.declared.entry.Entry.{Entry}
use Rattle.craq_commands.specs.declared.state.State.{State}
use Rattle.craq_commands.specs.SingleCopy.{opening_state, after_entry, after_entries}
use Rattle.craq_model.specs.declared.ask.Ask.TheVariants as asks
use Rattle.craq_model.specs.declared.step.Step.{Step}
use Rattle.craq_model.specs.Plain.{Plain, id_of, newest}
use Rattle.craq_protocol.specs.Machine as machine
use Rattle.craq_protocol.specs.Machine.{MachineState}
use Rattle.craq_protocol.specs.Promises.{IsPrefix, IsReached, Later}
use Rattle.craq_runs.specs.declared.run.Move.{Move}
use Rattle.craq_runs.specs.declared.run.Move.TheVariants as moves
use Rattle.craq_runs.specs.declared.run.Taken.{Taken}
use Rattle.craq_runs.specs.Chain.{Chain, Progress, node_at, chain_step}
use Rattle.craq_runs.specs.Seen.{Asked, ask_in, ask_with}
use Rattle.craq_runs.specs.Explain.{Account, account_with, committed_by, ask_number}
use Rattle.craq_refinement.specs.Follows.{seen_of, NodeFollows, Follows}
use Rattle.craq_updates.specs.ValidEntries.{IsValidEntry, AllValid}
use Rattle.craq_runs.specs.Typed.{IsMoveOfType}
use Rattle.craq_laws.proofs.Nodes.{node_id}
use Rattle.craq_updates.proofs.Machine.{Held}
use Rattle.craq_updates.proofs.Moves.{LogBy}
use Rattle.craq_updates.proofs.Steps.{Went}
use Rattle.craq_updates.proofs.EachMove.{place_of, entry_for, MayAppend, each_move}
use Rattle.craq_updates.proofs.Found.{find_all}
use Rattle.craq_updates.proofs.Entries.{valid_closed, valid_push, valid_stays, entry_valid, StaysAsked}
use Rattle.craq_updates.proofs.Updates.{numbers_of, number_is, numbers_stay, numbers_length}
use Rattle.craq_updates.proofs.Places.{AtNode, AtMaster, happens_at}
use Rattle.craq_updates.proofs.AtNodes.{now_at}
use Rattle.craq_updates.proofs.Lens.{AreLens, lens_push}
use Rattle.craq_updates.proofs.Commits.{commits_log}
use Rattle.craq_updates.proofs.Known.{Known, NodesGrow, some_same, grow_at_node, grow_at_master, nobody_at_node, nobody_at_master, tail_there, newest_is}
use Rattle.craq_updates.proofs.NewAsks.{TookAsk, took_ask, NewAsks, new_asks, numbered_after, in_time_after, ticketed_after, asks_stay, new_ask_found}

-- ---- the entry of a new update is valid

held_more : (asked more : List Asked) → StaysAsked asked more → (w : MachineState Entry) → Held (AllValid asked opening_state) w → Held (AllValid more opening_state) w
held_more asked more f w h = record {
  histories = λ n. valid_stays asked more f opening_state (w.history n) (h.histories n);
  log = valid_stays asked more f opening_state w.log h.log;
}

may_append : (a : Account) (w : MachineState Entry) → Known a w → (chosen : Move) (x : Progress) (step : Step) → chain_step a.chain chosen ≡ Ok x → x.1 ≡ step → IsMoveOfType chosen
    → MayAppend (AllValid (a.asks ++ ask_in (a.chain.moves + 1) step.ticket chosen) opening_state) a.chain w chosen
may_append a w k (moves.Ask node (asks.Read mode object)) x step does same type = tt
may_append a w k (moves.Deliver number) x step does same type = tt
may_append a w k (moves.Tick node) x step does same type = tt
may_append a w k (moves.Stop node) x step does same type = tt
may_append a w k (moves.Remove node) x step does same type = tt
may_append a w k (moves.Join node) x step does same type = tt
may_append a w k (moves.Ask node (asks.Update u)) x step does same type =
    λ p at new.
    let chosen : Move = moves.Ask node (asks.Update u) in
    let number : ℕ = a.chain.moves + 1 in
    let more : List Asked = a.asks ++ ask_in number step.ticket chosen in
    let old : AllValid more opening_state (w.history node) = valid_stays a.asks more (asks_stay a.asks (ask_in number step.ticket chosen)) opening_state (w.history node) (k.held.histories node) in
    ⊎_elim
    (λ (here : AtNode a.chain chosen x).
    let t : TookAsk a.chain node (asks.Update u) x step = took_ask a.chain node (asks.Update u) x step here same in
    let was : t.here.was ≡ p = some_same (node_at a.chain.nodes node) t.here.at at in
    let ticket : step.ticket ≡ Some (p.last_ticket + 1) = t.ticket ∙ ap (λ (p : Plain). Some (p.last_ticket + 1)) was in
    let id : id_of p ≡ node = node_id a.chain.nodes node p at in
    let n : NodeFollows w (seen_of p) = k.follows.nodes node p at in
    let ask : Asked = record { move = number; node = node; ticket = step.ticket; ask = asks.Update u } in
    let found : ask_with more node (p.last_ticket + 1) ≡ Some ask = new_ask_found a.chain.nodes node number (p.last_ticket + 1) step.ticket (asks.Update u) p a.asks at (omega arith) ticket k.ticketed in
    let P : ℕ → Type 0 = λ j. ask_with more j (p.last_ticket + 1) ≡ Some ask in
    let g : IsValidEntry more (newest p) (entry_for p u) = entry_valid more ask p u (subst P (sym id) found) refl new type in
    let Q : ℕ → Type 0 = λ j. newest p ≡ after_entries opening_state (w.history j) in
    let R : State → Type 0 = λ s. IsValidEntry more s (entry_for p u) in
    valid_push more opening_state (w.history node) (entry_for p u) old (subst R (subst Q id (newest_is p n)) g))
    (λ (m : AtMaster a.chain chosen x). absurd (nonempty (m.no_ask number step.ticket)))
    (happens_at a.chain chosen x does)
  where
    nonempty : {y : Asked} {ys : List Asked} → y ∷ ys ≡ [] → ⊥
    nonempty h = cc

-- ---- the account

-- the numbers of requests are no higher than the number of moves
numbers_below : (asked : List Asked) (s : State) (n : ℕ) (es : List Entry) → AllByRecursion (λ (x : Asked). x.move ≤ n) asked → AllValid asked s es → AllByRecursion (λ k. k ≤ n) (numbers_of asked es)
unfolding ask_with
numbers_below asked s n [] below g = tt
numbers_below asked s n (e ∷ es) below g =
    let one : g.0.by.ask.move ≤ n = find_all (λ (x : Asked). x.move ≤ n) (λ (x : Asked). (x.node == e.origin_node) && _) asked g.0.by.ask below g.0.by.is_ask in
    (omega (arith, number_is asked s e g.0, one), numbers_below asked (after_entry s e) n es below g.1)

lens_after : (asked more : List Asked) (moves next : ℕ) (lens : List ℕ) (log longer : List Entry) → next ≡ moves + 1 → StaysAsked asked more → AreLens moves lens (numbers_of asked log) → IsPrefix log longer
    → AllValid asked opening_state log → AllValid more opening_state longer → AllByRecursion (λ (x : Asked). x.move ≤ next) more
    → AreLens next (lens ++ length longer ∷ []) (numbers_of more longer)
lens_after asked more moves next lens log longer same stay l p g h below =
    let rest : List ℕ = numbers_of more p.rest in
    let split : numbers_of more longer ≡ numbers_of asked log ++ rest =
    ap (numbers_of more) (sym p.is) ∙ (map-append (ask_number more) log p.rest ∙ ap (λ ns. ns ++ rest) (numbers_stay asked more stay opening_state log g)) in
    let all : AllByRecursion (λ k. k ≤ next) (numbers_of more longer) = numbers_below more opening_state next longer below h in
    let B : List ℕ → Type 0 = λ ns. AllByRecursion (λ k. k ≤ moves + 1) ns in
    let C : ℕ → Type 0 = λ n. AllByRecursion (λ k. k ≤ n) (numbers_of more longer) in
    let pushed : AreLens (moves + 1) (lens ++ length (numbers_of asked log ++ rest) ∷ []) (numbers_of asked log ++ rest) = lens_push moves lens (numbers_of asked log) rest l (subst B split (subst C same all)) in
    let D : List ℕ → Type 0 = λ ns. AreLens (moves + 1) (lens ++ length ns ∷ []) ns in
    let back : AreLens (moves + 1) (lens ++ length (numbers_of more longer) ∷ []) (numbers_of more longer) = subst D (sym split) pushed in
    let E : ℕ → Type 0 = λ k. AreLens (moves + 1) (lens ++ k ∷ []) (numbers_of more longer) in
    let F : ℕ → Type 0 = λ n. AreLens n (lens ++ length longer ∷ []) (numbers_of more longer) in
    subst F (sym same) (subst E (numbers_length more longer) back)

-- the node of the move, before and after it
abbrev pub next_account : Account → Taken → Progress → Account
next_account a t x = account_with a t (place_of a.chain t.chosen) x.0 (node_at a.chain.nodes (place_of a.chain t.chosen)) (node_at x.0.nodes (place_of a.chain t.chosen))

-- the move commits the log after it
committed_after : (a : Account) (w v : MachineState Entry) (chosen : Move) (x : Progress) → Known a w → chain_step a.chain chosen ≡ Ok x → Follows x.0 v → IsReached v → Later w v → LogBy (place_of a.chain chosen) w v
    → committed_by a.committed (node_at x.0.nodes (place_of a.chain chosen)) ≡ v.log
committed_after a w v chosen x k does g s later log =
    ap (λ l. committed_by l (node_at x.0.nodes (place_of a.chain chosen))) k.committed
    ∙ ⊎_elim
    (λ (here : AtNode a.chain chosen x). ap (committed_by w.log) (now_at here) ∙ commits_log k.follows k.reached g s later log here)
    (λ (m : AtMaster a.chain chosen x).
    let none : node_at x.0.nodes 0 ≡ None = nobody_at_master k.nobody m in
    let there : node_at x.0.nodes (place_of a.chain chosen) ≡ None = ap (node_at x.0.nodes) m.place ∙ none in
    let quiet : v.log ≡ w.log = ⊎_elim (λ e. e) (λ t.
    let P : ℕ → Type 0 = λ j. machine.is_tail v j ≡ true in
    let p : _ = tail_there g s 0 (subst P m.place t) in
    absurd (nothing (node_at x.0.nodes 0) none p.1)) log in
    ap (committed_by w.log) there ∙ sym quiet)
    (happens_at a.chain chosen x does)
  where
    nothing : {A : Type 0} {y : A} (o : Option A) → o ≡ None → o ≡ Some y → ⊥
    nothing o n s = cc

pub moves_counted : (c : Chain) (chosen : Move) (x : Progress) → AtNode c chosen x ⊎ AtMaster c chosen x → x.0.moves ≡ c.moves + 1
moves_counted c chosen x (inl a) = ap (λ (y : Progress). y.0.moves) a.is
moves_counted c chosen x (inr m) = m.count

-- one more move: there is a world for which the invariant holds again, and its log is no shorter
pub record KnownNext (a b : Account) (w : MachineState Entry) : Type 0 where
  pub world : MachineState Entry
  pub known : Known b world
  pub later : Later w world

pub known_after : (a : Account) (w : MachineState Entry) (t : Taken) (x : Progress) → Known a w → chain_step a.chain t.chosen ≡ Ok x → x.1 ≡ t.step → IsMoveOfType t.chosen → KnownNext a (next_account a t x) w
unfolding account_with
known_after a w t x k does same type =
    let c : Chain = a.chain in
    let id : ℕ = place_of c t.chosen in
    let extra : List Asked = ask_in (c.moves + 1) t.step.ticket t.chosen in
    let more : List Asked = a.asks ++ extra in
    let P : List Entry → Type 0 = AllValid more opening_state in
    let stay : StaysAsked a.asks more = asks_stay a.asks extra in
    let g : Went P (MayAppend P c w t.chosen) id w x.0 = each_move P (valid_closed more opening_state) c w t.chosen x k.follows k.reached does in
    let v : MachineState Entry = g.world in
    let held : Held P v = g.held (may_append a w k t.chosen x t.step does same type) (held_more a.asks more stay w k.held) in
    let log : committed_by a.committed (node_at x.0.nodes id) ≡ v.log = committed_after a w v t.chosen x k does g.follows g.reached g.later g.log in
    let where_at : AtNode c t.chosen x ⊎ AtMaster c t.chosen x = happens_at c t.chosen x does in
    let count : x.0.moves ≡ c.moves + 1 = moves_counted c t.chosen x where_at in
    let new : NewAsks c.moves x.0.nodes extra = new_asks c t.chosen x t.step does same in
    let grow : NodesGrow c.nodes x.0.nodes = ⊎_elim (λ (h : AtNode c t.chosen x). grow_at_node h) (λ (m : AtMaster c t.chosen x). grow_at_master m) where_at in
    let nobody : node_at x.0.nodes 0 ≡ None = ⊎_elim (λ (h : AtNode c t.chosen x). nobody_at_node k.nobody h) (λ (m : AtMaster c t.chosen x). nobody_at_master k.nobody m) where_at in
    let in_time : AllByRecursion (λ (y : Asked). y.move ≤ x.0.moves) more = in_time_after c.moves x.0.moves x.0.nodes a.asks extra count k.in_time new in
    let L : List Entry → Type 0 = λ l. AreLens c.moves a.lens (numbers_of a.asks l) in
    let lens : AreLens x.0.moves (a.lens ++ length v.log ∷ []) (numbers_of more v.log) =
    lens_after a.asks more c.moves x.0.moves a.lens w.log v.log count stay (subst L k.committed k.lens) g.later.log k.held.log held.log in_time in
    let M : List Entry → Type 0 = λ l. AreLens x.0.moves (a.lens ++ length l ∷ []) (numbers_of more l) in
    record {
      world = v;
      known = record {
        reached = g.reached;
        follows = g.follows;
        committed = log;
        held = held;
        numbered = numbered_after c.moves x.0.nodes a.asks extra k.numbered k.in_time new;
        in_time = in_time;
        ticketed = ticketed_after c.moves c.nodes x.0.nodes a.asks extra grow k.ticketed new;
        nobody = nobody;
        lens = subst M (sym log) lens;
      };
      later = g.later;
    }
