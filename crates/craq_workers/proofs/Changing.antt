-- Stops, removals and joins of a store, in its history.
use Rattle.std.proofs.Common.{◌≡◌, ◌==◌, ◌&&◌, ℕ, false, not, List, Option, Some, None, Result, Ok, Err, IfOk, IfSome, sym, ap, subst, rules}
use Rattle.std.specs.Prelude.{IsSome}
use mathlib.Core.List.{IsPrefix}
use Rattle.craq_names.specs.declared.name.NodeName.{NodeName}
use Rattle.craq_names.specs.declared.refusal.Refusal.{Refusal}
use Rattle.craq_model.specs.declared.ask.Event.{Event}
use Rattle.craq_model.specs.declared.ask.Event.TheVariants as events
use Rattle.craq_model.specs.declared.step.Step.{Step}
use Rattle.craq_seat.specs.declared.journal.BookEvent.{BookEvent}
use Rattle.craq_seat.specs.declared.journal.BookEvent.TheVariants as books
use Rattle.craq_seat.specs.declared.journal.Receipt.{Receipt}
use Rattle.craq_seat.specs.Cells.{Celled, receipt_of}
use Rattle.craq_causality.specs.Causal.{HasStopped, IsOfStopped}
use Rattle.craq_causality.proofs.Growing.{stopped_later}
use Rattle.craq_ghost_history.proofs.Prefixes.{prefix_trans}
use Rattle.craq_store_history.specs.declared.entry.HistoryEntry.{HistoryEntry}
use Rattle.craq_store_history.specs.Chains.{IsHistory}
use Rattle.craq_store_history.specs.Entries.{lines_in}
use Rattle.craq_store_history.proofs.Lines.{lines_prefix}
use Rattle.craq_store_parts.specs.Recorded.{HasTakenAfter}
use Rattle.craq_store_parts.specs.Witnessed.{IsWitnessedJoin, IsWitnessedOrder, IsWitnessedRemoval, IsWitnessedStop}

by_last : (old log : List HistoryEntry) (name : NodeName) (stamp : ℕ) (o : Option Step) → IsSome o → IfSome o (λ (s : Step). HasTakenAfter old log name stamp events.Stop 0 s None) → (s : Step) × HasTakenAfter old log name stamp events.Stop 0 s None
by_last old log name stamp None there h = absurd cc
by_last old log name stamp (Some s) there h = (s, h)

-- the last step of a cell is the stop of its node
pub stop_witnessed : {C : Type 0} (cell : Celled C Event) (old log new : List HistoryEntry) (receipt : Receipt) → receipt ≡ receipt_of cell → IsSome cell.last → IfSome cell.last (λ (s : Step). HasTakenAfter old log cell.opening.name cell.stamp events.Stop 0 s None)
    → IsHistory log → new ≡ log → IsWitnessedStop old cell.opening.name receipt new
stop_witnessed cell old log new receipt is there taken h same =
    let name : NodeName = cell.opening.name in
    let t = by_last old log name cell.stamp cell.last there taken in
    let under = subst (λ (k : ℕ). HasTakenAfter old log name k events.Stop 0 t.0 None) (sym (ap (λ (r : Receipt). r.stamp) is)) t.1 in
    record {
      pass = 0;
      step = t.0;
      taken = subst (λ (l : List HistoryEntry). HasTakenAfter old l name receipt.stamp events.Stop 0 t.0 None) (sym same) under;
      node = ap (λ (r : Receipt). r.node) is;
      history = subst IsHistory (sym same) h;
    }

-- a step that follows more of the history follows less of it
pub order_after : (old mid : List HistoryEntry) (chain : ℕ) (event : BookEvent) (receipt : Receipt) (new : List HistoryEntry) → IsPrefix old mid → IsWitnessedOrder mid chain event receipt new → IsWitnessedOrder old chain event receipt new
order_after old mid chain event receipt new p w =
    record { pass = w.pass; step = w.step; taken = (w.taken.0, prefix_trans old mid w.taken.0 p w.taken.1, w.taken.2); master = w.master; history = w.history }

-- a stop that was seen was seen by all that goes on from it
pub stop_seen : (chain : ℕ) (seen more : List HistoryEntry) (name : NodeName) (stop : Receipt) → IsPrefix seen more → HasStopped (lines_in chain seen) name stop → IsOfStopped (lines_in chain more) (books.Remove name stop)
stop_seen chain seen more name stop p h = stopped_later (lines_in chain seen) (lines_in chain more) (books.Remove name stop) (lines_prefix chain seen more p) h

-- the removal of a node of this name
pub removal_witnessed : (old mid : List HistoryEntry) (chain : ℕ) (stopped name : NodeName) (stop : Receipt) (r : Result (Receipt × List HistoryEntry) Refusal) → IsPrefix old mid → stopped ≡ name → name.chain ≡ chain
    → IfOk r (λ (x : Receipt × List HistoryEntry). IsWitnessedOrder mid chain (books.Remove stopped stop) x.0 x.1) → IfOk r (λ (x : Receipt × List HistoryEntry). IsWitnessedRemoval old name x.0 x.1)
removal_witnessed old mid chain stopped name stop (Ok x) p same at w =
    let by_name = subst (λ (n : NodeName). IsWitnessedOrder mid chain (books.Remove n stop) x.0 x.1) same w in
    let by_chain = subst (λ (k : ℕ). IsWitnessedOrder mid k (books.Remove name stop) x.0 x.1) (sym at) by_name in
    (stop, order_after old mid name.chain (books.Remove name stop) x.0 x.1 p by_chain)
removal_witnessed old mid chain stopped name stop (Err e) p same at w = tt

-- the join of a node of this name
pub join_witnessed : (old seen : List HistoryEntry) (chain : ℕ) (name : NodeName) (receipt : Receipt) (new : List HistoryEntry) → seen ≡ old → name.chain ≡ chain → IsWitnessedOrder seen chain (books.Join name.node) receipt new → IsWitnessedJoin old name receipt new
join_witnessed old seen chain name receipt new same at w =
    subst (λ (l : List HistoryEntry). IsWitnessedOrder l name.chain (books.Join name.node) receipt new) same (subst (λ (k : ℕ). IsWitnessedOrder seen k (books.Join name.node) receipt new) (sym at) w)

-- two names that a test found to be one
pub same_name : (one other : NodeName) → false ≡ not ((one.chain == other.chain) && (one.node == other.node)) → one ≡ other
same_name one other h = search rules
