-- A line of the master is a move of the chain.
use Rattle.std.proofs.Common.{◌≡◌, ℕ, false, List, [], ◌∷◌, ◌++◌, map, Some, None, Result, Ok, refl, sym, ap, subst, ◌∙◌, inl, inr}
use Rattle.craq_names.specs.declared.name.NodeName.{NodeName}
use Rattle.craq_names.specs.declared.refusal.Refusal.{Refusal}
use Rattle.craq_model.specs.declared.ask.Event.TheVariants as events
use Rattle.craq_model.specs.Plain.{Plain, opening_joined}
use Rattle.craq_epochs.specs.Mastered.{Mastered, master_after_join, removed}
use Rattle.craq_runs.specs.Chain.{Chain, is_running, move_progress, node_at}
use Rattle.craq_laws.proofs.Nodes.{still_there}
use Rattle.craq_chain.specs.Parts.{master_of, membership_step}
use Rattle.craq_seat.specs.declared.journal.BookEvent.{BookEvent}
use Rattle.craq_seat.specs.declared.journal.BookEvent.TheVariants as books
use Rattle.craq_seat.specs.declared.journal.Receipt.{Receipt}
use Rattle.craq_seat.specs.declared.journal.Record.{Record}
use Rattle.craq_seat.specs.Books.{book_step}
use Rattle.craq_seat.specs.Journal.{Replays}
use Rattle.craq_seat.specs.Merge.{AtNode, AtMaster, MergedStep, book_line, move_among}
use Rattle.craq_causality.proofs.AtNodes.{IsNext, first_same, taken}
use Rattle.craq_causality.proofs.Masters.{after_join, after_removal, is_reported, joins, removes, reported_from}
use Rattle.craq_causality.proofs.Nodes.{pushed_new, pushed_other, same_or_not}
use Rattle.craq_causality.proofs.Orders.{at_here, at_other, from_contains}
use Rattle.craq_causality.specs.Authors.{lines_of}
use Rattle.craq_causality.specs.Causal.{HasStopped, MayFollow}
use Rattle.craq_causality.proofs.Reached.{AreSound, IsChanged, IsJoinOf, IsNow, IsReached, IsStopped, IsThere, NodeGoes, follows}
use Rattle.craq_seat.specs.Numbered.{AreFrom}

not_stop : (r : Record BookEvent) → (book_line r).event ≡ AtNode events.Stop → ⊥
not_stop r h = cc

-- if the nodes stay
same_nodes : (chain : ℕ) (members : List ℕ) (done rest : List MergedStep) (c x : Chain) (r : Record BookEvent) (n last : Mastered) (rs : List (Record BookEvent)) → IsReached chain members done (book_line r ∷ rest) c → x.chain ≡ c.chain → x.nodes ≡ c.nodes → n ≡ master_of x → ((id : ℕ) → IsJoinOf id (book_line r) → ⊥) → AreFrom 0 r.step.outs → lines_of 0 rest ≡ map book_line rs → Replays book_step n rs last → IsChanged chain (book_line r) rest c x
same_nodes chain members done rest c x r n last rs old chained nodes is never from ls replay =
    record {
      chained = chained;
      master = record { records = rs; last = last; lines = ls; replay = subst (λ m. Replays book_step m rs last) is replay };
      nodes = λ id z. rw nodes (subst (NodeGoes chain id (node_at c.nodes id)) (at_other id (book_line r) rest (λ e. z (sym e))) (old.nodes id z));
      keeps = λ id t. rw nodes t;
      stays = λ id t. rw nodes t;
      join = λ id j. absurd (never id j);
      stop = λ e. absurd (not_stop r e);
      from = from;
    }

-- ---- a join

joins_id : (e : BookEvent) (id other : ℕ) → e ≡ books.Join id → AtMaster e ≡ AtMaster (books.Join other) → other ≡ id
joins_id e id other h k = cc

new_node : (chain id : ℕ) (c : Chain) (ls : List MergedStep) → c.chain ≡ chain → node_at c.nodes id ≡ None → NodeGoes chain id (node_at c.nodes id) ls → NodeGoes chain id (Some (opening_joined (record { chain = c.chain; node = id }))) ls
new_node chain id c ls e none g =
    record {
      node = g.node;
      records = g.records;
      last = g.last;
      now = by_now g.now;
      lines = g.lines;
      replay = g.replay;
    }
  where
    by_now : IsNow chain id (node_at c.nodes id) g.node → IsNow chain id (Some (opening_joined (record { chain = c.chain; node = id }))) g.node
    by_now (inl h) = cc
    by_now (inr h) = inl (ap Some (ap (λ n. opening_joined (record { chain = n; node = id })) e ∙ sym h.1))

join_changes : (chain : ℕ) (members : List ℕ) (done rest : List MergedStep) (c : Chain) (r : Record BookEvent) (id : ℕ) (n last : Mastered) (rs : List (Record BookEvent)) → IsReached chain members done (book_line r ∷ rest) c → r.event ≡ books.Join id → node_at c.nodes id ≡ None → n ≡ master_of (after_join c id) → AreFrom 0 r.step.outs → lines_of 0 rest ≡ map book_line rs → Replays book_step n rs last → IsChanged chain (book_line r) rest c (after_join c id)
join_changes chain members done rest c r id n last rs old event new is from ls replay =
    let q : Plain = opening_joined (record { chain = c.chain; node = id }) in
    let here : node_at (c.nodes ++ q ∷ []) id ≡ Some q = pushed_new c.nodes q new in
    record {
      chained = refl;
      master = record { records = rs; last = last; lines = ls; replay = subst (λ m. Replays book_step m rs last) is replay };
      nodes = λ k z. let g = subst (NodeGoes chain k (node_at c.nodes k)) (at_other k (book_line r) rest (λ e. z (sym e))) (old.nodes k z) in elim (same_or_not id k) [
        | inl e ↦ subst (λ j. NodeGoes chain j (node_at (c.nodes ++ q ∷ []) j) (lines_of j rest)) e (rw here (new_node chain id c (lines_of id rest) old.chained new (subst (λ j. NodeGoes chain j (node_at c.nodes j) (lines_of j rest)) (sym e) g)))
        | inr d ↦ rw (pushed_other c.nodes q k d) g
      ];
      keeps = λ k t. (t.0, still_there c.nodes q k t.0 t.1);
      stays = λ k t. (t.0, still_there c.nodes q k t.0 t.1, t.2);
      join = λ k j. subst (IsThere (c.nodes ++ q ∷ [])) (sym (joins_id r.event id k event j)) (q, here);
      stop = λ e. absurd (not_stop r e);
      from = from;
    }

-- ---- each kind of line

no_join_in_removal : (e : BookEvent) (stopped : NodeName) (stop : Receipt) (id : ℕ) → e ≡ books.Remove stopped stop → AtMaster e ≡ AtMaster (books.Join id) → ⊥
no_join_in_removal e stopped stop id h k = cc

no_join_in_tick : (e : BookEvent) (id : ℕ) → e ≡ books.Tick → AtMaster e ≡ AtMaster (books.Join id) → ⊥
no_join_in_tick e id h k = cc

not_running : (c : Chain) (id : ℕ) → IsStopped c.nodes id → is_running (node_at c.nodes id) ≡ false
not_running c id t = rw t.1 t.2

ok_same : (m n : Mastered) (r : Result Mastered Refusal) → r ≡ Ok m → r ≡ Ok n → m ≡ n
ok_same m n r h k = cc

by_event : (event : BookEvent) (chain : ℕ) (members : List ℕ) (lines done rest : List MergedStep) (c : Chain) (r : Record BookEvent) (n last : Mastered) (rs : List (Record BookEvent)) → r.event ≡ event → lines ≡ done ++ book_line r ∷ rest → AreSound members lines → IsReached chain members done (book_line r ∷ rest) c → book_step (master_of c) event ≡ Ok (n, r.step) → lines_of 0 rest ≡ map book_line rs → Replays book_step n rs last → IsNext chain members lines done (book_line r) rest c
by_event (books.Join id) chain members lines done rest c r n last rs is e sound old h ls replay =
    let t = is_reported (master_after_join (master_of c) id) n r.step h in
    let j = joins c id n r.step t.0 t.1 in
    let m : move_progress c (move_among lines 0 (AtMaster r.event)) ≡ Ok (after_join c id, r.step) = rw is j.progress in
    taken chain members lines done rest (book_line r) c (after_join c id) e sound old m (rw is refl)
    (join_changes chain members done rest c r id n last rs old is j.new j.master (reported_from n r.step t.1) ls replay)
by_event (books.Remove stopped stop) chain members lines done rest c r n last rs is e sound old h ls replay =
    let t = is_reported (removed (master_of c) stopped) n r.step h in
    let s : HasStopped done stopped stop = subst (MayFollow members done 0) (ap AtMaster is) (follows members lines done rest (book_line r) e sound) in
    let halted : IsStopped c.nodes stopped.node = subst (IsStopped c.nodes) s.2 (old.stops s.0 (from_contains done s.0 s.1) s.4) in
    let j = removes c stopped n r.step (not_running c stopped.node halted) t.0 t.1 in
    let m : move_progress c (move_among lines 0 (AtMaster r.event)) ≡ Ok (after_removal c stopped.node, r.step) = rw is j.progress in
    taken chain members lines done rest (book_line r) c (after_removal c stopped.node) e sound old m (rw is refl)
    (same_nodes chain members done rest c (after_removal c stopped.node) r n last rs old refl refl j.master (λ id k. no_join_in_removal r.event stopped stop id is k) (reported_from n r.step t.1) ls replay)
by_event books.Tick chain members lines done rest c r n last rs is e sound old h ls replay =
    let t = is_reported (Ok (master_of c)) n r.step h in
    let same : master_of c ≡ n = ok_same (master_of c) n (Ok (master_of c)) refl t.0 in
    let step : r.step ≡ membership_step c.chain c.epoch c.members = t.1 ∙ ap (λ (m : Mastered). membership_step m.chain m.epoch m.members) (sym same) in
    let m : move_progress c (move_among lines 0 (AtMaster r.event)) ≡ Ok (c, r.step) = rw (is, step) refl in
    taken chain members lines done rest (book_line r) c c e sound old m (rw is refl)
    (same_nodes chain members done rest c c r n last rs old refl refl (sym same) (λ id k. no_join_in_tick r.event id is k) (reported_from n r.step t.1) ls replay)

by_records : (chain : ℕ) (members : List ℕ) (lines done rest : List MergedStep) (l : MergedStep) (c : Chain) (last : Mastered) (rs : List (Record BookEvent)) → lines ≡ done ++ l ∷ rest → AreSound members lines → IsReached chain members done (l ∷ rest) c → l ∷ lines_of 0 rest ≡ map book_line rs → Replays book_step (master_of c) rs last → IsNext chain members lines done l rest c
by_records chain members lines done rest l c last [] e sound old ls replay = cc
by_records chain members lines done rest l c last (r ∷ rs) e sound old ls (n, h, replay) =
    let s = first_same l (book_line r) (lines_of 0 rest) (map book_line rs) ls in
    let f : lines ≡ done ++ book_line r ∷ rest = e ∙ ap (λ x. done ++ x ∷ rest) s.0 in
    let o : IsReached chain members done (book_line r ∷ rest) c = subst (λ x. IsReached chain members done (x ∷ rest) c) s.0 old in
    subst (λ x. IsNext chain members lines done x rest c) (sym s.0)
    (by_event r.event chain members lines done rest c r n last rs refl f sound o h s.1 replay)

pub at_master : (chain : ℕ) (members : List ℕ) (lines done rest : List MergedStep) (l : MergedStep) (c : Chain) → lines ≡ done ++ l ∷ rest → AreSound members lines → IsReached chain members done (l ∷ rest) c → l.node ≡ 0 → IsNext chain members lines done l rest c
at_master chain members lines done rest l c e sound r z =
    let g = r.master in
    by_records chain members lines done rest l c g.last g.records e sound r (sym (at_here 0 l rest z) ∙ g.lines) g.replay
