-- The sendings of messages, and the steps of calls, among all lines of journals.
use Rattle.std.proofs.Common.{◌≡◌, ◌<◌, ◌⊎◌, ℕ, zero, suc, ◌+◌, List, [], ◌∷◌, ◌++◌, map, Some, None, option_map, refl, sym, ap, subst, ◌∙◌, arith, inl, inr}
use Rattle.std.specs.Prelude.{slice_get, flat_map, Contains}
use Rattle.std.specs.Borrow.{Bor}
use Rattle.craq_model.specs.declared.ask.Event.{Event}
use Rattle.craq_model.specs.declared.ask.Event.TheVariants as events
use Rattle.craq_model.specs.declared.message.LinkMessage.{LinkMessage}
use Rattle.craq_model.specs.declared.step.Step.{Step}
use Rattle.craq_epochs.specs.Mastered.{Mastered}
use Rattle.craq_runs.specs.Chain.{sent_in}
use Rattle.craq_seat.specs.declared.journal.BookEvent.{BookEvent}
use Rattle.craq_seat.specs.declared.journal.Receipt.{Receipt}
use Rattle.craq_seat.specs.declared.journal.Record.{Record}
use Rattle.craq_seat.specs.Audits.{IsAnswered, IsAsked, IsHeld, WasSent, id_of}
use Rattle.craq_seat.specs.Calls.{Called}
use Rattle.craq_seat.specs.Cells.{Celled}
use Rattle.craq_seat.specs.Merge.{AtMaster, AtNode, Happening, Journals, MergedStep, all_lines, book_line, node_line}
use Rattle.craq_seat.specs.Numbered.{named, numbered_from}
use Rattle.craq_merge.proofs.Journals.{book_in, node_in, of_flat}
use Rattle.craq_causality.proofs.Orders.{IsIn, from_contains, in_either, of_map, to_contains}
use Rattle.craq_audit.specs.Journals.{journals_of, kept_of, records_in}
use Rattle.craq_audit.specs.Lookups.{Found, HasCall, HasSent, HasStop, HaveSent, HaveStop, IsNamed, IsSend, cell_lines, cells_of}

-- ---- a message under its index

named_at : (base index : ℕ) (receipt : Receipt) (ms : List LinkMessage) → slice_get (numbered_from base receipt ms) index ≡ option_map (named receipt (base + index)) (slice_get ms index)
named_at base index receipt [] = refl
named_at base zero receipt (m ∷ ms) = let e : base + 0 ≡ base = omega arith in rw e refl
named_at base (suc index) receipt (m ∷ ms) = let e : base + suc index ≡ (base + 1) + index = omega arith in rw e (named_at (base + 1) index receipt ms)

name_of : LinkMessage → Receipt
name_of m = record { node = m.sender; stamp = m.stamp }

pub send_none : (step : Step) (m : LinkMessage) → slice_get (sent_in step.outs) m.index ≡ None → ¬ IsSend step m
send_none step m e = λ h. let n = named_at 0 m.index (record { node = m.sender; stamp = m.stamp }) (sent_in step.outs) in (let k : None ≡ Some m = sym (ap (option_map (named (record { node = m.sender; stamp = m.stamp }) (0 + m.index))) e) ∙ sym n ∙ h in cc)

pub send_some : (step : Step) (m sent : LinkMessage) → slice_get (sent_in step.outs) m.index ≡ Some sent → IsNamed sent m → IsSend step m
send_some step m sent e h =
    let r : Receipt = record { node = m.sender; stamp = m.stamp } in
    let z : 0 + m.index ≡ m.index = omega arith in
    named_at 0 m.index r (sent_in step.outs) ∙ ap (option_map (named r (0 + m.index))) e ∙ ap (λ i. Some (named r i sent)) z ∙ ap Some h

pub some_send : (step : Step) (m sent : LinkMessage) → slice_get (sent_in step.outs) m.index ≡ Some sent → IsSend step m → IsNamed sent m
some_send step m sent e h =
    let r : Receipt = record { node = m.sender; stamp = m.stamp } in
    let z : 0 + m.index ≡ m.index = omega arith in
    let k : Some (named r m.index sent) ≡ Some m = ap (λ i. Some (named r i sent)) (sym z) ∙ sym (ap (option_map (named r (0 + m.index))) e) ∙ sym (named_at 0 m.index r (sent_in step.outs)) ∙ h in cc

-- ---- the cells that are searched

abbrev Lent : Type 0 → Type 0
Lent C = Bor (Celled C Event)

among_cells : {C : Type 0} (cs : List (Lent C)) (c : Lent C) → IsIn cs c → IsIn (map (λ (x : Celled C Event). kept_of x) (cells_of cs)) (kept_of c.now)
among_cells [] c i = absurd i
among_cells (x ∷ cs) c (inl e) = inl (ap (λ (y : Lent _). kept_of y.now) e)
among_cells (x ∷ cs) c (inr i) = inr (among_cells cs c i)

pub found_in : {C : Type 0} (P : Lent C → Type 0) (cs : List (Lent C)) → Found P cs → (c : Lent C) × IsIn cs c × P c
found_in P [] f = absurd f
found_in P (x ∷ cs) (inl p) = (x, inl refl, p)
found_in P (x ∷ cs) (inr f) = let t = found_in P cs f in (t.0, inr t.1, t.2)

pub found_at : {C : Type 0} (P : Lent C → Type 0) (Q : ℕ × List (Record Event) → Type 0) (cs : List (Lent C)) (n : ℕ × List (Record Event)) → ((c : Lent C) → Q (kept_of c.now) → P c) → IsIn (map (λ (x : Celled C Event). kept_of x) (cells_of cs)) n → Q n → Found P cs
found_at P Q [] n f i q = absurd i
found_at P Q (x ∷ cs) n f (inl e) q = inl (f x (subst Q (sym e) q))
found_at P Q (x ∷ cs) n f (inr i) q = inr (found_at P Q cs n f i q)

-- ---- a message that was sent

abbrev Sent : LinkMessage → ℕ × List (Record Event) → Type 0
Sent m n = (n.0 ≡ m.sender) × HaveSent n.1 m

of_named : (m : LinkMessage) (node stamp : ℕ) (step : Step) → node ≡ m.sender → stamp ≡ m.stamp → slice_get (numbered_from 0 (record { node = node; stamp = stamp }) (sent_in step.outs)) m.index ≡ Some m → IsSend step m
of_named m node stamp step e f h = rw (e, f) at h

to_named : (m : LinkMessage) (node stamp : ℕ) (step : Step) → node ≡ m.sender → stamp ≡ m.stamp → IsSend step m → slice_get (numbered_from 0 (record { node = node; stamp = stamp }) (sent_in step.outs)) m.index ≡ Some m
to_named m node stamp step e f h = rw (e, f) h

pub sent_by_book : {C : Type 0} (book : Celled Mastered BookEvent) (cs : List (Lent C)) (stamp : ℕ) (m : LinkMessage) → m.stamp < stamp → m.sender ≡ 0 → HaveSent (records_in book.journal) m → WasSent (journals_of book (cells_of cs)) stamp m
sent_by_book book cs stamp m less z (r, there, at, send) = (
  less,
  book_line r,
  to_contains (all_lines (journals_of book (cells_of cs))) (book_line r) (book_in (journals_of book (cells_of cs)) r (from_contains (records_in book.journal) r there)),
  sym z,
  at,
  to_named m 0 r.stamp r.step (sym z) at send,
)

pub sent_by_node : {C : Type 0} (book : Celled Mastered BookEvent) (cs : List (Lent C)) (stamp : ℕ) (m : LinkMessage) → m.stamp < stamp → Found (HasSent m) cs → WasSent (journals_of book (cells_of cs)) stamp m
sent_by_node book cs stamp m less f =
    let t = found_in (HasSent m) cs f in
    let c = t.0 in
    let own : id_of c.now ≡ m.sender = t.2.0 in
    let have : HaveSent (records_in c.now.journal) m = t.2.1 in
    let r : Record Event = have.0 in
    let j : Journals = journals_of book (cells_of cs) in (
      less,
      node_line (id_of c.now) r,
      to_contains (all_lines j) (node_line (id_of c.now) r) (node_in j (kept_of c.now) r (among_cells cs c t.1) (from_contains (records_in c.now.journal) r have.1)),
      own,
      have.2,
      to_named m (id_of c.now) r.stamp r.step own have.2 have.3,
    )

-- a line is of the master or of a node
from_book : (rs : List (Record BookEvent)) (l : MergedStep) (m : LinkMessage) → IsIn (map book_line rs) l → l.node ≡ m.sender → l.stamp ≡ m.stamp → slice_get (numbered_from 0 (record { node = l.node; stamp = l.stamp }) (sent_in l.step.outs)) m.index ≡ Some m → (m.sender ≡ 0) × HaveSent rs m
from_book rs l m i e f h =
    let t = of_map book_line rs l i in
    let r : Record BookEvent = t.0 in
    let node : 0 ≡ l.node = ap (λ (x : MergedStep). x.node) t.2 in
    let stamp : r.stamp ≡ l.stamp = ap (λ (x : MergedStep). x.stamp) t.2 in
    let step : r.step ≡ l.step = ap (λ (x : MergedStep). x.step) t.2 in (
      sym (node ∙ e),
      (r, to_contains rs r t.1, stamp ∙ f, subst (λ s. IsSend s m) (sym step) (of_named m l.node l.stamp l.step e f h)),
    )

from_nodes : (ns : List (ℕ × List (Record Event))) (l : MergedStep) (m : LinkMessage) → IsIn (flat_map (λ (n : ℕ × List (Record Event)). map (node_line n.0) n.1) ns) l → l.node ≡ m.sender → l.stamp ≡ m.stamp → slice_get (numbered_from 0 (record { node = l.node; stamp = l.stamp }) (sent_in l.step.outs)) m.index ≡ Some m → (n : ℕ × List (Record Event)) × IsIn ns n × Sent m n
from_nodes ns l m i e f h =
    let s = of_flat (λ (n : ℕ × List (Record Event)). map (node_line n.0) n.1) ns l i in
    let n : ℕ × List (Record Event) = s.0 in
    let t = of_map (node_line n.0) n.1 l s.2 in
    let r : Record Event = t.0 in
    let node : n.0 ≡ l.node = ap (λ (x : MergedStep). x.node) t.2 in
    let stamp : r.stamp ≡ l.stamp = ap (λ (x : MergedStep). x.stamp) t.2 in
    let step : r.step ≡ l.step = ap (λ (x : MergedStep). x.step) t.2 in (
      n,
      s.1,
      (node ∙ e, (r, to_contains n.1 r t.1, stamp ∙ f, subst (λ x. IsSend x m) (sym step) (of_named m l.node l.stamp l.step e f h))),
    )

pub where_sent : {C : Type 0} (book : Celled Mastered BookEvent) (cs : List (Lent C)) (stamp : ℕ) (m : LinkMessage) → WasSent (journals_of book (cells_of cs)) stamp m → ((m.sender ≡ 0) × HaveSent (records_in book.journal) m) ⊎ Found (HasSent m) cs
where_sent book cs stamp m (less, l, there, e, f, h) =
    let j : Journals = journals_of book (cells_of cs) in
    elim (in_either (map book_line j.book) (flat_map (λ (n : ℕ × List (Record Event)). map (node_line n.0) n.1) j.nodes) l (from_contains (all_lines j) l there)) [
      | inl i ↦ inl (from_book j.book l m i e f h)
      | inr i ↦ (let t = from_nodes j.nodes l m i e f h in inr (found_at (HasSent m) (Sent m) cs t.0 (λ c q. q) t.1 t.2))
    ]

-- ---- a stop

abbrev Stopped : Receipt → ℕ × List (Record Event) → Type 0
Stopped stop n = (n.0 ≡ stop.node) × HaveStop n.1 stop.stamp

other_kind : (x : Happening) (e : Event) (b : BookEvent) → AtMaster b ≡ x → x ≡ AtNode e → ⊥
other_kind x e b h k = cc

same_kind : (x : Happening) (a b : Event) → AtNode a ≡ x → x ≡ AtNode b → a ≡ b
same_kind x a b h k = cc

-- a line in which the node of a receipt stopped, under its stamp
abbrev pub IsStopLine : Journals → Receipt → Type 0
IsStopLine j stop = (l : MergedStep) × Contains (all_lines j) l × (l.node ≡ stop.node) × (l.stamp ≡ stop.stamp) × (l.event ≡ AtNode events.Stop)

pub stop_line : {C : Type 0} (book : Celled Mastered BookEvent) (cs : List (Lent C)) (stop : Receipt) → Found (HasStop stop) cs → IsStopLine (journals_of book (cells_of cs)) stop
stop_line book cs stop f =
    let t = found_in (HasStop stop) cs f in
    let c = t.0 in
    let have : HaveStop (records_in c.now.journal) stop.stamp = t.2.1 in
    let r : Record Event = have.0 in
    let j : Journals = journals_of book (cells_of cs) in (
      node_line (id_of c.now) r,
      to_contains (all_lines j) (node_line (id_of c.now) r) (node_in j (kept_of c.now) r (among_cells cs c t.1) (from_contains (records_in c.now.journal) r have.1)),
      t.2.0,
      have.2,
      ap AtNode have.3,
    )

pub where_stopped : {C : Type 0} (book : Celled Mastered BookEvent) (cs : List (Lent C)) (stop : Receipt) → IsStopLine (journals_of book (cells_of cs)) stop → Found (HasStop stop) cs
where_stopped book cs stop (l, there, e, f, h) =
    let j : Journals = journals_of book (cells_of cs) in
    elim (in_either (map book_line j.book) (flat_map (λ (n : ℕ × List (Record Event)). map (node_line n.0) n.1) j.nodes) l (from_contains (all_lines j) l there)) [
      | inl i ↦ (let t = of_map book_line j.book l i in absurd (other_kind l.event events.Stop t.0.event (ap (λ (x : MergedStep). x.event) t.2) h))
      | inr i ↦ (
          let s = of_flat (λ (n : ℕ × List (Record Event)). map (node_line n.0) n.1) j.nodes l i in
          let n : ℕ × List (Record Event) = s.0 in
          let t = of_map (node_line n.0) n.1 l s.2 in
          let r : Record Event = t.0 in
          let node : n.0 ≡ l.node = ap (λ (x : MergedStep). x.node) t.2 in
          let stamp : r.stamp ≡ l.stamp = ap (λ (x : MergedStep). x.stamp) t.2 in
          let event : AtNode r.event ≡ l.event = ap (λ (x : MergedStep). x.event) t.2 in
          found_at (HasStop stop) (Stopped stop) cs n (λ c q. q) s.1 (node ∙ e, (r, to_contains n.1 r t.1, stamp ∙ f, same_kind l.event r.event events.Stop event h))
          )
    ]

-- ---- a call

abbrev HasBoth : Called → ℕ × List (Record Event) → Type 0
HasBoth call n = (n.0 ≡ call.call.asked.node) × IsAsked n.1 call.call × IsAnswered n.1 call.answered.stamp call.call.ticket call.answer

pair_at : (n : ℕ × List (Record Event)) (node : ℕ) → n.0 ≡ node → n ≡ (node, n.1)
pair_at n node e = rw (← e) refl

pub held : {C : Type 0} (book : Celled Mastered BookEvent) (cs : List (Lent C)) (call : Called) → call.answered.node ≡ call.call.asked.node → Found (HasCall call) cs → IsHeld (journals_of book (cells_of cs)) call
held book cs call same f =
    let t = found_in (HasCall call) cs f in
    let c = t.0 in
    let j : Journals = journals_of book (cells_of cs) in
    let i : IsIn j.nodes (kept_of c.now) = among_cells cs c t.1 in (
      same,
      records_in c.now.journal,
      to_contains j.nodes (call.call.asked.node, records_in c.now.journal) (subst (IsIn j.nodes) (pair_at (kept_of c.now) call.call.asked.node t.2.0) i),
      t.2.1,
      t.2.2,
    )

pub where_held : {C : Type 0} (book : Celled Mastered BookEvent) (cs : List (Lent C)) (call : Called) → IsHeld (journals_of book (cells_of cs)) call → (call.answered.node ≡ call.call.asked.node) × Found (HasCall call) cs
where_held book cs call (same, rs, there, asked, answered) =
    let j : Journals = journals_of book (cells_of cs) in
    (same, found_at (HasCall call) (HasBoth call) cs (call.call.asked.node, rs) (λ c q. q) (from_contains j.nodes (call.call.asked.node, rs) there) (refl, asked, answered))

-- ---- all lines

pub node_lines : {C : Type 0} (cs : List (Lent C)) → cell_lines cs ≡ flat_map (λ (n : ℕ × List (Record Event)). map (node_line n.0) n.1) (map (λ (x : Celled C Event). kept_of x) (cells_of cs))
node_lines [] = refl
node_lines (c ∷ cs) = ap (λ ls. map (node_line (id_of c.now)) (records_in c.now.journal) ++ ls) (node_lines cs)
