-- The calls of clients in a merge.
use Rattle.std.proofs.Common.{◌≡◌, ◌<◌, ◌≤◌, ℕ, zero, suc, ◌+◌, List, [], map, Option, Some, refl, sym, ap, subst, arith, inl, inr}
use Rattle.std.specs.Prelude.{slice_get, Contains}
use Rattle.craq_model.specs.declared.ask.Answer.{Answer}
use Rattle.craq_model.specs.declared.ask.Ask.{Ask}
use Rattle.craq_model.specs.declared.ask.Event.{Event}
use Rattle.craq_model.specs.declared.ask.Event.TheVariants as events
use Rattle.craq_model.specs.declared.step.Out.TheVariants as outs
use Rattle.craq_model.specs.Plain.{Plain}
use Rattle.craq_epochs.specs.Mastered.{Mastered}
use Rattle.craq_runs.specs.declared.run.Run.{Run}
use Rattle.craq_runs.specs.Chain.{opening_chain}
use Rattle.craq_runs.specs.Seen.{Asked, Answered, ask_with, asks_from, answers_from, seen}
use Rattle.craq_seat.specs.declared.calls.Call.{Call}
use Rattle.craq_seat.specs.declared.journal.BookEvent.{BookEvent}
use Rattle.craq_seat.specs.declared.journal.Record.{Record}
use Rattle.craq_seat.specs.Audits.{IsAnswered, IsAsked, IsHeld}
use Rattle.craq_seat.specs.Calls.{Called}
use Rattle.craq_seat.specs.Cells.{Celled}
use Rattle.craq_seat.specs.Merge.{AtNode, IsBefore, IsMerge, Journals, MergedStep, node_line, run_of}
use Rattle.craq_seat.specs.Stamps.{event_stamp}
use Rattle.craq_causality.proofs.Orders.{IsIn, from_contains, to_contains}
use Rattle.craq_causality.proofs.Reached.{AreSound}
use Rattle.craq_causality.proofs.Start.{sound, start}
use Rattle.craq_causality.proofs.Walk.{taken_among}
use Rattle.craq_merge.specs.Merged.{AreSeated, CanBeNumbered}
use Rattle.craq_merge.specs.Within.{run_answer_of_call, IsWithin, line_at}
use Rattle.craq_merge.proofs.Causal.{causal, node_journal}
use Rattle.craq_merge.proofs.Good.{AreGood, records_above_pass}
use Rattle.craq_merge.proofs.Journals.{Kept, is_line, node_in}
use Rattle.craq_merge.proofs.Orders.{AreRising, rising}
use Rattle.craq_merge.proofs.Seated.{good, seated_causal}
use Rattle.craq_merge.proofs.Seen.{answered_at, asked_at, before_by_stamp, later_line, place_of}
use Rattle.craq_merge.proofs.Named.{ask_named}

-- ---- the lines of a call

pub record HasPlace (lines : List MergedStep) (id : ℕ) (r : Record Event) : Type 0 where
  pub place : ℕ
  pub at : slice_get lines place ≡ Some (node_line id r)

has_place : (j : Journals) (lines : List MergedStep) (n : Kept) (r : Record Event) → IsMerge j lines → IsIn j.nodes n → IsIn n.1 r → HasPlace lines n.0 r
has_place j lines n r m i k =
    let t = place_of lines (node_line n.0 r) (is_line j lines (node_line n.0 r) m (node_in j n r i k)) in
    record { place = t.0; at = t.1 }

one_more : (k : ℕ) → 1 + k ≡ suc k
one_more k = omega arith

-- the request
abbrev asked_of : ℕ → ℕ → Option ℕ → Ask → Asked
asked_of move node ticket ask = record { move = move; node = node; ticket = ticket; ask = ask }

same_asked : (a b m n : ℕ) (s t : Option ℕ) (ask : Ask) → a ≡ b → m ≡ n → s ≡ t → asked_of a m s ask ≡ asked_of b n t ask
same_asked a b m n s t ask e f g = rw (e, f, g) refl

ask_seen : (chain : ℕ) (j : Journals) (lines : List MergedStep) (g : AreGood chain j) → IsMerge j lines → (rs : List (Record Event)) (r : Record Event) (call : Call) → IsIn j.nodes (call.asked.node, rs) → IsIn rs r → (p : HasPlace lines call.asked.node r) → r.event ≡ events.Ask call.ask → r.step.ticket ≡ Some call.ticket → ask_with (seen (run_of j.members lines)).asks call.asked.node call.ticket ≡ Some (asked_of (suc p.place) call.asked.node (Some call.ticket) call.ask)
ask_seen chain j lines g m rs r call among there p event ticket =
    let id : ℕ = call.asked.node in
    let a = asked_at lines lines 1 p.place (node_line id r) call.ask p.at (ap AtNode event) in
    let o = g.nodes (id, rs) among in
    ask_named lines o.first o.last id p.place call.ticket rs r call.ask (rising lines m.order) (node_journal chain j lines g m (id, rs) among) o.replay there p.at event ticket
    (subst (IsIn (asks_from 1 (map (taken_among lines) lines))) (same_asked (1 + p.place) (suc p.place) id id r.step.ticket (Some call.ticket) call.ask (one_more p.place) refl ticket) a)

-- the reply
abbrev pub answered_of : ℕ → ℕ → ℕ → Answer → Answered
answered_of move node ticket answer = record { move = move; node = node; ticket = ticket; answer = answer }

pub same_answered : (a b m n ticket : ℕ) (answer : Answer) → a ≡ b → m ≡ n → answered_of a m ticket answer ≡ answered_of b n ticket answer
same_answered a b m n ticket answer e f = rw (e, f) refl

answer_seen : (chain : ℕ) (j : Journals) (lines : List MergedStep) (id : ℕ) (r : Record Event) (c : Called) (p : HasPlace lines id r) (g : AreGood chain j) → IsMerge j lines → AreSound j.members lines → id ≡ c.call.asked.node → IsIn r.step.outs (outs.Answer c.call.ticket c.answer) → Contains (seen (run_of j.members lines)).answers (run_answer_of_call c (suc p.place))
answer_seen chain j lines id r c p g m s own i =
    let a = answered_at chain j.members lines [] lines (opening_chain chain j.members) 1 p.place (node_line id r) c.call.ticket c.answer refl s (start chain j.members lines (causal chain j lines g m)) p.at i in
    to_contains (answers_from 1 [] (map (taken_among lines) lines)) (run_answer_of_call c (suc p.place))
    (subst (IsIn (answers_from 1 [] (map (taken_among lines) lines))) (same_answered (1 + p.place) (suc p.place) id c.call.asked.node c.call.ticket c.answer (one_more p.place) own) a)

-- ---- their order

not_before : (a b : MergedStep) → a.node ≡ b.node → a.stamp ≤ b.stamp → IsBefore b a → ⊥
not_before a b n s (inl h) = omega (arith, s, h)
not_before a b n s (inr h) = let x = h.1 in omega (arith, n, x)

in_order : (lines : List MergedStep) (i k : ℕ) (a b : MergedStep) → AreRising lines → slice_get lines i ≡ Some a → slice_get lines k ≡ Some b → a.node ≡ b.node → a.stamp ≤ b.stamp → i ≤ k
in_order lines i k a b r h g n s = grind (arith, not_after)
  where
    not_after : k < i → ⊥
    not_after lt = not_before a b n s (later_line lines k i b a r g h lt)

covered_by : (lines : List MergedStep) (k move pass : ℕ) (a l : MergedStep) → AreRising lines → slice_get lines k ≡ Some a → pass < a.stamp → line_at lines move ≡ Some l → l.stamp ≤ pass → move < suc k
covered_by lines k zero pass a l r h less at le = cc
covered_by lines k (suc i) pass a l r h less at le = let t = before_by_stamp lines i k l a r at h (omega (arith, less, le)) in omega (arith, t)

-- ---- the whole

within : (chain : ℕ) (j : Journals) (lines : List MergedStep) (g : AreGood chain j) → IsMerge j lines → AreSound j.members lines → (c : Called) (rs : List (Record Event)) → c.answered.node ≡ c.call.asked.node → IsIn j.nodes (c.call.asked.node, rs) → IsAsked rs c.call → IsAnswered rs c.answered.stamp c.call.ticket c.answer → IsWithin lines (run_of j.members lines) c
within chain j lines g m s c rs own among (r, there, stamp, event, pass, ticket) (a, there_too, stamp_too, answer) =
    let id : ℕ = c.call.asked.node in
    let n : Kept = (id, rs) in
    let p = has_place j lines n r m among (from_contains rs r there) in
    let q = has_place j lines n a m among (from_contains rs a there_too) in
    let opening = g.nodes n among in
    let over : r.pass < r.stamp = records_above_pass event_stamp opening.low opening.high rs r opening.stamped (from_contains rs r there) in
    record {
      asked = suc p.place;
      answered = suc q.place;
      is_ask = ask_seen chain j lines g m rs r c.call among (from_contains rs r there) p event ticket;
      is_answer = answer_seen chain j lines id a c q g m s refl (from_contains a.step.outs (outs.Answer c.call.ticket c.answer) answer);
      asked_as = (node_line id r, p.at, refl, stamp);
      answered_as = (node_line id a, q.at, sym own, stamp_too);
      in_order = λ le. let t = in_order lines p.place q.place (node_line id r) (node_line id a) (rising lines m.order) p.at q.at refl (omega (arith, le, stamp, stamp_too)) in omega (arith, t);
      covered = λ move l at le. covered_by lines p.place move c.call.pass (node_line id r) l (rising lines m.order) p.at (omega (arith, over, pass)) at le;
    }

by_parts : (chain : ℕ) (j : Journals) (lines : List MergedStep) (g : AreGood chain j) → IsMerge j lines → AreSound j.members lines → (c : Called) → IsHeld j c → IsWithin lines (run_of j.members lines) c
by_parts chain j lines g m s c (own, rs, among, asked, answered) = within chain j lines g m s c rs own (from_contains j.nodes (c.call.asked.node, rs) among) asked answered

pub calls_within : {C : Type 0} (R : C → Plain → Type 0) (book : Celled Mastered BookEvent) (cells : List (Celled C Event)) (j : Journals) (lines : List MergedStep) (c : Called) → AreSeated R book cells j → IsMerge j lines → CanBeNumbered lines → IsHeld j c → IsWithin lines (run_of j.members lines) c
calls_within R book cells j lines c seated m fit held =
    by_parts book.opening.name.chain j lines (good R book cells j seated) m
    (sound book.opening.name.chain j.members lines (seated_causal R book cells j lines seated m) fit) c held

pub passes_order : (lines : List MergedStep) (run : Run) (earlier later : Called) (first : IsWithin lines run earlier) (second : IsWithin lines run later) → earlier.answered.stamp ≤ later.call.pass → first.answered < second.asked
passes_order lines run earlier later first second le =
    let t = first.answered_as in
    let at : t.0.stamp ≡ earlier.answered.stamp = t.3 in
    second.covered first.answered t.0 t.1 (omega (arith, at, le))
