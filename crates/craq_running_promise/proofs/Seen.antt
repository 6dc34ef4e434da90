-- A call that stands in the lines of a chain is a request and its reply in their run, as clients see it.
use Rattle.std.proofs.Common.{◌≡◌, ◌<◌, ◌≤◌, ℕ, zero, suc, ◌+◌, ◌==◌, ◌&&◌, Bool, true, List, [], ◌∷◌, map, length, Option, Some, None, refl, sym, ap, subst, arith, ◌∙◌, inl, inr}
use Rattle.std.specs.Prelude.{Contains, slice_get}
use Rattle.std.proofs.lemmas.Option.{slice_get_within}
use Rattle.craq_names.specs.declared.name.NodeName.{NodeName}
use Rattle.craq_model.specs.declared.ask.Answer.{Answer}
use Rattle.craq_model.specs.declared.ask.Ask.{Ask}
use Rattle.craq_model.specs.declared.ask.Event.{Event}
use Rattle.craq_model.specs.declared.ask.Event.TheVariants as events
use Rattle.craq_model.specs.declared.step.Out.TheVariants as outs
use Rattle.craq_model.specs.Plain.{Plain}
use Rattle.craq_runs.specs.declared.run.Taken.{Taken}
use Rattle.craq_runs.specs.Chain.{opening_chain}
use Rattle.craq_runs.specs.Seen.{Asked, Answered, ask_with, answers_from, asks_from, is_ticket}
use Rattle.craq_runs.specs.Typed.{IsTypedRunOf}
use Rattle.craq_seat.specs.declared.journal.BookEvent.{BookEvent}
use Rattle.craq_seat.specs.declared.journal.Record.{Record}
use Rattle.craq_seat.specs.Calls.{Called}
use Rattle.craq_seat.specs.Merge.{AtMaster, AtNode, Happening, MergedStep, book_line, node_line}
use Rattle.craq_causality.specs.Authors.{IsNodeAfter, first_of, lines_of}
use Rattle.craq_causality.specs.Causal.{AreCausal, AreFew, AreTyped}
use Rattle.craq_causality.proofs.Nodes.{same_or_not}
use Rattle.craq_causality.proofs.Orders.{AreApart, IsApart, IsIn, all_in, from_contains, in_get, of_map, to_at, to_contains}
use Rattle.craq_causality.proofs.Reached.{AreSound}
use Rattle.craq_causality.proofs.Start.{is_typed_run, sound, start}
use Rattle.craq_causality.proofs.Walk.{taken_among}
use Rattle.craq_merge.proofs.Named.{IsAskOf, IsFound, ask_of_line, finds, one_ticket}
use Rattle.craq_merge.proofs.Seen.{answered_at, asked_at}
use Rattle.craq_store_history.specs.declared.entry.HistoryEntry.{HistoryEntry}
use Rattle.craq_store_history.specs.Chains.{ChainHolds, IsHistory}
use Rattle.craq_store_history.specs.Entries.{lines_in, members_in}
use Rattle.craq_running_promise.specs.Standing.{IsCallInRun, IsCallInHistory, run_in}
use Rattle.craq_running_promise.proofs.Orders.{among_first, cut}
use Rattle.craq_merge.proofs.Calls.{answered_of, same_answered}
use Rattle.craq_merge.proofs.Named.{named_so}
use Rattle.craq_merge.proofs.Positions.{as_many}

-- ---- places of lines

-- a line occurs once
not_twice : (l a : MergedStep) (ls : List MergedStep) (k : ℕ) → AreApart (l ∷ ls) → l ≡ a → slice_get ls k ≡ Some a → ⊥
not_twice l a ls k s e g =
    let below : l.stamp < a.stamp = all_in (IsApart l) ls a s.0 (in_get ls k a g) (ap (λ (y : MergedStep). y.node) e) in
    let same : l.stamp ≡ a.stamp = ap (λ (y : MergedStep). y.stamp) e in
    omega (arith, below, same)

one_place : (lines : List MergedStep) (i k : ℕ) (a : MergedStep) → AreApart lines → slice_get lines i ≡ Some a → slice_get lines k ≡ Some a → i ≡ k
one_place [] i k a s h g = cc
one_place (l ∷ ls) zero zero a s h g = refl
one_place (l ∷ ls) zero (suc k) a s h g = let e : l ≡ a = cc in absurd (not_twice l a ls k s e g)
one_place (l ∷ ls) (suc i) zero a s h g = let e : l ≡ a = cc in absurd (not_twice l a ls i s e h)
one_place (l ∷ ls) (suc i) (suc k) a s h g = ap suc (one_place ls i k a s.1 h g)

-- ---- a ticket is one line's

same_line : (chain : ℕ) (members : List ℕ) (id : ℕ) (lines : List MergedStep) (last : Plain) (stamp ticket : ℕ) (l m : MergedStep) → IsNodeAfter chain members id lines last stamp
    → IsIn lines l → IsIn lines m → l.node ≡ id → m.node ≡ id → l.step.ticket ≡ Some ticket → m.step.ticket ≡ Some ticket → l ≡ m
same_line chain members id lines last stamp ticket l m n i k a b s t =
    let u = of_map (node_line id) n.records l (subst (λ (ls : List MergedStep). IsIn ls l) n.are (to_at id lines l i a)) in
    let v = of_map (node_line id) n.records m (subst (λ (ls : List MergedStep). IsIn ls m) n.are (to_at id lines m k b)) in
    let same : u.0 ≡ v.0 = one_ticket (first_of chain members id) last n.records u.0 v.0 ticket n.replay u.1 v.1 (ap (λ (y : MergedStep). y.step.ticket) u.2 ∙ s) (ap (λ (y : MergedStep). y.step.ticket) v.2 ∙ t) in
    sym u.2 ∙ (ap (node_line id) same ∙ v.2)

two_events : (h : Happening) (b : BookEvent) (e : Event) → AtMaster b ≡ h → h ≡ AtNode e → ⊥
two_events h b e s t = cc

-- a line with an event at a node is not the master's
no_master : (lines : List MergedStep) (rs : List (Record BookEvent)) (l : MergedStep) (e : Event) → lines_of 0 lines ≡ map book_line rs → IsIn lines l → l.node ≡ 0 → l.event ≡ AtNode e → ⊥
no_master lines rs l e are i z at =
    let u = of_map book_line rs l (subst (λ (ls : List MergedStep). IsIn ls l) are (to_at 0 lines l i z)) in
    two_events l.event u.0.event e (ap (λ (y : MergedStep). y.event) u.2) at

one_line : (chain : ℕ) (members : List ℕ) (id : ℕ) (lines : List MergedStep) (ticket : ℕ) (l m : MergedStep) (e : Event) → AreCausal chain members lines → l.event ≡ AtNode e
    → IsIn lines l → IsIn lines m → l.node ≡ id → m.node ≡ id → l.step.ticket ≡ Some ticket → m.step.ticket ≡ Some ticket → l ≡ m
one_line chain members id lines ticket l m e causal at i k a b s t =
    elim (same_or_not id 0) [
      | inl z ↦ absurd (no_master lines causal.master.2.records l e causal.master.2.are i (a ∙ z) at)
      | inr z ↦ same_line chain members id lines (causal.nodes id z).0 (causal.nodes id z).1 ticket l m (causal.nodes id z).2 i k a b s t
    ]

-- ---- requests

abbrev asked_of : ℕ → ℕ → ℕ → Ask → Asked
asked_of move node ticket ask = record { move = move; node = node; ticket = Some ticket; ask = ask }

abbrev asked_as : ℕ → ℕ → Option ℕ → Ask → Asked
asked_as move node ticket ask = record { move = move; node = node; ticket = ticket; ask = ask }

same_asked : (a b m n : ℕ) (s t : Option ℕ) (x y : Ask) → a ≡ b → m ≡ n → s ≡ t → x ≡ y → asked_as a m s x ≡ asked_as b n t y
same_asked a b m n s t x y e f g h = rw (e, f, g, h) refl

same_ask : (h : Happening) (a b : Ask) → h ≡ AtNode (events.Ask a) → h ≡ AtNode (events.Ask b) → a ≡ b
same_ask h a b s t = cc

module _ (chain : ℕ) (members : List ℕ) (lines : List MergedStep) (id ticket place : ℕ) (line : MergedStep) (ask : Ask) (causal : AreCausal chain members lines) (apart : AreApart lines)
    (at : slice_get lines place ≡ Some line) (node : line.node ≡ id) (event : line.event ≡ AtNode (events.Ask ask)) (under : line.step.ticket ≡ Some ticket) where
  -- a request that is seen with this node and ticket is that of the line
  is_its : (x : Asked) → IsAskOf lines 1 x → x.node ≡ id → x.ticket ≡ Some ticket → x ≡ asked_of (suc place) id ticket ask
  is_its x t of with =
      let of_node : t.line.node ≡ id = ap (λ (y : Asked). y.node) (sym t.is) ∙ of in
      let of_ticket : t.line.step.ticket ≡ Some ticket = ap (λ (y : Asked). y.ticket) (sym t.is) ∙ with in
      let same : line ≡ t.line = one_line chain members id lines ticket line t.line (events.Ask ask) causal event (in_get lines place line at) (in_get lines t.place t.line t.at) node of_node under of_ticket in
      let places : t.place ≡ place = one_place lines t.place place line apart (t.at ∙ ap Some (sym same)) at in
      let asks : t.ask ≡ ask = same_ask line.event t.ask ask (ap (λ (y : MergedStep). y.event) same ∙ t.event) event in
      let move : 1 + t.place ≡ suc place = omega (arith, places) in
      t.is ∙ same_asked (1 + t.place) (suc place) t.line.node id t.line.step.ticket (Some ticket) t.ask ask move of_node of_ticket asks

  -- no other request has this node and ticket
  pub ask_only : (x : Asked) → Contains (asks_from 1 (map (taken_among lines) lines)) x → x.node ≡ id → x.ticket ≡ Some ticket → x.move ≡ suc place
  ask_only x there of with =
      ap (λ (y : Asked). y.move) (is_its x (ask_of_line lines lines 1 x (from_contains (asks_from 1 (map (taken_among lines) lines)) x there)) of with)

  pub ask_is : ask_with (asks_from 1 (map (taken_among lines) lines)) id ticket ≡ Some (asked_of (suc place) id ticket ask)
  unfolding ask_with
  ask_is =
      let asks : List Asked = asks_from 1 (map (taken_among lines) lines) in
      let test : Asked → Bool = λ a. (a.node == id) && is_ticket a.ticket ticket in
      let one : 1 + place ≡ suc place = omega arith in
      let mine : IsIn asks (asked_of (suc place) id ticket ask) =
      subst (IsIn asks) (same_asked (1 + place) (suc place) line.node id line.step.ticket (Some ticket) ask ask one node under refl) (asked_at lines lines 1 place line ask at event) in
      let passes : ((id == id) && (ticket == ticket)) ≡ true = grind arith in
      let f : IsFound test asks = finds test asks (asked_of (suc place) id ticket ask) mine passes in
      let so = named_so f.which id ticket f.passes in
      f.found ∙ ap Some (is_its f.which (ask_of_line lines lines 1 f.which f.there) so.0 so.1)

-- ---- replies

pub answer_is : (chain : ℕ) (members : List ℕ) (lines : List MergedStep) (id ticket place : ℕ) (line : MergedStep) (answer : Answer) → AreCausal chain members lines → AreSound members lines → slice_get lines place ≡ Some line → line.node ≡ id
    → Contains line.step.outs (outs.Answer ticket answer) → Contains (answers_from 1 [] (map (taken_among lines) lines)) (answered_of (suc place) id ticket answer)
answer_is chain members lines id ticket place line answer causal s at node out =
    let a = answered_at chain members lines [] lines (opening_chain chain members) 1 place line ticket answer refl s (start chain members lines causal) at (from_contains line.step.outs (outs.Answer ticket answer) out) in
    let one : 1 + place ≡ suc place = omega arith in
    to_contains (answers_from 1 [] (map (taken_among lines) lines)) (answered_of (suc place) id ticket answer)
    (subst (IsIn (answers_from 1 [] (map (taken_among lines) lines))) (same_answered (1 + place) (suc place) line.node id ticket answer one node) a)

-- ---- the call

causal_in : (chain : ℕ) (o : Option (List ℕ)) (members : List ℕ) (lines : List MergedStep) → o ≡ Some members → ChainHolds chain o lines → AreCausal chain members lines × AreTyped lines
causal_in chain o members lines e h = subst (λ (p : Option (List ℕ)). ChainHolds chain p lines) e h

-- the lines of an opened chain are in causal order
pub are_causal : (log : List HistoryEntry) (chain : ℕ) (members : List ℕ) → IsHistory log → members_in chain log ≡ Some members → AreCausal chain members (lines_in chain log) × AreTyped (lines_in chain log)
are_causal log chain members h opened = causal_in chain (members_in chain log) members (lines_in chain log) opened (h.chains chain)

-- the reply is no earlier than the request
in_order : (chain : ℕ) (members : List ℕ) (moves : List Taken) (asked : Asked) (x : Answered) (at : ℕ) → x.move ≡ at → at ≤ length moves → IsTypedRunOf chain (record { members = members; moves = moves })
    → ask_with (asks_from 1 moves) x.node x.ticket ≡ Some asked → IsIn (answers_from 1 [] moves) x → asked.move ≤ at
in_order chain members moves asked x at move within typed is there =
    let c = cut moves at within in
    let long = c.long in
    let le = among_first chain members c.first c.rest asked x (subst (λ (l : List Taken). IsTypedRunOf chain (record { members = members; moves = l })) c.is typed)
    (subst (λ (l : List Taken). ask_with (asks_from 1 l) x.node x.ticket ≡ Some asked) c.is is) (subst (λ (l : List Taken). IsIn (answers_from 1 [] l) x) c.is there) (omega (arith, move, long)) in
    omega (arith, le, long)

pub is_call : (old new log : List HistoryEntry) (node : NodeName) (ask : Ask) (receipt : Called) (s : IsCallInHistory old new node ask receipt log) → IsHistory log → AreFew (lines_in node.chain log)
    → IsCallInRun node ask receipt (suc s.asked_place) (suc s.answered_place) (run_in node.chain s.members log)
is_call old new log node ask receipt s h few =
    let lines : List MergedStep = lines_in node.chain log in
    let moves : List Taken = map (taken_among lines) lines in
    let of_chain = are_causal log node.chain s.members h s.opened in
    let are : AreSound s.members lines = sound node.chain s.members lines of_chain.0 few in
    let asked = ask_is node.chain s.members lines node.node receipt.call.ticket s.asked_place s.asked ask of_chain.0 are.apart s.asked_at s.asked_node s.event s.ticket in
    let answered = answer_is node.chain s.members lines node.node receipt.call.ticket s.answered_place s.answered receipt.answer of_chain.0 are s.answered_at s.answered_node s.out in
    let place = slice_get_within lines s.answered_place s.answered s.answered_at in
    let x : Answered = answered_of (suc s.answered_place) node.node receipt.call.ticket receipt.answer in
    record {
      is_ask = asked;
      only = ask_only node.chain s.members lines node.node receipt.call.ticket s.asked_place s.asked ask of_chain.0 are.apart s.asked_at s.asked_node s.event s.ticket;
      is_answer = answered;
      in_order = in_order node.chain s.members moves (asked_of (suc s.asked_place) node.node receipt.call.ticket ask) x (suc s.answered_place) refl (omega (arith, place, as_many lines lines))
          (is_typed_run node.chain s.members lines of_chain.0 of_chain.1 few) asked (from_contains (answers_from 1 [] moves) x answered);
    }
