-- A line of a node is a move of the chain.
use Rattle.std.proofs.Common.{◌≡◌, ◌≢◌, ◌<◌, ◌≤◌, ℕ, zero, suc, ◌+◌, ◌==◌, Bool, true, false, List, [], ◌∷◌, ◌++◌, map, length, Option, Some, Ok, refl, sym, ap, subst, arith, ◌∙◌, inl, inr}
use Rattle.std.specs.Prelude.{slice_get, slice_index}
use Rattle.craq_names.specs.Limits.{greatest}
use Rattle.craq_model.specs.declared.ask.Event.{Event}
use Rattle.craq_model.specs.declared.ask.Event.TheVariants as events
use Rattle.craq_model.specs.declared.message.LinkMessage.{LinkMessage}
use Rattle.craq_model.specs.declared.step.Step.{Step}
use Rattle.craq_model.specs.Node.{node_step}
use Rattle.craq_model.specs.Plain.{Plain, id_of}
use Rattle.craq_runs.specs.Chain.{Chain, chain_step, message_at, move_progress, node_at, set_node, sent_in}
use Rattle.craq_runs.specs.Seen.{node_of, receiver_of}
use Rattle.craq_chain.specs.Parts.{master_of}
use Rattle.craq_laws.proofs.Kept.{name_kept}
use Rattle.craq_laws.proofs.Nodes.{node_here, node_elsewhere, node_id, ids_stay}
use Rattle.craq_seat.specs.declared.journal.Receipt.{Receipt}
use Rattle.craq_seat.specs.declared.journal.Record.{Record}
use Rattle.craq_seat.specs.Journal.{Replays}
use Rattle.craq_seat.specs.Merge.{AtNode, MergedStep, move_among, node_line, number_among}
use Rattle.craq_causality.proofs.Arrivals.{named_from, unnamed}
use Rattle.craq_causality.proofs.Nodes.{halts, is_receiver, runs, same_or_not, takes, counted}
use Rattle.craq_causality.proofs.Numbers.{all_sent, number_names}
use Rattle.craq_causality.proofs.Orders.{AreApart, IsIn, at_here, at_other, from_contains, in_get}
use Rattle.craq_causality.specs.Authors.{lines_of}
use Rattle.craq_causality.specs.Causal.{HasJoined, MayFollow, WasSent}
use Rattle.craq_causality.proofs.Reached.{AreSound, IsChanged, IsJoinOf, IsNow, IsReached, IsThere, MasterGoes, NodeGoes, follows, messages_left, moves_left, reached_more}
use Rattle.craq_seat.specs.Numbered.{AreFrom}
use Rattle.craq_seat.proofs.Senders.{sends_from}
use Rattle.craq_causality.proofs.Senders.{message_from}

-- ---- the move

-- the receivers of messages
abbrev pub receivers_of : List LinkMessage → List ℕ
receivers_of ms = map (λ (m : LinkMessage). m.receiver) ms

-- a message that was sent has the effect of the delivered one
abbrev pub StandsAt : Chain → List MergedStep → Plain → LinkMessage → Type 0
StandsAt c lines p m =
    (n : LinkMessage) × (message_at c.messages (number_among lines m) ≡ Some n) × (node_step p (events.Deliver n) ≡ node_step p (events.Deliver m))

moves : (lines : List MergedStep) (c : Chain) (id : ℕ) (p q : Plain) (e : Event) (step : Step) → id ≢ 0 → node_at c.nodes id ≡ Some p → node_step p e ≡ Ok (q, step) → ((m : LinkMessage) → e ≡ events.Deliver m → StandsAt c lines p m) → move_progress c (move_among lines id (AtNode e)) ≡ Ok (record c { nodes = set_node c.nodes q }, step)
moves lines c id p q (events.Ask ask) step z at h f = rw (at, h) refl
moves lines c id p q (events.Deliver m) step z at h f =
    let s = f m refl in
    let t : node_step p (events.Deliver s.0) ≡ Ok (q, step) = s.2 ∙ h in
    let to : s.0.receiver ≡ id = is_receiver p q s.0 step t ∙ node_id c.nodes id p at in
    let found : node_at c.nodes s.0.receiver ≡ Some p = ap (node_at c.nodes) to ∙ at in
    rw (s.1, found, t) refl
moves lines c id p q events.Tick step z at h f =
    let other : (id == 0) ≡ false = grind (arith, z) in
    rw (other, at, h) refl
moves lines c id p q events.Stop step z at h f = rw (at, h) refl

-- the message of a number goes to the receiver of that number
index_of : {X : Type 0} (f : X → ℕ) (xs : List X) (i : ℕ) (x : X) → slice_get xs i ≡ Some x → slice_index (map f xs) i ≡ f x
index_of f [] i x h = cc
index_of f (y ∷ xs) zero x h = let e : y ≡ x = cc in ap f e
index_of f (y ∷ xs) (suc i) x h = index_of f xs i x h

receiver_at : (ms : List LinkMessage) (number : ℕ) (n : LinkMessage) → message_at ms number ≡ Some n → receiver_of (receivers_of ms) number ≡ n.receiver
receiver_at ms zero n h = cc
receiver_at ms (suc i) n h = index_of (λ (m : LinkMessage). m.receiver) ms i n h

-- the move happens at the node
places : (lines : List MergedStep) (c : Chain) (id : ℕ) (p q : Plain) (e : Event) (step : Step) → node_at c.nodes id ≡ Some p → node_step p e ≡ Ok (q, step) → ((m : LinkMessage) → e ≡ events.Deliver m → StandsAt c lines p m) → node_of (receivers_of c.messages) (move_among lines id (AtNode e)) ≡ id
places lines c id p q (events.Ask ask) step at h f = refl
places lines c id p q (events.Deliver m) step at h f =
    let s = f m refl in
    receiver_at c.messages (number_among lines m) s.0 s.1 ∙ is_receiver p q s.0 step (s.2 ∙ h) ∙ node_id c.nodes id p at
places lines c id p q events.Tick step at h f = refl
places lines c id p q events.Stop step at h f = refl

-- a delivered message was sent
sent_before : (chain : ℕ) (members : List ℕ) (lines done rest : List MergedStep) (l : MergedStep) (c : Chain) (p : Plain) (m : LinkMessage) → lines ≡ done ++ l ∷ rest → AreApart lines → IsReached chain members done (l ∷ rest) c → WasSent done m → StandsAt c lines p m
sent_before chain members lines done rest l c p m e apart r s =
    let there : IsIn done s.line = from_contains done s.line s.there in
    let receipt : Receipt = record { node = s.line.node; stamp = s.line.stamp } in
    let t = named_from m.index receipt (sent_in s.line.step.outs) m s.message in
    let n : LinkMessage = t.0 in
    let from : n.sender ≡ s.line.node = message_from s.line.node s.line.step.outs n (r.from s.line there) (in_get (sent_in s.line.step.outs) m.index n t.1) in
    let at : message_at (all_sent done) (number_among (done ++ l ∷ rest) m) ≡ Some n = number_names done (l ∷ rest) s.line m n (subst AreApart e apart) there s.node s.stamp t.1 in
    (n, rw (r.sent, e) at, sym (unnamed p receipt m.index n from) ∙ ap (λ x. node_step p (events.Deliver x)) t.2)

stands_for : (chain : ℕ) (members : List ℕ) (lines done rest : List MergedStep) (l : MergedStep) (c : Chain) (p : Plain) (m : LinkMessage) → lines ≡ done ++ l ∷ rest → AreSound members lines → IsReached chain members done (l ∷ rest) c → l.event ≡ AtNode (events.Deliver m) → StandsAt c lines p m
stands_for chain members lines done rest l c p m e sound r is =
    sent_before chain members lines done rest l c p m e sound.apart r
    (subst (MayFollow members done l.node) is (follows members lines done rest l e sound)).1

-- ---- the changes of the move

same_node : (o : Option Plain) (p q : Plain) → o ≡ Some p → o ≡ Some q → p ≡ q
same_node o p q h k = cc

not_master : (id other : ℕ) (r : Record Event) → IsJoinOf other (node_line id r) → ⊥
not_master id other r h = cc

same_event : (a b : Event) → AtNode a ≡ AtNode b → a ≡ b
same_event a b h = cc

pub true_false : (b : Bool) → b ≡ true → b ≡ false → ⊥
true_false b h k = cc

changes : (chain : ℕ) (members : List ℕ) (done rest : List MergedStep) (c : Chain) (id : ℕ) (r : Record Event) (p q last : Plain) (rs : List (Record Event)) → IsReached chain members done (node_line id r ∷ rest) c → id ≢ 0 → node_at c.nodes id ≡ Some p → node_step p r.event ≡ Ok (q, r.step) → lines_of id rest ≡ map (node_line id) rs → Replays node_step q rs last → IsChanged chain (node_line id r) rest c (record c { nodes = set_node c.nodes q })
changes chain members done rest c id r p q last rs old z at h ls replay =
    let own : id_of p ≡ id = node_id c.nodes id p at in
    let kept : id_of q ≡ id = ap (λ n. n.node) (name_kept p q r.event r.step h) ∙ own in
    let here : node_at (set_node c.nodes q) id ≡ Some q = subst (λ n. node_at (set_node c.nodes q) n ≡ Some q) kept (node_here c.nodes q p (ap (node_at c.nodes) kept ∙ at)) in
    let other : (n : ℕ) → n ≢ id → node_at (set_node c.nodes q) n ≡ node_at c.nodes n = λ n d. node_elsewhere c.nodes q n (λ e. d (e ∙ kept)) in
    let same : map id_of (set_node c.nodes q) ≡ map id_of c.nodes = ids_stay c.nodes q in
    record {
      chained = refl;
      master = rw same (subst (MasterGoes (master_of c)) (at_other 0 (node_line id r) rest z) old.master);
      nodes = λ n d. elim (same_or_not n id) [
        | inl e ↦ subst (λ k. NodeGoes chain k (node_at (set_node c.nodes q) k) (lines_of k rest)) (sym e) (record { node = q; records = rs; last = last; now = inl here; lines = ls; replay = replay })
        | inr e ↦ rw (other n e) (subst (NodeGoes chain n (node_at c.nodes n)) (at_other n (node_line id r) rest (λ k. e (sym k))) (old.nodes n d))
      ];
      keeps = λ n t. elim (same_or_not n id) [
        | inl e ↦ subst (IsThere (set_node c.nodes q)) (sym e) (q, here)
        | inr e ↦ (t.0, other n e ∙ t.1)
      ];
      stays = λ n t. elim (same_or_not n id) [
        | inl e ↦ (let s : t.0 ≡ p = same_node (node_at c.nodes id) t.0 p (subst (λ k. node_at c.nodes k ≡ Some t.0) e t.1) at in absurd (true_false p.running (runs p q r.event r.step h) (subst (λ (x : Plain). x.running ≡ false) s t.2)))
        | inr e ↦ (t.0, other n e ∙ t.1, t.2)
      ];
      join = λ n j. absurd (not_master id n r j);
      stop = λ e. (q, here, halts p q r.step (subst (λ x. node_step p x ≡ Ok (q, r.step)) (same_event r.event events.Stop e) h));
      from = subst (λ n. AreFrom n r.step.outs) own (sends_from p q r.event r.step h);
    }

-- ---- the whole

-- the line is a move that is taken, and leads to a chain for which the same holds
pub record IsNext (chain : ℕ) (members : List ℕ) (lines done : List MergedStep) (l : MergedStep) (rest : List MergedStep) (c : Chain) : Type 0 where
  pub next : Chain
  pub step : chain_step c (move_among lines l.node l.event) ≡ Ok (next, l.step)
  pub reached : IsReached chain members (done ++ l ∷ []) rest next
  pub place : node_of (receivers_of c.messages) (move_among lines l.node l.event) ≡ l.node

pub taken : (chain : ℕ) (members : List ℕ) (lines done rest : List MergedStep) (l : MergedStep) (c x : Chain) → lines ≡ done ++ l ∷ rest → AreSound members lines → IsReached chain members done (l ∷ rest) c → move_progress c (move_among lines l.node l.event) ≡ Ok (x, l.step) → node_of (receivers_of c.messages) (move_among lines l.node l.event) ≡ l.node → IsChanged chain l rest c x → IsNext chain members lines done l rest c
taken chain members lines done rest l c x e sound r m at d =
    let few : c.moves < greatest = rw r.count (moves_left members lines done rest l e sound) in
    let short : length c.messages + length (sent_in l.step.outs) ≤ greatest = rw r.sent (messages_left members lines done rest l e sound) in
    record {
      next = counted c x l.step;
      step = takes c x (move_among lines l.node l.event) l.step m few short;
      reached = reached_more chain members done rest l c x r d;
      place = at;
    }

-- the node of a line exists
is_known : (chain : ℕ) (members : List ℕ) (lines done rest : List MergedStep) (l : MergedStep) (c : Chain) (event : Event) → lines ≡ done ++ l ∷ rest → AreSound members lines → IsReached chain members done (l ∷ rest) c → l.event ≡ AtNode event → IsThere c.nodes l.node
is_known chain members lines done rest l c event e sound r is =
    let joined : HasJoined members done l.node = (subst (MayFollow members done l.node) is (follows members lines done rest l e sound)).0 in
    elim joined [
      | inl m ↦ r.first l.node m
      | inr s ↦ r.joins s.0 (from_contains done s.0 s.1) l.node s.2
    ]

now_is : (chain id : ℕ) (c : Chain) (p : Plain) → IsThere c.nodes id → IsNow chain id (node_at c.nodes id) p → node_at c.nodes id ≡ Some p
now_is chain id c p t (inl h) = h
now_is chain id c p t (inr h) = let k = t.1 in let n = h.0 in cc

at_record : (chain : ℕ) (members : List ℕ) (lines done rest : List MergedStep) (c : Chain) (id : ℕ) (r : Record Event) (p q last : Plain) (rs : List (Record Event)) → lines ≡ done ++ node_line id r ∷ rest → AreSound members lines → IsReached chain members done (node_line id r ∷ rest) c → id ≢ 0 → IsNow chain id (node_at c.nodes id) p → node_step p r.event ≡ Ok (q, r.step) → lines_of id rest ≡ map (node_line id) rs → Replays node_step q rs last → IsNext chain members lines done (node_line id r) rest c
at_record chain members lines done rest c id r p q last rs e sound old z now h ls replay =
    let l : MergedStep = node_line id r in
    let at : node_at c.nodes id ≡ Some p = now_is chain id c p (is_known chain members lines done rest l c r.event e sound old refl) now in
    taken chain members lines done rest l c (record c { nodes = set_node c.nodes q }) e sound old
    (moves lines c id p q r.event r.step z at h (λ m is. stands_for chain members lines done rest l c p m e sound old (ap AtNode is)))
    (places lines c id p q r.event r.step at h (λ m is. stands_for chain members lines done rest l c p m e sound old (ap AtNode is)))
    (changes chain members done rest c id r p q last rs old z at h ls replay)

pub first_same : {X : Type 0} (x y : X) (xs ys : List X) → x ∷ xs ≡ y ∷ ys → (x ≡ y) × (xs ≡ ys)
first_same x y xs ys h = (cc, cc)

by_records : (chain : ℕ) (members : List ℕ) (lines done rest : List MergedStep) (l : MergedStep) (c : Chain) (p last : Plain) (rs : List (Record Event)) → lines ≡ done ++ l ∷ rest → AreSound members lines → IsReached chain members done (l ∷ rest) c → l.node ≢ 0 → IsNow chain l.node (node_at c.nodes l.node) p → l ∷ lines_of l.node rest ≡ map (node_line l.node) rs → Replays node_step p rs last → IsNext chain members lines done l rest c
by_records chain members lines done rest l c p last [] e sound old z now ls replay = cc
by_records chain members lines done rest l c p last (r ∷ rs) e sound old z now ls (q, h, replay) =
    let s = first_same l (node_line l.node r) (lines_of l.node rest) (map (node_line l.node) rs) ls in
    let f : lines ≡ done ++ node_line l.node r ∷ rest = e ∙ ap (λ x. done ++ x ∷ rest) s.0 in
    let o : IsReached chain members done (node_line l.node r ∷ rest) c = subst (λ x. IsReached chain members done (x ∷ rest) c) s.0 old in
    subst (λ x. IsNext chain members lines done x rest c) (sym s.0)
    (at_record chain members lines done rest c l.node r p q last rs f sound o z now h s.1 replay)

pub at_node : (chain : ℕ) (members : List ℕ) (lines done rest : List MergedStep) (l : MergedStep) (c : Chain) → lines ≡ done ++ l ∷ rest → AreSound members lines → IsReached chain members done (l ∷ rest) c → l.node ≢ 0 → IsNext chain members lines done l rest c
at_node chain members lines done rest l c e sound r z =
    let g = r.nodes l.node z in
    by_records chain members lines done rest l c g.node g.last g.records e sound r z g.now (sym (at_here l.node l rest refl) ∙ g.lines) g.replay
