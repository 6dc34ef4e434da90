-- The request of a move, if it is one, among the requests before it.
use Rattle.std.proofs.Common.{◌≡◌, ◌⊎◌, inl, inr, ⊎_elim, ℕ, ◌+◌, ◌<◌, ◌≤◌, List, [], ◌∷◌, ◌++◌, Option, Some, Ok, refl, ap, sym, subst, ◌∙◌, arith, append-nil}
use Rattle.std.specs.List.{AllByRecursion}
use Rattle.craq_names.proofs.Lists.{all_append, all_like}
use Rattle.craq_model.specs.declared.ask.Ask.{Ask}
use Rattle.craq_model.specs.declared.ask.Event.{Event}
use Rattle.craq_model.specs.declared.step.Step.{Step}
use Rattle.craq_model.specs.Plain.{Plain}
use Rattle.craq_model.specs.Node.{event_transition}
use Rattle.craq_runs.specs.declared.run.Move.{Move}
use Rattle.craq_runs.specs.declared.run.Move.TheVariants as moves
use Rattle.craq_runs.specs.Chain.{Chain, Progress, node_at, chain_step}
use Rattle.craq_runs.specs.Seen.{Asked, ask_in, ask_with}
use Rattle.craq_updates.proofs.Transitions.{Accepts, ask_accepts}
use Rattle.craq_updates.proofs.Places.{AtNode, AtMaster, happens_at}
use Rattle.craq_updates.proofs.AtNodes.{now_at}
use Rattle.craq_updates.proofs.Found.{IsNumbered, numbered_push, IsBelow, ask_stays, ask_last}
use Rattle.craq_updates.proofs.Entries.{StaysAsked}
use Rattle.craq_updates.proofs.Known.{IsTicketed, NodesGrow, some_same}

-- a request that was accepted, at its node
pub record TookAsk (c : Chain) (node : ℕ) (ask : Ask) (x : Progress) (step : Step) : Type 0 where
  pub here : AtNode c (moves.Ask node ask) x
  pub accepts : Accepts here.was here.transition
  pub ticket : step.ticket ≡ Some (here.was.last_ticket + 1)

unfoldable pub took_ask : (c : Chain) (node : ℕ) (ask : Ask) (x : Progress) (step : Step) → AtNode c (moves.Ask node ask) x → x.1 ≡ step → TookAsk c node ask x step
took_ask c node ask x step a same =
    let P : Event → Type 0 = λ e. event_transition a.was e ≡ Ok a.transition in
    let accepts : Accepts a.was a.transition = ask_accepts a.was ask a.transition (subst P a.by a.does) in
    record { here = a; accepts = accepts; ticket = ap (λ (s : Step). s.ticket) (sym same ∙ ap (λ (y : Progress). y.1) a.is) ∙ accepts.given }

-- the requests of a move: none, or one with its number and the node's next ticket
pub record OneAsk (count : ℕ) (nodes : List Plain) (more : List Asked) : Type 0 where
  pub new : Asked
  pub is : more ≡ new ∷ []
  pub number : new.move ≡ count + 1
  pub ticketed : IsTicketed nodes new

abbrev pub NewAsks : ℕ → List Plain → List Asked → Type 0
NewAsks count nodes more = (more ≡ []) ⊎ OneAsk count nodes more

asked_here : (c : Chain) (chosen : Move) (x : Progress) (step : Step) → AtNode c chosen x → x.1 ≡ step → NewAsks c.moves x.0.nodes (ask_in (c.moves + 1) step.ticket chosen)
asked_here c (moves.Ask node ask) x step a same =
    let t : TookAsk c node ask x step = took_ask c node ask x step a same in
    inr (record {
      new = record { move = c.moves + 1; node = node; ticket = step.ticket; ask = ask };
      is = refl;
      number = refl;
      ticketed = record {
        node = t.here.transition.0;
        at = now_at t.here;
        given = λ k h. let same : t.here.was.last_ticket + 1 ≡ k = some_same step.ticket t.ticket h in omega (arith, same, t.accepts.last);
      };
    })
asked_here c (moves.Deliver number) x step a same = inl refl
asked_here c (moves.Tick node) x step a same = inl refl
asked_here c (moves.Stop node) x step a same = inl refl
asked_here c (moves.Remove node) x step a same = inl refl
asked_here c (moves.Join node) x step a same = inl refl

pub new_asks : (c : Chain) (chosen : Move) (x : Progress) (step : Step) → chain_step c chosen ≡ Ok x → x.1 ≡ step → NewAsks c.moves x.0.nodes (ask_in (c.moves + 1) step.ticket chosen)
new_asks c chosen x step k same =
    ⊎_elim (λ (a : AtNode c chosen x). asked_here c chosen x step a same) (λ (a : AtMaster c chosen x). inl (a.no_ask (c.moves + 1) step.ticket)) (happens_at c chosen x k)

-- ---- the requests including the new one

pub numbered_after : (count : ℕ) (nodes : List Plain) (asked more : List Asked) → IsNumbered asked → AllByRecursion (λ (x : Asked). x.move ≤ count) asked → NewAsks count nodes more → IsNumbered (asked ++ more)
numbered_after count nodes asked more n below (inl e) = let P : List Asked → Type 0 = λ l. IsNumbered l in subst P (sym (ap (λ l. asked ++ l) e ∙ append-nil asked)) n
numbered_after count nodes asked more n below (inr o) =
    let P : List Asked → Type 0 = λ l. IsNumbered (asked ++ l) in
    subst P (sym o.is) (numbered_push asked o.new n (all_like (λ (x : Asked). x.move ≤ count) (λ (x : Asked). x.move < o.new.move) asked (λ x le. omega (arith, le, o.number)) below))

pub in_time_after : (count next : ℕ) (nodes : List Plain) (asked more : List Asked) → next ≡ count + 1 → AllByRecursion (λ (x : Asked). x.move ≤ count) asked → NewAsks count nodes more
    → AllByRecursion (λ (x : Asked). x.move ≤ next) (asked ++ more)
in_time_after count next nodes asked more same below new =
    let P : Asked → Type 0 = λ x. x.move ≤ next in
    all_append P asked more (all_like (λ (x : Asked). x.move ≤ count) P asked (λ x le. omega (arith, le, same)) below)
    (⊎_elim (λ e. let Q : List Asked → Type 0 = λ l. AllByRecursion P l in subst Q (sym e) tt)
    (λ (o : OneAsk count nodes more). let Q : List Asked → Type 0 = λ l. AllByRecursion P l in subst Q (sym o.is) (omega (arith, o.number, same), tt)) new)

pub ticketed_after : (count : ℕ) (old nodes : List Plain) (asked more : List Asked) → NodesGrow old nodes → AllByRecursion (IsTicketed old) asked → NewAsks count nodes more → AllByRecursion (IsTicketed nodes) (asked ++ more)
ticketed_after count old nodes asked more grow t new =
    let P : Asked → Type 0 = IsTicketed nodes in
    all_append P asked more (all_like (IsTicketed old) P asked (λ a i.
    let q : _ = grow a.node i.node i.at in
    record { node = q.0; at = q.1; given = λ t h. omega (arith, i.given t h, q.2) }) t)
    (⊎_elim (λ e. let Q : List Asked → Type 0 = λ l. AllByRecursion P l in subst Q (sym e) tt)
    (λ (o : OneAsk count nodes more). let Q : List Asked → Type 0 = λ l. AllByRecursion P l in subst Q (sym o.is) (o.ticketed, tt)) new)

pub asks_stay : (asked more : List Asked) → StaysAsked asked (asked ++ more)
asks_stay asked more node ticket a h = ask_stays asked more node ticket a h

-- no request before it has the new ticket
pub all_below : (nodes : List Plain) (node ticket : ℕ) (p : Plain) (asked : List Asked) → node_at nodes node ≡ Some p → p.last_ticket < ticket → AllByRecursion (IsTicketed nodes) asked
    → AllByRecursion (IsBelow node ticket) asked
all_below nodes node ticket p asked at lt t =
    all_like (IsTicketed nodes) (IsBelow node ticket) asked
    (λ a i e k h.
    let P : ℕ → Type 0 = λ j. node_at nodes j ≡ Some i.node in
    let same : p ≡ i.node = some_same (node_at nodes node) at (subst P e i.at) in
    let last : p.last_ticket ≡ i.node.last_ticket = ap (λ (p : Plain). p.last_ticket) same in
    omega (arith, i.given k h, last, lt))
    t

pub new_ask_found : (nodes : List Plain) (node number ticket : ℕ) (given : Option ℕ) (ask : Ask) (p : Plain) (asked : List Asked) → node_at nodes node ≡ Some p → p.last_ticket < ticket → given ≡ Some ticket
    → AllByRecursion (IsTicketed nodes) asked → ask_with (asked ++ ask_in number given (moves.Ask node ask)) node ticket ≡ Some (record { move = number; node = node; ticket = given; ask = ask })
new_ask_found nodes node number ticket given ask p asked at lt is t =
    ask_last asked (record { move = number; node = node; ticket = given; ask = ask }) ticket (all_below nodes node ticket p asked at lt t) is
