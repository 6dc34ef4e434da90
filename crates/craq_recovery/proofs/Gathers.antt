-- A node's gathering comes from its predecessor: it began or goes on with a part that the
-- predecessor sent.
use Rattle.std.proofs.Common.{◌≡◌, ℕ, ◌+◌, true, false, List, [], ◌∷◌, ◌++◌, Option, Some, None, Result, Ok, Err, refl, sym, subst, slice_get, zero, suc, append-nil, inl, inr}
use Rattle.craq_names.specs.declared.refusal.Refusal.{Refusal}
use Rattle.craq_names.specs.declared.refusal.Refusal.TheVariants as refusals
use Rattle.craq_names.proofs.Lists.{all_like}
use Rattle.craq_model.specs.declared.ask.Ask.{Ask}
use Rattle.craq_model.specs.declared.ask.Event.{Event}
use Rattle.craq_model.specs.declared.ask.Event.TheVariants as events
use Rattle.craq_model.specs.declared.gathering.Gathering.{Gathering}
use Rattle.craq_model.specs.declared.message.Body.TheVariants as bodies
use Rattle.craq_model.specs.declared.message.LinkMessage.{LinkMessage}
use Rattle.craq_model.specs.declared.message.StatePart.{StatePart}
use Rattle.craq_model.specs.Deliveries.{acknowledgement_transition, delivery_transition}
use Rattle.craq_model.specs.Node.{event_transition, is_for}
use Rattle.craq_model.specs.Parts.{is_whole}
use Rattle.craq_model.specs.Plain.{Plain, is_tail, opening_joined, opening_member, predecessor}
use Rattle.craq_model.specs.Settle.{Transition, all_committed, settling_transition}
use Rattle.craq_runs.specs.declared.run.Move.{Move}
use Rattle.craq_runs.specs.declared.run.Move.TheVariants as moves
use Rattle.craq_runs.specs.declared.run.Run.{Run}
use Rattle.craq_runs.specs.declared.run.Taken.{Taken}
use Rattle.craq_runs.specs.Chain.{Chain, Progress, chain_step, counted_progress, message_at, move_progress, node_at, numbers_left, opening_chain, sent_in}
use Rattle.craq_runs.specs.Runs.{after_move, after_moves, progressed}
use Rattle.craq_recovery.specs.Recovered.{chain_after_moves}
use Rattle.craq_recovery.proofs.Each.{Each, each_at, each_moved, each_opening}
use Rattle.craq_recovery.proofs.Lines.{ByAsk, ByMessage, IfTaken, by_ask, by_message, by_test}
use Rattle.craq_updates.proofs.Places.{EventOf}
use Rattle.craq_recovery.proofs.Extending.{IsReachedBy}
use Rattle.craq_recovery.proofs.Series.{Has, has_front}

-- a node's gathering has the property for its predecessor
module _ (K : Option ℕ → Gathering → Type 0) where
  abbrev pub GathersSo : Plain → Type 0
  GathersSo p = (g : Gathering) → p.gathering ≡ Some g → K (predecessor p) g

  abbrev pub GathersAfter : Transition → Type 0
  GathersAfter t = GathersSo t.0

  -- the parts of this message make such a gathering
  abbrev pub BringsSo : LinkMessage → Type 0
  BringsSo m = (part : StatePart) (g : Gathering) → m.body ≡ bodies.Part part → g.position ≡ part.position → g.count ≡ part.count → is_whole g ≡ false → K (Some m.sender) g

  gathers_none : (p : Plain) → p.gathering ≡ None → GathersSo p
  gathers_none p none g is = absurd (cc)

  settling_so : (p : Plain) → p.gathering ≡ None → GathersAfter (settling_transition p)
  unfolding settling_transition
  settling_so p none = by_test (is_tail p) GathersAfter _ _ (gathers_none (all_committed p) none) (gathers_none p none)

  message_so : (m : LinkMessage) → BringsSo m → ByMessage GathersSo GathersAfter m
  unfolding acknowledgement_transition
  message_so m brings = record {
    silent = λ t none h. h;
    sends = λ p past to bs h. h;
    joins = λ p epoch members h. settling_so (record p { epoch = epoch; members = members; floor = None; gathering = None }) refl;
    readies = λ p h. settling_so (record p { ready = true; gathering = None }) refl;
    commits = λ p position h. h;
    answers = λ p r answer h. h;
    takes = λ p past floor h. h;
    drops = λ p h. gathers_none (record p { gathering = None }) refl;
    gathers = λ p part g says from at count lacks h x is.
        let it : g ≡ x = cc in
        let P : Gathering → Type 0 = λ y. K (predecessor p) y in
        let Q : Option ℕ → Type 0 = λ o. K o g in
        subst P it (subst Q (sym from) (brings part g says at count lacks));
  }

  pub delivery_so : (p : Plain) (m : LinkMessage) → BringsSo m → GathersSo p → GathersAfter (delivery_transition p m)
  delivery_so p m brings h = by_message GathersSo GathersAfter m (message_so m brings) p h

  ask_so : ByAsk GathersSo GathersAfter
  ask_so = record { answered = λ p past answer to bs h. h; waits = λ p past us to bs h. h; asks = λ p r bs dirty h. h }

  event_so : (p : Plain) (e : Event) → ((m : LinkMessage) → e ≡ events.Deliver m → BringsSo m) → GathersSo p → IfTaken GathersAfter (event_transition p e)
  event_so p (events.Ask ask) brings h = by_ask GathersSo GathersAfter ask_so p ask h
  event_so p (events.Deliver m) brings h = by_test (is_for p m) (IfTaken GathersAfter) (Ok (delivery_transition p m)) (Err refusals.WrongNode) (delivery_so p m (brings m refl) h) tt
  event_so p events.Tick brings h = h
  event_so p events.Stop brings h = h

  abbrev pub AllGatherSo : List Plain → Type 0
  AllGatherSo ps = Each GathersSo ps

  so_move : (c : Chain) (m : Move) → ((number : ℕ) (m : LinkMessage) → message_at c.messages number ≡ Some m → BringsSo m) → AllGatherSo c.nodes → AllGatherSo (after_move c m).nodes
  so_move c m brings all =
      each_moved GathersSo c m all
      (λ x a h. let T : Result Transition Refusal → Type 0 = λ r. IfTaken GathersAfter r in subst T a.does (event_so a.was a.event (λ l is. delivered c m a.event l a.by is brings) h))
      (λ name some. gathers_none (opening_joined name) refl)
    where
      delivered : (c : Chain) (m : Move) (e : Event) (l : LinkMessage) → EventOf c m e → e ≡ events.Deliver l → ((number : ℕ) (m : LinkMessage) → message_at c.messages number ≡ Some m → BringsSo m) → BringsSo l
      delivered c (moves.Ask node ask) e l by is brings = absurd (cc)
      delivered c (moves.Deliver number) e l by is brings = let same : by.0 ≡ l = cc in subst BringsSo same (brings number by.0 by.1)
      delivered c (moves.Tick node) e l by is brings = absurd (cc)
      delivered c (moves.Stop node) e l by is brings = absurd (cc)
      delivered c (moves.Remove node) e l by is brings = absurd by
      delivered c (moves.Join node) e l by is brings = absurd by

-- ---- after every run

-- a part of the state that is gathered, from that node
pub record IsPartFor (from : Option ℕ) (g : Gathering) (m : LinkMessage) : Type 0 where
  pub part : StatePart
  pub says : m.body ≡ bodies.Part part
  pub position : part.position ≡ g.position
  pub count : part.count ≡ g.count
  pub comes : from ≡ Some m.sender

-- the gathering lacks parts, and a part of its state was sent by that node
pub record CameFrom (ms : List LinkMessage) (from : Option ℕ) (g : Gathering) : Type 0 where
  pub lacks : is_whole g ≡ false
  pub sent : Has (IsPartFor from g) ms

more_sent : (ms new : List LinkMessage) (p : Plain) → GathersSo (CameFrom ms) p → GathersSo (CameFrom (ms ++ new)) p
more_sent ms new p h = λ g e. let k : CameFrom ms (predecessor p) g = h g e in record { lacks = k.lacks; sent = has_front (IsPartFor (predecessor p) g) ms new k.sent }

has_at : (Is : LinkMessage → Type 0) (ms : List LinkMessage) (i : ℕ) (m : LinkMessage) → slice_get ms i ≡ Some m → Is m → Has Is ms
has_at Is [] i m at is = absurd (cc)
has_at Is (x ∷ ms) zero m at is = let same : x ≡ m = cc in inl (subst Is (sym same) is)
has_at Is (x ∷ ms) (suc i) m at is = inr (has_at Is ms i m at is)

has_numbered : (Is : LinkMessage → Type 0) (ms : List LinkMessage) (number : ℕ) (m : LinkMessage) → message_at ms number ≡ Some m → Is m → Has Is ms
has_numbered Is ms zero m at is = absurd (cc)
has_numbered Is ms (suc i) m at is = has_at Is ms i m at is

brings_it : (c : Chain) (number : ℕ) (m : LinkMessage) → message_at c.messages number ≡ Some m → BringsSo (CameFrom c.messages) m
brings_it c number m at part g says position count lacks =
    record { lacks = lacks; sent = has_numbered (IsPartFor (Some m.sender) g) c.messages number m at (record { part = part; says = says; position = sym position; count = sym count; comes = refl }) }

-- more is sent, and nothing taken back
abbrev Grows : Chain → Chain → Type 0
Grows c d = (new : List LinkMessage) × (d.messages ≡ c.messages ++ new)

grows_self : (c : Chain) → Grows c c
grows_self c = ([], sym (append-nil c.messages))

counted_grows : (c : Chain) (r : Result Progress Refusal) → Grows c (progressed c (counted_progress c r))
counted_grows c (Ok x) =
    let y : Chain = record x.0 { messages = c.messages ++ sent_in x.1.outs; moves = c.moves + 1 } in
    by_test (numbers_left c x.1) (λ (r : Result Progress Refusal). Grows c (progressed c r)) (Ok (y, x.1)) (Err refusals.Exhausted) (sent_in x.1.outs, refl) (grows_self c)
counted_grows c (Err e) = grows_self c

move_grows : (c : Chain) (m : Move) → Grows c (after_move c m)
unfolding chain_step
move_grows c m = counted_grows c (move_progress c m)

came_move : (c : Chain) (m : Move) → AllGatherSo (CameFrom c.messages) c.nodes → AllGatherSo (CameFrom (after_move c m).messages) (after_move c m).nodes
came_move c m a =
    let g : Grows c (after_move c m) = move_grows c m in
    let P : List LinkMessage → Type 0 = λ ms. AllGatherSo (CameFrom ms) (after_move c m).nodes in
    subst P (sym g.1)
    (all_like (GathersSo (CameFrom c.messages)) (GathersSo (CameFrom (c.messages ++ g.0))) (after_move c m).nodes (more_sent c.messages g.0)
    (so_move (CameFrom c.messages) c m (λ number l at. brings_it c number l at) a))

came_moves : (ts : List Taken) (c : Chain) → AllGatherSo (CameFrom c.messages) c.nodes → AllGatherSo (CameFrom (after_moves c ts).messages) (after_moves c ts).nodes
came_moves [] c a = a
came_moves (t ∷ ts) c a = came_moves ts (after_move c t.chosen) (came_move c t.chosen a)

came_after : (chain : ℕ) (run : Run) → AllGatherSo (CameFrom (chain_after_moves chain run).messages) (chain_after_moves chain run).nodes
came_after chain run = came_moves run.moves (opening_chain chain run.members) (each_opening (GathersSo (CameFrom [])) chain run.members (λ id. gathers_none (CameFrom []) (opening_member (record { chain = chain; node = id }) run.members) refl))

-- a node's gathering lacks parts, and its predecessor sent one of them
pub came_there : (chain : ℕ) (d : Chain) (id : ℕ) (p : Plain) → IsReachedBy chain d → node_at d.nodes id ≡ Some p → GathersSo (CameFrom d.messages) p
came_there chain d id p r at =
    let P : Chain → Type 0 = λ c. AllGatherSo (CameFrom c.messages) c.nodes in
    each_at (GathersSo (CameFrom d.messages)) d.nodes id p (subst P r.leads (came_after chain r.run)) at
