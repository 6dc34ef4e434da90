-- The request of a call is the one with its node and ticket in the run.
use Rattle.std.proofs.Common.{◌≡◌, ◌<◌, ◌≤◌, ◌⊎◌, ℕ, suc, ◌+◌, ◌==◌, ◌&&◌, Bool, true, false, List, [], ◌∷◌, map, Option, Some, None, refl, sym, ap, subst, arith, ◌∙◌, inl, inr}
use Rattle.std.specs.Prelude.{slice_get, find}
use Rattle.craq_model.specs.declared.ask.Ask.{Ask}
use Rattle.craq_model.specs.declared.ask.Event.{Event}
use Rattle.craq_model.specs.declared.ask.Event.TheVariants as events
use Rattle.craq_model.specs.Node.{node_step}
use Rattle.craq_model.specs.Plain.{Plain}
use Rattle.craq_runs.specs.Seen.{Asked, ask_in, ask_with, asks_from, is_ticket}
use Rattle.craq_seat.specs.declared.journal.BookEvent.TheVariants as books
use Rattle.craq_seat.specs.declared.journal.Record.{Record}
use Rattle.craq_seat.specs.Journal.{Replays}
use Rattle.craq_seat.specs.Merge.{AtNode, AtMaster, Happening, MergedStep, move_among, node_line}
use Rattle.craq_causality.specs.Authors.{lines_of}
use Rattle.craq_causality.proofs.Orders.{IsIn, in_either, in_get, of_map, to_at}
use Rattle.craq_causality.proofs.Walk.{taken_among}
use Rattle.craq_merge.proofs.Orders.{AreRising, not_itself}
use Rattle.craq_merge.proofs.Seen.{later_line}
use Rattle.craq_laws.proofs.Kept.{IsNextTicket, next_ticket}

-- ---- tickets in a journal

no_lower : (last new : ℕ) (ticket : Option ℕ) → IsNextTicket last ticket new → last ≤ new
no_lower last new None h = h
no_lower last new (Some k) h = let a = h.0 in let b = h.1 in omega (arith, a, b)

is_next : (last new k : ℕ) (ticket : Option ℕ) → IsNextTicket last ticket new → ticket ≡ Some k → (last < k) × (k ≤ new)
is_next last new k ticket h e = subst (λ t. IsNextTicket last t new) e h

tickets_above : (p last : Plain) (rs : List (Record Event)) (r : Record Event) (k : ℕ) → Replays node_step p rs last → IsIn rs r → r.step.ticket ≡ Some k → p.last_ticket < k
tickets_above p last [] r k h i e = absurd i
tickets_above p last (x ∷ rs) r k (q, h, rest) (inl s) e =
    (is_next p.last_ticket q.last_ticket k x.step.ticket (next_ticket p q x.event x.step h) (ap (λ (y : Record Event). y.step.ticket) s ∙ e)).0
tickets_above p last (x ∷ rs) r k (q, h, rest) (inr i) e =
    let a = no_lower p.last_ticket q.last_ticket x.step.ticket (next_ticket p q x.event x.step h) in
    let b = tickets_above q last rs r k rest i e in
    omega (arith, a, b)

pub one_ticket : (p last : Plain) (rs : List (Record Event)) (r s : Record Event) (k : ℕ) → Replays node_step p rs last → IsIn rs r → IsIn rs s → r.step.ticket ≡ Some k → s.step.ticket ≡ Some k → r ≡ s
one_ticket p last [] r s k h i l e f = absurd i
one_ticket p last (x ∷ rs) r s k (q, h, rest) (inl a) (inl b) e f = sym a ∙ b
one_ticket p last (x ∷ rs) r s k (q, h, rest) (inl a) (inr b) e f =
    let c = is_next p.last_ticket q.last_ticket k x.step.ticket (next_ticket p q x.event x.step h) (ap (λ (y : Record Event). y.step.ticket) a ∙ e) in
    let d = tickets_above q last rs s k rest b f in
    let g = c.1 in absurd (omega (arith, g, d))
one_ticket p last (x ∷ rs) r s k (q, h, rest) (inr a) (inl b) e f =
    let c = is_next p.last_ticket q.last_ticket k x.step.ticket (next_ticket p q x.event x.step h) (ap (λ (y : Record Event). y.step.ticket) b ∙ f) in
    let d = tickets_above q last rs r k rest a e in
    let g = c.1 in absurd (omega (arith, g, d))
one_ticket p last (x ∷ rs) r s k (q, h, rest) (inr a) (inr b) e f = one_ticket q last rs r s k rest a b e f

-- ---- requests of a run

-- the item found
pub record IsFound {X : Type 0} (test : X → Bool) (xs : List X) : Type 0 where
  pub which : X
  pub found : find test xs ≡ Some which
  pub there : IsIn xs which
  pub passes : test which ≡ true

found_by : {X : Type 0} (test : X → Bool) (xs : List X) (x y : X) (b : Bool) → test y ≡ b → test x ≡ true → (y ≡ x) ⊎ IsIn xs x → (IsIn xs x → IsFound test xs) → IsFound test (y ∷ xs)
found_by test xs x y true e t i f = record { which = y; found = rw e refl; there = inl refl; passes = e }
found_by test xs x y false e t (inl s) f = let g : test y ≡ true = ap test s ∙ t in cc
found_by test xs x y false e t (inr k) f = let r = f k in record { which = r.which; found = rw e r.found; there = inr r.there; passes = r.passes }

pub finds : {X : Type 0} (test : X → Bool) (xs : List X) (x : X) → IsIn xs x → test x ≡ true → IsFound test xs
finds test [] x i t = absurd i
finds test (y ∷ xs) x i t = found_by test xs x y (test y) refl t i (λ k. finds test xs x k t)

-- a request that is seen is of a line
pub record IsAskOf (rest : List MergedStep) (number : ℕ) (x : Asked) : Type 0 where
  pub place : ℕ
  pub line : MergedStep
  pub ask : Ask
  pub at : slice_get rest place ≡ Some line
  pub event : line.event ≡ AtNode (events.Ask ask)
  pub is : x ≡ record { move = number + place; node = line.node; ticket = line.step.ticket; ask = ask }

of_line : (h : Happening) (lines rest : List MergedStep) (l : MergedStep) (number : ℕ) (x : Asked) → l.event ≡ h → IsIn (ask_in number l.step.ticket (move_among lines l.node h)) x → IsAskOf (l ∷ rest) number x
of_line (AtNode (events.Ask ask)) lines rest l number x e (inl s) =
    let n : number + 0 ≡ number = omega arith in
    record { place = 0; line = l; ask = ask; at = refl; event = e; is = rw n (sym s) }
of_line (AtNode (events.Ask ask)) lines rest l number x e (inr k) = absurd k
of_line (AtNode (events.Deliver m)) lines rest l number x e k = absurd k
of_line (AtNode events.Tick) lines rest l number x e k = absurd k
of_line (AtNode events.Stop) lines rest l number x e k = absurd k
of_line (AtMaster (books.Join id)) lines rest l number x e k = absurd k
of_line (AtMaster (books.Remove stopped stop)) lines rest l number x e k = absurd k
of_line (AtMaster books.Tick) lines rest l number x e k = absurd k

-- a request among the lines is that of a line
pub ask_of_line : (lines rest : List MergedStep) (number : ℕ) (x : Asked) → IsIn (asks_from number (map (taken_among lines) rest)) x → IsAskOf rest number x
unfolding asks_from
ask_of_line lines [] number x i = absurd i
ask_of_line lines (l ∷ rest) number x i =
    elim (in_either (ask_in number l.step.ticket (move_among lines l.node l.event)) (asks_from (number + 1) (map (taken_among lines) rest)) x i) [
      | inl k ↦ of_line l.event lines rest l number x refl k
      | inr k ↦ (
          let t = ask_of_line lines rest (number + 1) x k in
          let n : number + suc t.place ≡ number + 1 + t.place = omega arith in
          record { place = suc t.place; line = t.line; ask = t.ask; at = t.at; event = t.event; is = rw n t.is }
          )
    ]

one_place : (lines : List MergedStep) (i k : ℕ) (a : MergedStep) → AreRising lines → slice_get lines i ≡ Some a → slice_get lines k ≡ Some a → i ≡ k
one_place lines i k a r h g =
    let f : i < k → ⊥ = λ lt. not_itself a a refl (later_line lines i k a a r h g lt) in
    let b : k < i → ⊥ = λ lt. not_itself a a refl (later_line lines k i a a r g h lt) in
    grind (arith, f, b)

pub named_so : (x : Asked) (node ticket : ℕ) → ((x.node == node) && is_ticket x.ticket ticket) ≡ true → (x.node ≡ node) × (x.ticket ≡ Some ticket)
named_so x node ticket h = by_ticket x.ticket refl
  where
    by_ticket : (o : Option ℕ) → x.ticket ≡ o → (x.node ≡ node) × (x.ticket ≡ Some ticket)
    by_ticket None e = absurd (grind (arith, h, e))
    by_ticket (Some k) e = (grind (arith, h, e), e ∙ ap Some (grind (arith, h, e)))

same_ask : (h : Happening) (e : Event) (a b : Ask) → h ≡ AtNode (events.Ask a) → AtNode e ≡ h → e ≡ events.Ask b → a ≡ b
same_ask h e a b f g k = cc

abbrev asked_of : ℕ → ℕ → Option ℕ → Ask → Asked
asked_of move node ticket ask = record { move = move; node = node; ticket = ticket; ask = ask }

same_asked : (a b m n : ℕ) (s t : Option ℕ) (x y : Ask) → a ≡ b → m ≡ n → s ≡ t → x ≡ y → asked_of a m s x ≡ asked_of b n t y
same_asked a b m n s t x y e f g h = rw (e, f, g, h) refl

-- a request that is seen with the ticket of a record is the record's
is_record : (lines : List MergedStep) (p last : Plain) (id place ticket : ℕ) (rs : List (Record Event)) (r : Record Event) (ask : Ask) (x : Asked) (k : ℕ) (l : MergedStep) (other : Ask) → AreRising lines → lines_of id lines ≡ map (node_line id) rs → Replays node_step p rs last → IsIn rs r → slice_get lines place ≡ Some (node_line id r) → r.event ≡ events.Ask ask → r.step.ticket ≡ Some ticket → slice_get lines k ≡ Some l → l.event ≡ AtNode (events.Ask other) → x ≡ asked_of (1 + k) l.node l.step.ticket other → x.node ≡ id → x.ticket ≡ Some ticket → x ≡ asked_of (suc place) id (Some ticket) ask
is_record lines p last id place ticket rs r ask x k l other up own replay there at event tick here asks is of with =
    let node : l.node ≡ id = ap (λ (y : Asked). y.node) (sym is) ∙ of in
    let ticket_too : l.step.ticket ≡ Some ticket = ap (λ (y : Asked). y.ticket) (sym is) ∙ with in
    let among : IsIn (map (node_line id) rs) l = subst (λ ls. IsIn ls l) own (to_at id lines l (in_get lines k l here) node) in
    let u = of_map (node_line id) rs l among in
    let same : u.0 ≡ r = one_ticket p last rs u.0 r ticket replay u.1 there (ap (λ (y : MergedStep). y.step.ticket) u.2 ∙ ticket_too) tick in
    let line : l ≡ node_line id r = sym u.2 ∙ ap (node_line id) same in
    let places : k ≡ place = one_place lines k place (node_line id r) up (here ∙ ap Some line) at in
    let asked : other ≡ ask = same_ask l.event r.event other ask asks (sym (ap (λ (y : MergedStep). y.event) line)) event in
    let move : 1 + k ≡ suc place = omega (arith, places) in
    is ∙ same_asked (1 + k) (suc place) l.node id l.step.ticket (Some ticket) other ask move node ticket_too asked

found_named : (lines : List MergedStep) (p last : Plain) (id place ticket : ℕ) (rs : List (Record Event)) (r : Record Event) (ask : Ask) (f : IsFound (λ (a : Asked). (a.node == id) && is_ticket a.ticket ticket) (asks_from 1 (map (taken_among lines) lines))) → IsAskOf lines 1 f.which → AreRising lines → lines_of id lines ≡ map (node_line id) rs → Replays node_step p rs last → IsIn rs r → slice_get lines place ≡ Some (node_line id r) → r.event ≡ events.Ask ask → r.step.ticket ≡ Some ticket → ask_with (asks_from 1 (map (taken_among lines) lines)) id ticket ≡ Some (asked_of (suc place) id (Some ticket) ask)
unfolding ask_with
found_named lines p last id place ticket rs r ask f t up own replay there at event tick =
    let so = named_so f.which id ticket f.passes in
    f.found ∙ ap Some (is_record lines p last id place ticket rs r ask f.which t.place t.line t.ask up own replay there at event tick t.at t.event t.is so.0 so.1)

-- the first request with the node and the ticket is the one of this record
pub ask_named : (lines : List MergedStep) (p last : Plain) (id place ticket : ℕ) (rs : List (Record Event)) (r : Record Event) (ask : Ask) → AreRising lines → lines_of id lines ≡ map (node_line id) rs → Replays node_step p rs last → IsIn rs r → slice_get lines place ≡ Some (node_line id r) → r.event ≡ events.Ask ask → r.step.ticket ≡ Some ticket → IsIn (asks_from 1 (map (taken_among lines) lines)) (asked_of (suc place) id (Some ticket) ask) → ask_with (asks_from 1 (map (taken_among lines) lines)) id ticket ≡ Some (asked_of (suc place) id (Some ticket) ask)
ask_named lines p last id place ticket rs r ask up own replay there at event tick seen =
    let asks : List Asked = asks_from 1 (map (taken_among lines) lines) in
    let passes : ((id == id) && (ticket == ticket)) ≡ true = grind arith in
    let f : IsFound (λ (a : Asked). (a.node == id) && is_ticket a.ticket ticket) asks = finds (λ (a : Asked). (a.node == id) && is_ticket a.ticket ticket) asks (asked_of (suc place) id (Some ticket) ask) seen passes in
    found_named lines p last id place ticket rs r ask f (ask_of_line lines lines 1 f.which f.there) up own replay there at event tick
