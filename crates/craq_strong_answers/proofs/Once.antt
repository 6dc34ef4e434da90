-- No ticket is answered twice.
use Rattle.std.proofs.Common.{◌≡◌, ◌≢◌, ◌⊎◌, inl, inr, ⊎_elim, ℕ, ◌+◌, ◌<◌, ◌≤◌, ◌==◌, Bool, true, false, cond, List, [], ◌∷◌, ◌++◌, map, filter, Option, Some, None, Ok, refl, ap, sym, subst, ◌∙◌, arith}
use Rattle.std.specs.List.{AllByRecursion, IsDistinct}
use Rattle.std.proofs.lemmas.Bool.{cond_both, cond-true, cond-false, eqb-true, eq-eqb, ne_eqb, and_parts, cases_eq, false_from_ne_true}
use Rattle.std.proofs.lemmas.List.{map-append}
use Rattle.std.proofs.lemmas.List.Elements.{filter-append}
use Rattle.craq_names.proofs.Lists.{all_filter}
use Rattle.craq_model.specs.declared.ask.Event.{Event}
use Rattle.craq_model.specs.declared.ask.Event.TheVariants as events
use Rattle.craq_model.specs.declared.step.Out.{Out}
use Rattle.craq_model.specs.declared.step.Out.TheVariants as outs
use Rattle.craq_model.specs.Plain.{Plain, opening_joined}
use Rattle.craq_model.specs.Settle.{Transition}
use Rattle.craq_model.specs.Node.{event_transition}
use Rattle.craq_runs.specs.declared.run.Move.{Move}
use Rattle.craq_runs.specs.Chain.{Chain, Progress, node_at}
use Rattle.craq_runs.specs.Seen.{Answered, answers_in}
use Rattle.craq_runs.specs.Valid.{same_name}
use Rattle.craq_updates.proofs.EachMove.{place_of}
use Rattle.craq_updates.proofs.Transitions.{Accepts, ask_accepts}
use Rattle.craq_updates.proofs.Places.{AtNode, AtMaster, OneMore}
use Rattle.craq_updates.proofs.AtNodes.{now_at, others_stay, tickets_rise, for_node, tick_same, stop_same}
use Rattle.craq_updates.proofs.Known.{NodesGrow, some_same, grow_at_node, grow_at_master}
use Rattle.craq_refinement.proofs.Master.{node_pushed}
use Rattle.craq_strong_answers.proofs.Times.{times, times_cons, times_nil, times_append, open_of, given_in}
use Rattle.craq_strong_answers.proofs.Tickets.{Closes, body_closes, tick_closes, stop_closes, ask_closes}

-- the tickets that a node answered
unfoldable pub given_at : ℕ → List Answered → List ℕ
given_at id xs = map (λ (x : Answered). x.ticket) (filter (λ (x : Answered). x.node == id) xs)

given_more : (id : ℕ) (xs ys : List Answered) → given_at id (xs ++ ys) ≡ given_at id xs ++ given_at id ys
unfolding given_at
given_more id xs ys = ap (map (λ (x : Answered). x.ticket)) (filter-append (λ (x : Answered). x.node == id) xs ys) ∙ map-append (λ (x : Answered). x.ticket) (filter (λ (x : Answered). x.node == id) xs) (filter (λ (x : Answered). x.node == id) ys)

given_here : (number id : ℕ) (os : List Out) → given_at id (answers_in number id os) ≡ given_in os
unfolding given_at answers_in given_in
given_here number id [] = refl
given_here number id (outs.Send to m ∷ os) = given_here number id os
given_here number id (outs.Answer ticket answer ∷ os) =
    let x : Answered = record { move = number; node = id; ticket = ticket; answer = answer } in
    let rest : List Answered = filter (λ (x : Answered). x.node == id) (answers_in number id os) in
    ap (map (λ (x : Answered). x.ticket)) (cond-true (id == id) (x ∷ rest) rest (eq-eqb id id refl)) ∙ ap (λ l. ticket ∷ l) (given_here number id os)

given_elsewhere : (number node id : ℕ) (os : List Out) → node ≢ id → given_at id (answers_in number node os) ≡ []
unfolding given_at answers_in
given_elsewhere number node id [] ne = refl
given_elsewhere number node id (outs.Send to m ∷ os) ne = given_elsewhere number node id os ne
given_elsewhere number node id (outs.Answer ticket answer ∷ os) ne =
    let x : Answered = record { move = number; node = node; ticket = ticket; answer = answer } in
    let rest : List Answered = filter (λ (x : Answered). x.node == id) (answers_in number node os) in
    ap (map (λ (x : Answered). x.ticket)) (cond-false (node == id) (x ∷ rest) rest (ne_eqb node id ne)) ∙ given_elsewhere number node id os ne

-- ---- at each node

pub record Once (nodes : List Plain) (id : ℕ) (given : List Answered) : Type 0 where
  pub there : (p : Plain) → node_at nodes id ≡ Some p → (k : ℕ) → times k (given_at id given) + times k (open_of p) ≤ 1
  pub below : (p : Plain) → node_at nodes id ≡ Some p → (k : ℕ) → p.last_ticket < k → times k (given_at id given) + times k (open_of p) ≤ 0
  pub absent : node_at nodes id ≡ None → (k : ℕ) → times k (given_at id given) ≤ 0

-- the tickets of a step: those that waited, and that of a request
closes : (p : Plain) (e : Event) (t : Transition) → event_transition p e ≡ Ok t → Closes (open_of p) t ⊎ (Closes (open_of p ++ (p.last_ticket + 1) ∷ []) t × (t.0.last_ticket ≡ p.last_ticket + 1))
closes p (events.Ask ask) t h = let a : Accepts p t = ask_accepts p ask t h in inr (ask_closes p ask t h, a.last)
closes p (events.Deliver m) t h = let P : Transition → Type 0 = λ t. Closes (open_of p) t in inl (subst P (for_node p m t h) (body_closes p m m.body))
closes p events.Tick t h = let P : Transition → Type 0 = λ t. Closes (open_of p) t in inl (subst P (tick_same p t h) (tick_closes p))
closes p events.Stop t h = let P : Transition → Type 0 = λ t. Closes (open_of p) t in inl (subst P (stop_same p t h) (stop_closes p))

gone : (nodes more : List Plain) (id : ℕ) → NodesGrow nodes more → node_at more id ≡ None → node_at nodes id ≡ None
gone nodes more id grow h = by (node_at nodes id) refl
  where
    nothing : {A : Type 0} {y : A} (o : Option A) → o ≡ None → o ≡ Some y → ⊥
    nothing o n s = cc

    by : (o : Option Plain) → node_at nodes id ≡ o → o ≡ None
    by None e = refl
    by (Some p) e = let q : _ = grow id p e in absurd (nothing (node_at more id) h q.1)

pub once_at_node : {c : Chain} {chosen : Move} {x : Progress} (h : AtNode c chosen x) (number id : ℕ) (given : List Answered) → Once c.nodes id given → Once x.0.nodes id (given ++ answers_in number (place_of c chosen) h.transition.1.outs)
once_at_node {c} {chosen} {x} h number id given o =
    let place : ℕ = place_of c chosen in
    let new : List Answered = answers_in number place h.transition.1.outs in
    let p : Plain = h.was in
    let q : Plain = h.transition.0 in
    let split : (k : ℕ) → times k (given_at id (given ++ new)) ≡ times k (given_at id given) + times k (given_at id new) = λ k. ap (times k) (given_more id given new) ∙ times_append k (given_at id given) (given_at id new) in
    let G : NodesGrow c.nodes x.0.nodes = grow_at_node h in
    let absent : node_at x.0.nodes id ≡ None → (k : ℕ) → times k (given_at id (given ++ new)) ≤ 0 = λ n k.
    let ne : place ≢ id = λ e. let P : ℕ → Type 0 = λ j. node_at x.0.nodes j ≡ Some q in nothing (node_at x.0.nodes id) n (subst P e (now_at h)) in
    let e : times k (given_at id new) ≡ 0 = ap (times k) (given_elsewhere number place id h.transition.1.outs ne) ∙ times_nil k in
    omega (arith, split k, e, o.absent (gone c.nodes x.0.nodes id G n) k)
    in
    ⊎_elim
    (λ (e : id ≡ place).
    let P : ℕ → Type 0 = λ j. node_at c.nodes j ≡ Some p in
    let was : node_at c.nodes id ≡ Some p = subst P (sym e) h.at in
    let Q : ℕ → Type 0 = λ j. given_at j new ≡ given_in h.transition.1.outs in
    let mine : (k : ℕ) → times k (given_at id new) ≡ times k (given_in h.transition.1.outs) = λ k. ap (times k) (subst Q (sym e) (given_here number place h.transition.1.outs)) in
    let now : (r : Plain) → node_at x.0.nodes id ≡ Some r → q ≡ r = λ r at. let R : ℕ → Type 0 = λ j. node_at x.0.nodes j ≡ Some r in some_same (node_at x.0.nodes place) (now_at h) (subst R e at) in
    let more : (k : ℕ) → (times k (given_at id (given ++ new)) + times k (open_of q) ≤ 1) × (q.last_ticket < k → times k (given_at id (given ++ new)) + times k (open_of q) ≤ 0) = λ k.
    ⊎_elim
    (λ (cl : Closes (open_of p) h.transition).
    (omega (arith, split k, mine k, cl.at k, o.there p was k), λ lt. omega (arith, split k, mine k, cl.at k, o.below p was k (omega (arith, lt, tickets_rise h)))))
    (λ (cl : Closes (open_of p ++ (p.last_ticket + 1) ∷ []) h.transition × (q.last_ticket ≡ p.last_ticket + 1)).
    let sum : times k (open_of p ++ (p.last_ticket + 1) ∷ []) ≡ times k (open_of p) + (cond (p.last_ticket + 1 == k) 1 0 + 0) = times_append k (open_of p) ((p.last_ticket + 1) ∷ []) ∙ ap (λ n. times k (open_of p) + n) (times_cons k (p.last_ticket + 1) [] ∙ ap (λ n. cond (p.last_ticket + 1 == k) 1 0 + n) (times_nil k)) in
    let at : times k (given_in h.transition.1.outs) + times k (open_of q) ≤ times k (open_of p ++ (p.last_ticket + 1) ∷ []) = cl.0.at k in
    ⊎_elim
    (λ (same : p.last_ticket + 1 ≡ k).
    let one : cond (p.last_ticket + 1 == k) 1 0 ≤ 1 = at_most_one (p.last_ticket + 1 == k) in
    (omega (arith, split k, mine k, at, sum, one, o.below p was k (omega (arith, same))), λ lt. absurd (omega (arith, lt, same, cl.1))))
    (λ (ne : p.last_ticket + 1 ≢ k).
    let C : ℕ = cond (p.last_ticket + 1 == k) 1 0 in
    let zero : C ≡ 0 = cond-false (p.last_ticket + 1 == k) 1 0 (ne_eqb (p.last_ticket + 1) k ne) in
    (omega (arith, split k, mine k, at, sum, zero, o.there p was k), λ lt. omega (arith, split k, mine k, at, sum, zero, o.below p was k (omega (arith, lt, cl.1)))))
    (cases_eq (p.last_ticket + 1) k))
    (closes p h.event h.transition h.does)
    in
    record {
      there = λ r at k. let R : Plain → Type 0 = λ r. times k (given_at id (given ++ new)) + times k (open_of r) ≤ 1 in subst R (now r at) (more k).0;
      below = λ r at k. let R : Plain → Type 0 = λ r. r.last_ticket < k → times k (given_at id (given ++ new)) + times k (open_of r) ≤ 0 in subst R (now r at) (more k).1;
      absent = absent;
    })
    (λ (ne : id ≢ place).
    let none : (k : ℕ) → times k (given_at id new) ≡ 0 = λ k. ap (times k) (given_elsewhere number place id h.transition.1.outs (λ e. ne (sym e))) ∙ times_nil k in
    let old : (r : Plain) → node_at x.0.nodes id ≡ Some r → node_at c.nodes id ≡ Some r = λ r at. sym (others_stay h id ne) ∙ at in
    record {
      there = λ r at k. omega (arith, split k, none k, o.there r (old r at) k);
      below = λ r at k lt. omega (arith, split k, none k, o.below r (old r at) k lt);
      absent = absent;
    })
    (cases_eq id place)
  where
    nothing : {A : Type 0} {y : A} (o : Option A) → o ≡ None → o ≡ Some y → ⊥
    nothing o n s = cc

    at_most_one : (b : Bool) → cond b 1 0 ≤ 1
    at_most_one true = omega arith
    at_most_one false = omega arith

pub once_at_master : {c : Chain} {chosen : Move} {x : Progress} (m : AtMaster c chosen x) (id : ℕ) (given : List Answered) → Once c.nodes id given → Once x.0.nodes id given
once_at_master {c} {chosen} {x} m id given o =
    let node : (p : Plain) → node_at x.0.nodes id ≡ Some p → (node_at c.nodes id ≡ Some p) ⊎ ((node_at c.nodes id ≡ None) × (open_of p ≡ [])) = λ p at.
    ⊎_elim
    (λ e. inl (sym (ap (λ l. node_at l id) e) ∙ at))
    (λ (more : OneMore c.nodes x.0.nodes). ⊎_elim
    (λ old. inl old)
    (λ (new : (opening_joined (record { chain = more.chain; node = more.new }) ≡ p) × (more.new ≡ id)).
    let P : ℕ → Type 0 = λ j. node_at c.nodes j ≡ None in inr (subst P new.1 more.fresh, sym (ap open_of new.0)))
    (node_pushed c.nodes (opening_joined (record { chain = more.chain; node = more.new })) id p (sym (ap (λ l. node_at l id) more.is) ∙ at)))
    m.nodes
    in
    let none : (p : Plain) → (k : ℕ) → (node_at c.nodes id ≡ None) × (open_of p ≡ []) → times k (given_at id given) + times k (open_of p) ≤ 0 = λ p k n.
    let empty : times k (open_of p) ≡ 0 = ap (times k) n.1 ∙ times_nil k in omega (arith, empty, o.absent n.0 k)
    in
    record {
      there = λ p at k. ⊎_elim (λ old. o.there p old k) (λ (n : (node_at c.nodes id ≡ None) × (open_of p ≡ [])). omega (arith, none p k n)) (node p at);
      below = λ p at k lt. ⊎_elim (λ old. o.below p old k lt) (λ (n : (node_at c.nodes id ≡ None) × (open_of p ≡ [])). none p k n) (node p at);
      absent = λ n k. o.absent (gone c.nodes x.0.nodes id (grow_at_master m) n) k;
    }

-- ---- so no name occurs twice

one_at_most : (nodes : List Plain) (id : ℕ) (given : List Answered) → Once nodes id given → (k : ℕ) → times k (given_at id given) ≤ 1
one_at_most nodes id given o k = by (node_at nodes id) refl
  where
    by : (n : Option Plain) → node_at nodes id ≡ n → times k (given_at id given) ≤ 1
    by None e = omega (arith, o.absent e k)
    by (Some p) e = omega (arith, o.there p e k)

first_times : (x : Answered) (xs : List Answered) (id k : ℕ) → times k (given_at id (x ∷ xs)) ≡ cond (x.node == id) (cond (x.ticket == k) 1 0) 0 + times k (given_at id xs)
unfolding given_at times
first_times x xs id k =
    let rest : List Answered = filter (λ (x : Answered). x.node == id) xs in
    cond_both (x.node == id) (x ∷ rest) rest (λ (l : List Answered). times k (map (λ (x : Answered). x.ticket) l) ≡ cond (x.node == id) (cond (x.ticket == k) 1 0) 0 + times k (map (λ (x : Answered). x.ticket) rest))
    (λ e. let c : ℕ = cond (x.ticket == k) 1 0 in let one : cond (x.node == id) c 0 ≡ c = cond-true (x.node == id) c 0 e in omega (arith, one))
    (λ e. let c : ℕ = cond (x.ticket == k) 1 0 in let none : cond (x.node == id) c 0 ≡ 0 = cond-false (x.node == id) c 0 e in omega (arith, none))

others : (x : Answered) (ys : List Answered) → times x.ticket (given_at x.node ys) ≤ 0 → AllByRecursion (λ (y : Answered). same_name x y ≡ false) ys
others x [] h = tt
others x (y ∷ ys) h =
    let sum : _ = first_times y ys x.node x.ticket in (
      false_from_ne_true (same_name x y) (λ e.
          let p : ((x.node == y.node) ≡ true) × ((x.ticket == y.ticket) ≡ true) = and_parts (x.node == y.node) (x.ticket == y.ticket) e in
          let node : (y.node == x.node) ≡ true = eq-eqb y.node x.node (sym (eqb-true x.node y.node p.0)) in
          let ticket : (y.ticket == x.ticket) ≡ true = eq-eqb y.ticket x.ticket (sym (eqb-true x.ticket y.ticket p.1)) in
          let inner : ℕ = cond (y.ticket == x.ticket) 1 0 in
          let a : cond (y.node == x.node) inner 0 ≡ inner = cond-true (y.node == x.node) inner 0 node in
          let b : inner ≡ 1 = cond-true (y.ticket == x.ticket) 1 0 ticket in
          omega (arith, sum, h, a, b)),
      others x ys (omega (arith, sum, h)),
    )

pub no_name_twice : (xs : List Answered) → ((id k : ℕ) → times k (given_at id xs) ≤ 1) → IsDistinct same_name xs
unfolding IsDistinct
no_name_twice [] h = tt
no_name_twice (x ∷ xs) h =
    let sum : _ = first_times x xs x.node x.ticket in
    let inner : ℕ = cond (x.ticket == x.ticket) 1 0 in
    let a : cond (x.node == x.node) inner 0 ≡ inner = cond-true (x.node == x.node) inner 0 (eq-eqb x.node x.node refl) in
    let b : inner ≡ 1 = cond-true (x.ticket == x.ticket) 1 0 (eq-eqb x.ticket x.ticket refl) in
    (others x xs (omega (arith, sum, a, b, h x.node x.ticket)), no_name_twice xs (λ id k. omega (arith, first_times x xs id k, h id k)))

pub distinct_filter : {A : Type 0} (same : A → A → Bool) (test : A → Bool) (xs : List A) → IsDistinct same xs → IsDistinct same (filter test xs)
unfolding IsDistinct
distinct_filter same test [] d = tt
distinct_filter {A} same test (x ∷ xs) d =
    cond_both (test x) (x ∷ filter test xs) (filter test xs) (λ (l : List A). IsDistinct same l)
    (λ e. (all_filter (λ y. same x y ≡ false) test xs d.0, distinct_filter same test xs d.1))
    (λ e. distinct_filter same test xs d.1)

pub all_once : (nodes : List Plain) (given : List Answered) → ((id : ℕ) → Once nodes id given) → (id k : ℕ) → times k (given_at id given) ≤ 1
all_once nodes given o id k = one_at_most nodes id given (o id) k
