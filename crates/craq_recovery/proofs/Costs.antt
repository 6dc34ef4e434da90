-- The cost of the messages that a node sends: one each, and more for those that cause many replies.
use Rattle.std.proofs.Common.{◌≡◌, ℕ, zero, suc, ◌+◌, ◌-◌, ◌*◌, ◌≤◌, ◌==◌, nat_le, nat_lt, max, Bool, true, cond, List, [], ◌∷◌, ◌++◌, map, length, take, drop, Option, Some, None, refl, ap, sym, subst, arith, length-drop}
use Rattle.std.proofs.lemmas.Bool.{cond_both, and_from, le-leb, leb-true}
use Rattle.std.proofs.lemmas.List.{length-take}
use Rattle.std.specs.List.{AllByRecursion, range_with_len}
use Rattle.std.specs.Slice.Iter.{chunk_count}
use Rattle.craq_names.specs.Limits.{greatest_count, part_limit}
use Rattle.craq_names.proofs.Lists.{all_append}
use Rattle.craq_commands.specs.declared.entry.Entry.{Entry}
use Rattle.craq_commands.specs.declared.state.State.{State}
use Rattle.craq_model.specs.declared.message.Body.{Body}
use Rattle.craq_model.specs.declared.message.Body.TheVariants as bodies
use Rattle.craq_model.specs.declared.message.LinkMessage.{LinkMessage}
use Rattle.craq_model.specs.declared.step.Out.{Out}
use Rattle.craq_model.specs.declared.waiting.WaitingRead.{WaitingRead}
use Rattle.craq_model.specs.Deliveries.{fill_bodies}
use Rattle.craq_model.specs.Members.{last_of}
use Rattle.craq_model.specs.Node.{counts_fit, out_fits}
use Rattle.craq_model.specs.Parts.{item_count, part_count, part_of, parts_of}
use Rattle.craq_model.specs.Plain.{Plain, clean, entries_after, is_last, length_of, newest, predecessor, successor}
use Rattle.craq_model.specs.Sends.{catch_up, copy_bodies, entry_bodies, queries, ready_sends, run_body, runs_of, send, send_all, tick_sends, to_neighbour, unready_sends}
use Rattle.craq_model.specs.Settle.{Given, answer_outs}
use Rattle.craq_runs.specs.Chain.{sent_in}
use Rattle.craq_recovery.proofs.Items.{clean_items}
use Rattle.craq_recovery.proofs.Series.{sent_both}

-- ---- the cost of messages, if a message that causes many replies causes at most s

abbrev pub cost : ℕ → Body → ℕ
cost s (bodies.Config members) = suc s
cost s (bodies.Entry e) = 1
cost s (bodies.Batch es) = suc (length es - 16)
cost s (bodies.Part part) = 1
cost s (bodies.Ack position) = 1
cost s (bodies.Query ticket key) = 1
cost s (bodies.VersionIs ticket version) = 1
cost s (bodies.Blank count) = suc s
cost s (bodies.Copy position state) = 1
cost s (bodies.Floor count) = 1

abbrev pub cost_all : ℕ → List LinkMessage → ℕ
cost_all s [] = 0
cost_all s (m ∷ ms) = cost s m.body + cost_all s ms

abbrev pub cost_bodies : ℕ → List Body → ℕ
cost_bodies s [] = 0
cost_bodies s (b ∷ bs) = cost s b + cost_bodies s bs

-- no message is free
pub some_cost : (s : ℕ) (b : Body) → 1 ≤ cost s b
some_cost s (bodies.Config members) = omega arith
some_cost s (bodies.Entry e) = omega arith
some_cost s (bodies.Batch es) = omega arith
some_cost s (bodies.Part part) = omega arith
some_cost s (bodies.Ack position) = omega arith
some_cost s (bodies.Query ticket key) = omega arith
some_cost s (bodies.VersionIs ticket version) = omega arith
some_cost s (bodies.Blank count) = omega arith
some_cost s (bodies.Copy position state) = omega arith
some_cost s (bodies.Floor count) = omega arith

pub length_cost : (s : ℕ) (ms : List LinkMessage) → length ms ≤ cost_all s ms
length_cost s [] = omega arith
length_cost s (m ∷ ms) = omega (arith, some_cost s m.body, length_cost s ms)

pub cost_both : (s : ℕ) (xs ys : List LinkMessage) → cost_all s (xs ++ ys) ≡ cost_all s xs + cost_all s ys
cost_both s [] ys = omega arith
cost_both s (x ∷ xs) ys = omega (arith, cost_both s xs ys)

bodies_both : (s : ℕ) (xs ys : List Body) → cost_bodies s (xs ++ ys) ≡ cost_bodies s xs + cost_bodies s ys
bodies_both s [] ys = omega arith
bodies_both s (x ∷ xs) ys = omega (arith, bodies_both s xs ys)

-- ---- the messages cost at most this, and their counts fit

abbrev pub Fits : Out → Type 0
Fits o = out_fits o ≡ true

abbrev BodyFits : Body → Type 0
BodyFits b = counts_fit b ≡ true

pub record Costs (s n : ℕ) (os : List Out) : Type 0 where
  pub costs : cost_all s (sent_in os) ≤ n
  pub fits : AllByRecursion Fits os

record BodiesCost (s n : ℕ) (bs : List Body) : Type 0 where
  costs : cost_bodies s bs ≤ n
  fits : AllByRecursion BodyFits bs

pub costs_none : (s : ℕ) → Costs s 0 []
unfolding sent_in
costs_none s = record { costs = omega arith; fits = tt }

pub costs_more : {s n k : ℕ} {os : List Out} → Costs s n os → n ≤ k → Costs s k os
costs_more c le = record { costs = omega (arith, le, c.costs); fits = c.fits }

pub costs_both : {s a b : ℕ} {os ps : List Out} → Costs s a os → Costs s b ps → Costs s (a + b) (os ++ ps)
costs_both {s} {a} {b} {os} {ps} x y = record {
  costs = omega (arith, ap (cost_all s) (sent_both os ps), cost_both s (sent_in os) (sent_in ps), x.costs, y.costs);
  fits = all_append Fits os ps x.fits y.fits;
}

pub costs_answers : (s : ℕ) (gs : List Given) → Costs s 0 (answer_outs gs)
unfolding sent_in
costs_answers s [] = record { costs = omega arith; fits = tt }
costs_answers s (g ∷ gs) = let r : Costs s 0 (answer_outs gs) = costs_answers s gs in record { costs = r.costs; fits = (refl, r.fits) }

bodies_more : {s a b : ℕ} {xs ys : List Body} → BodiesCost s a xs → BodiesCost s b ys → BodiesCost s (a + b) (xs ++ ys)
bodies_more {s} {a} {b} {xs} {ys} x y = record { costs = omega (arith, bodies_both s xs ys, x.costs, y.costs); fits = all_append BodyFits xs ys x.fits y.fits }

bodies_at_most : {s n k : ℕ} {bs : List Body} → BodiesCost s n bs → n ≤ k → BodiesCost s k bs
bodies_at_most c le = record { costs = omega (arith, le, c.costs); fits = c.fits }

all_cost : (s : ℕ) (p : Plain) (to : ℕ) (bs : List Body) → cost_all s (sent_in (send_all p to bs)) ≡ cost_bodies s bs
unfolding sent_in
all_cost s p to [] = refl
all_cost s p to (b ∷ bs) = ap (λ n. cost s b + n) (all_cost s p to bs)

all_fit : (p : Plain) (to : ℕ) (bs : List Body) → AllByRecursion BodyFits bs → AllByRecursion Fits (send_all p to bs)
all_fit p to [] a = tt
all_fit p to (b ∷ bs) a = (a.0, all_fit p to bs a.1)

costs_all : {s n : ℕ} {bs : List Body} (p : Plain) (to : ℕ) → BodiesCost s n bs → Costs s n (send_all p to bs)
costs_all {s} {n} {bs} p to c = record { costs = omega (arith, all_cost s p to bs, c.costs); fits = all_fit p to bs c.fits }

pub costs_one : (s : ℕ) (p : Plain) (to : ℕ) (b : Body) → counts_fit b ≡ true → Costs s (cost s b) (send p to b ∷ [])
unfolding sent_in
costs_one s p to b fits = record { costs = omega arith; fits = (fits, tt) }

pub costs_neighbour : {s n : ℕ} (o : Option ℕ) (sends : ℕ → List Out) → ((to : ℕ) → Costs s n (sends to)) → Costs s n (to_neighbour o sends)
costs_neighbour {s} {n} None sends c = costs_more (costs_none s) (omega arith)
costs_neighbour (Some to) sends c = c to

-- ---- entries

run_fits : (es : List Entry) → counts_fit (run_body es) ≡ true
run_fits [] = refl
run_fits (e ∷ []) = refl
run_fits (e ∷ f ∷ es) = refl

run_cost : (s : ℕ) (es : List Entry) → length es ≤ 16 → cost s (run_body es) ≡ 1
run_cost s [] few = refl
run_cost s (e ∷ []) few = refl
run_cost s (e ∷ f ∷ es) few = omega (arith, few)

runs_cost : (s : ℕ) (piece : ℕ → List Entry) → ((i : ℕ) → length (piece i) ≤ 16) → (a n : ℕ) → BodiesCost s n (map run_body (map piece (range_with_len a n)))
runs_cost s piece few a zero = record { costs = omega arith; fits = tt }
runs_cost s piece few a (suc n) =
    let r : BodiesCost s n (map run_body (map piece (range_with_len (a + 1) n))) = runs_cost s piece few (a + 1) n in
    record { costs = omega (arith, run_cost s (piece a) (few a), r.costs); fits = (run_fits (piece a), r.fits) }

run_length : (es : List Entry) (i : ℕ) → length (take 16 (drop (16 * i) es)) ≤ 16
run_length es i = omega (arith, length-take 16 (drop (16 * i) es))

entries_cost : (s : ℕ) (es : List Entry) → BodiesCost s (chunk_count (length es) 16) (entry_bodies es)
unfolding entry_bodies runs_of
entries_cost s es = runs_cost s (λ i. take 16 (drop (16 * i) es)) (run_length es) 0 (chunk_count (length es) 16)

few_runs : (n : ℕ) → chunk_count n 16 ≤ n
few_runs n = omega arith

-- a batch is passed on at its own cost
pub runs_of_batch : (n k : ℕ) → n ≤ k → chunk_count n 16 ≤ suc (k - 16)
runs_of_batch n k le = omega (arith, le)

pub passed_cost : (s : ℕ) (p : Plain) (es : List Entry) → Costs s (chunk_count (length es) 16) (to_neighbour (successor p) (λ to. send_all p to (entry_bodies es)))
passed_cost s p es = costs_neighbour (successor p) (λ to. send_all p to (entry_bodies es)) (λ to. costs_all p to (entries_cost s es))

after_few : (p : Plain) (position : ℕ) → length (entries_after p position) ≤ length_of p
unfolding entries_after
after_few p position = omega (arith, length-drop (position - p.past.base) p.past.entries)

catch_up_cost : (s : ℕ) (p : Plain) (position : ℕ) → BodiesCost s (length_of p + 1) (catch_up p position)
unfolding catch_up
catch_up_cost s p position =
    let es : List Entry = entries_after p position in
    let floor : BodiesCost s 1 (bodies.Floor (length_of p) ∷ []) = record { costs = omega arith; fits = (refl, tt) } in
    bodies_at_most (bodies_more (entries_cost s es) floor) (omega (arith, few_runs (length es), after_few p position))

-- ---- states

parts_cost : (s position : ℕ) (state : State) → part_count state ≤ greatest_count → (a n : ℕ) → BodiesCost s n (map bodies.Part (map (part_of position state) (range_with_len a n)))
parts_cost s position state few a zero = record { costs = omega arith; fits = tt }
parts_cost s position state few a (suc n) =
    let r : BodiesCost s n (map bodies.Part (map (part_of position state) (range_with_len (a + 1) n))) = parts_cost s position state few (a + 1) n in
    record { costs = omega (arith, r.costs); fits = (le-leb (part_count state) greatest_count few, r.fits) }

few_parts : (n : ℕ) → chunk_count n 64 ≤ n
few_parts n = omega arith

copy_cost : (s position : ℕ) (state : State) → item_count state ≤ greatest_count → BodiesCost s (item_count state + 1) (copy_bodies position state)
unfolding copy_bodies parts_of
copy_cost s position state few =
    let count : part_count state ≤ item_count state = few_parts (item_count state) in
    let parts : List Body = map bodies.Part (map (part_of position state) (range_with_len 1 (part_count state))) in
    cond_both (nat_le (item_count state) part_limit) (bodies.Copy position state ∷ []) parts (BodiesCost s (item_count state + 1))
    (λ e.
    let small : item_count state ≤ 64 = leb-true (item_count state) part_limit e in
    let objects : nat_le (length state.objects) greatest_count ≡ true = le-leb (length state.objects) greatest_count (omega (arith, small)) in
    let kept : nat_le (length state.kept) greatest_count ≡ true = le-leb (length state.kept) greatest_count (omega (arith, small)) in
    record { costs = omega arith; fits = (and_from (nat_le (length state.objects) greatest_count) (nat_le (length state.kept) greatest_count) objects kept, tt) })
    (λ e. bodies_at_most (parts_cost s position state (omega (arith, count, few)) 1 (part_count state)) (omega (arith, count)))

-- ---- a node within bounds

pub record Within (e i r : ℕ) (p : Plain) : Type 0 where
  pub entries : length_of p ≤ e
  pub items : item_count (newest p) ≤ i
  pub reads : length p.waiting_reads ≤ r

abbrev pub top : ℕ → ℕ → ℕ → ℕ
top e i r = e + i + r + 2

queries_cost : (s : ℕ) (p : Plain) (rs : List WaitingRead) → Costs s (length rs) (map (λ (r : WaitingRead). send p (last_of p.members) (bodies.Query r.ticket r.key)) rs)
unfolding sent_in
queries_cost s p [] = record { costs = omega arith; fits = tt }
queries_cost s p (r ∷ rs) =
    let more : Costs s (length rs) (map (λ (r : WaitingRead). send p (last_of p.members) (bodies.Query r.ticket r.key)) rs) = queries_cost s p rs in
    record { costs = omega (arith, more.costs); fits = (refl, more.fits) }

module _ (e i r : ℕ) (small : top e i r ≤ greatest_count) where
  ready_cost : (p : Plain) → Within e i r p → Costs (top e i r) (top e i r) (ready_sends p)
  unfolding ready_sends
  ready_cost p w =
      let s : ℕ = top e i r in
      let first : Costs s (length_of p + 1) (to_neighbour (successor p) (λ to. send_all p to (catch_up p p.past.acknowledged))) =
      costs_neighbour (successor p) (λ to. send_all p to (catch_up p p.past.acknowledged)) (λ to. costs_all p to (catch_up_cost s p p.past.acknowledged)) in
      let second : Costs s 1 (to_neighbour (predecessor p) (λ to. send p to (bodies.Ack p.past.acknowledged) ∷ [])) =
      costs_neighbour (predecessor p) (λ to. send p to (bodies.Ack p.past.acknowledged) ∷ []) (λ to. costs_one s p to (bodies.Ack p.past.acknowledged) refl) in
      let third : Costs s (length p.waiting_reads) (cond (is_last p) [] (queries p)) =
      cond_both (is_last p) [] (queries p) (Costs s (length p.waiting_reads)) (λ h. costs_more (costs_none s) (omega arith)) (λ h. queries_cost s p p.waiting_reads) in
      costs_more (costs_both (costs_both first second) third) (omega (arith, w.entries, w.reads))

  unready_cost : (p : Plain) → Costs (top e i r) (suc (top e i r)) (unready_sends p)
  unfolding unready_sends
  unready_cost p = costs_neighbour (predecessor p) (λ to. send p to (bodies.Blank (length_of p)) ∷ []) (λ to. costs_one (top e i r) p to (bodies.Blank (length_of p)) refl)

  pub tick_cost : (p : Plain) → Within e i r p → Costs (top e i r) (suc (top e i r)) (tick_sends p)
  unfolding tick_sends
  tick_cost p w =
      let s : ℕ = top e i r in
      cond_both (p.epoch == 0) [] (cond p.ready (ready_sends p) (unready_sends p)) (Costs s (suc s))
      (λ h. costs_more (costs_none s) (omega arith))
      (λ h. cond_both p.ready (ready_sends p) (unready_sends p) (Costs s (suc s)) (λ k. costs_more (ready_cost p w) (omega arith)) (λ k. unready_cost p))

  pub ready_tick_cost : (p : Plain) → Within e i r p → p.ready ≡ true → Costs (top e i r) (top e i r) (tick_sends p)
  unfolding tick_sends
  ready_tick_cost p w ready =
      let s : ℕ = top e i r in
      let R : Bool → Type 0 = λ b. Costs s s (cond (p.epoch == 0) [] (cond b (ready_sends p) (unready_sends p))) in
      subst R (sym ready) (cond_both (p.epoch == 0) [] (ready_sends p) (Costs s s) (λ h. costs_more (costs_none s) (omega arith)) (λ h. ready_cost p w))

  pub fill_cost : (p : Plain) (to count : ℕ) → Within e i r p → Costs (top e i r) (top e i r) (send_all p to (fill_bodies p count))
  unfolding fill_bodies
  fill_cost p to count w =
      let s : ℕ = top e i r in
      let items : item_count (clean p) ≤ i = omega (arith, clean_items p, w.items) in
      let first : BodiesCost s (i + 1) (cond (nat_lt count p.past.acknowledged) (copy_bodies p.past.acknowledged (clean p)) []) =
      cond_both (nat_lt count p.past.acknowledged) (copy_bodies p.past.acknowledged (clean p)) [] (BodiesCost s (i + 1))
      (λ h. bodies_at_most (copy_cost s p.past.acknowledged (clean p) (omega (arith, items, small))) (omega (arith, items)))
      (λ h. record { costs = omega arith; fits = tt }) in
      costs_all p to (bodies_at_most (bodies_more first (catch_up_cost s p (max count p.past.acknowledged))) (omega (arith, w.entries)))
