-- An unready member becomes ready in a round of two hops, if its predecessor is ready.
use Rattle.std.proofs.Common.{◌≡◌, ℕ, zero, suc, ◌+◌, ◌<◌, ◌≤◌, max, nat_le, nat_lt, cond, List, [], ◌∷◌, ◌++◌, map, length, append-nil, Some, refl, ap, sym, subst, ◌∙◌, arith}
use Rattle.std.proofs.lemmas.Bool.{cond_both, leb-false, ltb-true, ltb-false}
use Rattle.std.proofs.lemmas.List.{length-append, map-append}
use Rattle.std.specs.List.{flat_map, range_with_len}
use Rattle.std.specs.Slice.Iter.{chunk_count}
use Rattle.craq_commands.specs.declared.entry.Entry.{Entry}
use Rattle.craq_commands.specs.declared.state.State.{State}
use Rattle.craq_laws.proofs.Parts.{runs_joined}
use Rattle.craq_model.specs.declared.message.Body.{Body}
use Rattle.craq_model.specs.declared.message.Body.TheVariants as bodies
use Rattle.craq_model.specs.declared.message.LinkMessage.{LinkMessage}
use Rattle.craq_model.specs.declared.message.StatePart.{StatePart}
use Rattle.craq_model.specs.Deliveries.{fill_bodies}
use Rattle.craq_model.specs.Members.{predecessor_in}
use Rattle.craq_model.specs.Parts.{item_count, part_count, part_of, parts_of}
use Rattle.craq_model.specs.Plain.{Plain, clean, entries_after, id_of, length_of}
use Rattle.craq_model.specs.Sends.{catch_up, copy_bodies, entry_bodies, run_body, runs_of, send, send_all}
use Rattle.craq_refinement.specs.Follows.{IsPlaced}
use Rattle.craq_refinement.proofs.Lists.{placed_back}
use Rattle.craq_runs.specs.Chain.{Chain, sent_in}
use Rattle.craq_recovery.proofs.Blocks.{Conveys, conveys_both, conveys_more, conveys_none}
use Rattle.craq_recovery.proofs.Entries.{HoldsSo, placed_front}
use Rattle.craq_recovery.proofs.Extending.{IsReachedBy, reached_move}
use Rattle.craq_recovery.proofs.Meeting.{Begins, Holds, IsFrom, Takes, all_taken, none_taken, transition_copy, transition_entries, transition_floor, transition_part}
use Rattle.craq_recovery.proofs.Series.{sent_both}
use Rattle.craq_recovery.proofs.Arriving.{Stays}

pub reach_stays : (chain : ℕ) → Stays (IsReachedBy chain)
reach_stays chain = λ d m t r. reached_move chain d m t r

-- ---- the messages of a ready predecessor, one kind after the other

at_least : (n : ℕ) → 64 < n → 1 ≤ chunk_count n 64
at_least n many = omega (arith, many)

module _ (chain : ℕ) (c : Chain) (p : Plain) (to : ℕ) (before : predecessor_in c.members to ≡ Some (id_of p)) (of : p.epoch ≡ c.epoch) where
  abbrev Brought : (Plain → Type 0) → (Plain → Type 0) → List Body → Type 0
  Brought E F bs = Conveys (IsReachedBy chain) c to E F (sent_in (send_all p to bs))

  from_it : (b : Body) → IsFrom c.epoch (id_of p) to (record { chain = p.name.chain; sender = id_of p; receiver = to; stamp = 1; index = 0; epoch = p.epoch; body = b })
  from_it b = record { made = of; comes = refl; goes = refl }

  both_sent : (xs ys : List Body) → sent_in (send_all p to (xs ++ ys)) ≡ sent_in (send_all p to xs) ++ sent_in (send_all p to ys)
  both_sent xs ys = ap sent_in (map-append (send p to) xs ys) ∙ sent_both (send_all p to xs) (send_all p to ys)

  brought_both : (E G F : Plain → Type 0) (xs ys : List Body) → Brought E G xs → Brought G F ys → Brought E F (xs ++ ys)
  brought_both E G F xs ys a b =
      let P : List LinkMessage → Type 0 = λ l. Conveys (IsReachedBy chain) c to E F l in
      subst P (sym (both_sent xs ys)) (conveys_both (IsReachedBy chain) c to (sent_in (send_all p to xs)) (sent_in (send_all p to ys)) E G F (reach_stays chain) a b)

  nothing_brought : (E : Plain → Type 0) → Brought E E []
  unfolding sent_in
  nothing_brought E = conveys_none (IsReachedBy chain) c to E E (λ d r f on i. i)

  runs_brought : (a : ℕ) (rs : List (List Entry)) → IsPlaced a (flat_map (λ (run : List Entry). run) rs) → Brought (Holds c.epoch a) (Holds c.epoch (a + length (flat_map (λ (run : List Entry). run) rs))) (map run_body rs)
  unfolding sent_in
  runs_brought a [] placed = let same : a ≡ a + 0 = omega arith in let P : ℕ → Type 0 = λ n. Conveys (IsReachedBy chain) c to (Holds c.epoch a) (Holds c.epoch n) [] in subst P same (conveys_none (IsReachedBy chain) c to (Holds c.epoch a) (Holds c.epoch a) (λ d r f on i. i))
  runs_brought a (r ∷ rs) placed =
      let rest : List Entry = flat_map (λ (run : List Entry). run) rs in
      let ends : (a + length r) + length rest ≡ a + length (r ++ rest) = omega (arith, length-append r rest) in
      let P : ℕ → Type 0 = λ n. Conveys (IsReachedBy chain) c to (Holds c.epoch a) (Holds c.epoch n) (sent_in (send_all p to (map run_body (r ∷ rs)))) in
      let m : LinkMessage = record { chain = p.name.chain; sender = id_of p; receiver = to; stamp = 1; index = 0; epoch = p.epoch; body = run_body r } in
      subst P ends
      (conveys_more (IsReachedBy chain) c to m (sent_in (send_all p to (map run_body rs))) (Holds c.epoch a) (Holds c.epoch (a + length r)) (Holds c.epoch ((a + length r) + length rest)) (reach_stays chain) refl
      (transition_entries chain c (id_of p) to a r m before (from_it (run_body r)) refl (placed_front a r rest placed))
      (runs_brought (a + length r) rs (placed_back a r rest placed)))

  floor_brought : (count : ℕ) → Brought (Holds c.epoch count) (HoldsSo c.epoch count) (bodies.Floor count ∷ [])
  unfolding sent_in
  floor_brought count =
      let m : LinkMessage = record { chain = p.name.chain; sender = id_of p; receiver = to; stamp = 1; index = 0; epoch = p.epoch; body = bodies.Floor count } in
      conveys_more (IsReachedBy chain) c to m [] (Holds c.epoch count) (HoldsSo c.epoch count) (HoldsSo c.epoch count) (reach_stays chain) refl
      (transition_floor chain c (id_of p) to count m before (from_it (bodies.Floor count)) refl)
      (conveys_none (IsReachedBy chain) c to (HoldsSo c.epoch count) (HoldsSo c.epoch count) (λ d r f on i. i))

  -- if no state is sent
  weakened : (least a : ℕ) → a ≡ least → Brought (Begins c.epoch (id_of p) least p.past.acknowledged) (Holds c.epoch a) []
  unfolding sent_in
  weakened least a same =
      conveys_none (IsReachedBy chain) c to (Begins c.epoch (id_of p) least p.past.acknowledged) (Holds c.epoch a)
      (λ d r f on i. let b : Begins c.epoch (id_of p) least p.past.acknowledged i.node = i.holds in record { node = i.node; at = i.at; runs = i.runs; holds = record { late = b.late; holds = omega (arith, b.holds, same) } })

  -- the entries after a position, and the floor
  entries_brought : (a : ℕ) → IsPlaced a (entries_after p a) → a + length (entries_after p a) ≡ length_of p → Brought (Holds c.epoch a) (HoldsSo c.epoch (length_of p)) (catch_up p a)
  unfolding catch_up entry_bodies
  entries_brought a placed whole =
      let es : List Entry = entries_after p a in
      let P : List Entry → Type 0 = λ l. IsPlaced a l in
      let S : List Entry → Type 0 = λ l. Brought (Holds c.epoch a) (Holds c.epoch (a + length l)) (map run_body (runs_of es)) in
      let W : ℕ → Type 0 = λ n. Brought (Holds c.epoch a) (Holds c.epoch n) (map run_body (runs_of es)) in
      brought_both (Holds c.epoch a) (Holds c.epoch (length_of p)) (HoldsSo c.epoch (length_of p)) (map run_body (runs_of es)) (bodies.Floor (length_of p) ∷ [])
      (subst W whole (subst S (runs_joined es) (runs_brought a (runs_of es) (subst P (sym (runs_joined es)) placed))))
      (floor_brought (length_of p))

  parts_brought : (position : ℕ) (s : State) (i a n : ℕ) → a ≡ suc i → Brought (Takes c.epoch position (part_count s) i) (Takes c.epoch position (part_count s) (i + n)) (map bodies.Part (map (part_of position s) (range_with_len a n)))
  unfolding sent_in
  parts_brought position s i a zero at =
      let same : i ≡ i + 0 = omega arith in
      let T : ℕ → Plain → Type 0 = λ j. Takes c.epoch position (part_count s) j in
      let P : ℕ → Type 0 = λ j. Conveys (IsReachedBy chain) c to (T i) (T j) [] in
      subst P same (conveys_none (IsReachedBy chain) c to (T i) (T i) (λ d r f on g. g))
  parts_brought position s i a (suc n) at =
      let T : ℕ → Plain → Type 0 = λ j. Takes c.epoch position (part_count s) j in
      let part : StatePart = part_of position s a in
      let m : LinkMessage = record { chain = p.name.chain; sender = id_of p; receiver = to; stamp = 1; index = 0; epoch = p.epoch; body = bodies.Part part } in
      let rest : List LinkMessage = sent_in (send_all p to (map bodies.Part (map (part_of position s) (range_with_len (a + 1) n)))) in
      let same : suc i + n ≡ i + suc n = omega arith in
      let P : ℕ → Type 0 = λ j. Conveys (IsReachedBy chain) c to (T i) (T j) (m ∷ rest) in
      subst P same
      (conveys_more (IsReachedBy chain) c to m rest (T i) (T (suc i)) (T (suc i + n)) (reach_stays chain) refl
      (transition_part chain c (id_of p) to i part m before (from_it (bodies.Part part)) refl at)
      (parts_brought position s (suc i) (a + 1) n (omega (arith, at))))

  -- the state after a position, as a copy or in parts
  state_brought : (least position : ℕ) (s : State) → Brought (Begins c.epoch (id_of p) least position) (Holds c.epoch position) (copy_bodies position s)
  unfolding copy_bodies parts_of sent_in
  state_brought least position s =
      let E : Plain → Type 0 = Begins c.epoch (id_of p) least position in
      let F : Plain → Type 0 = Holds c.epoch position in
      let T : ℕ → Plain → Type 0 = λ j. Takes c.epoch position (part_count s) j in
      let m : LinkMessage = record { chain = p.name.chain; sender = id_of p; receiver = to; stamp = 1; index = 0; epoch = p.epoch; body = bodies.Copy position s } in
      let parts : List Body = map bodies.Part (map (part_of position s) (range_with_len 1 (part_count s))) in
      cond_both (nat_le (item_count s) 64) (bodies.Copy position s ∷ []) parts (Brought E F)
      (λ e. conveys_more (IsReachedBy chain) c to m [] E F F (reach_stays chain) refl
      (transition_copy chain c (id_of p) to least position s m before (from_it (bodies.Copy position s)) refl)
      (conveys_none (IsReachedBy chain) c to F F (λ d r f on i. i)))
      (λ e.
      let many : 64 < item_count s = leb-false (item_count s) 64 e in
      let some : 1 ≤ part_count s = at_least (item_count s) many in
      let N : ℕ → Type 0 = λ j. Brought (T 0) (T j) parts in
      let all : 0 + part_count s ≡ part_count s = omega arith in
      let first : Brought E (T 0) [] = conveys_none (IsReachedBy chain) c to E (T 0) (λ d r f on i. none_taken chain c (id_of p) to least position (part_count s) before d r f on i) in
      let last : Brought (T (part_count s)) F [] = conveys_none (IsReachedBy chain) c to (T (part_count s)) F (λ d r f on i. all_taken chain c to position (part_count s) some d r f on i) in
      let whole : parts ++ [] ≡ parts = append-nil parts in
      let W : List Body → Type 0 = λ l. Brought (T 0) F l in
      brought_both E (T 0) F [] parts first
      (subst W whole (brought_both (T 0) (T (part_count s)) F parts [] (subst N all (parts_brought position s 0 1 (part_count s) refl)) last)))

  -- all messages sent in reply to a node of this number of entries
  pub fill_brought : (least : ℕ) → IsPlaced (max least p.past.acknowledged) (entries_after p (max least p.past.acknowledged))
      → max least p.past.acknowledged + length (entries_after p (max least p.past.acknowledged)) ≡ length_of p
      → Brought (Begins c.epoch (id_of p) least p.past.acknowledged) (HoldsSo c.epoch (length_of p)) (fill_bodies p least)
  unfolding fill_bodies
  fill_brought least placed whole =
      let a : ℕ = max least p.past.acknowledged in
      let E : Plain → Type 0 = Begins c.epoch (id_of p) least p.past.acknowledged in
      let copies : List Body = cond (nat_lt least p.past.acknowledged) (copy_bodies p.past.acknowledged (clean p)) [] in
      let first : Brought E (Holds c.epoch a) copies =
      cond_both (nat_lt least p.past.acknowledged) (copy_bodies p.past.acknowledged (clean p)) [] (Brought E (Holds c.epoch a))
      (λ e. let lt : least < p.past.acknowledged = ltb-true least p.past.acknowledged e in let same : p.past.acknowledged ≡ a = omega (arith, lt) in
      let S : ℕ → Type 0 = λ n. Brought E (Holds c.epoch n) (copy_bodies p.past.acknowledged (clean p)) in
      subst S same (state_brought least p.past.acknowledged (clean p)))
      (λ e. let le : p.past.acknowledged ≤ least = ltb-false least p.past.acknowledged e in let same : a ≡ least = omega (arith, le) in
      weakened least a same) in
      brought_both E (Holds c.epoch a) (HoldsSo c.epoch (length_of p)) copies (catch_up p a) first (entries_brought a placed whole)
