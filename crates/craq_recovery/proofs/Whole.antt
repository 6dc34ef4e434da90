-- A chain recovers if it has a ready member and no stopped one.
use Rattle.std.proofs.Common.{◌≡◌, ℕ, zero, suc, ◌+◌, ◌≤◌, ◌<◌, ◌==◌, Bool, true, false, ◌||◌, List, [], ◌∷◌, length, Option, Some, None, get_or, refl, ap, sym, subst, ◌∙◌, arith}
use Rattle.std.proofs.lemmas.Bool.{cond_both, eqb-true}
use Rattle.std.specs.List.{AllByRecursion}
use Rattle.craq_chain_invariants.specs.Invariants.{PredecessorsAreReady}
use Rattle.craq_chain_invariants.proofs.Invariants.{predecessors_are_ready}
use Rattle.craq_model.specs.Members.{first_of, is_member, last_of}
use Rattle.craq_model.specs.Plain.{Plain, id_of, length_of}
use Rattle.craq_protocol.specs.Members.{is_next}
use Rattle.craq_protocol.specs.Promises.{Before}
use Rattle.craq_protocol.proofs.Lists.{next_left, next_right}
use Rattle.craq_refinement.proofs.Members.{is_member-same, next_from_predecessor}
use Rattle.craq_laws.proofs.Nodes.{node_id}
use Rattle.craq_runs.specs.declared.run.Run.{Run}
use Rattle.craq_runs.specs.Chain.{Chain, is_running, node_at}
use Rattle.craq_runs.specs.Runs.{after_move}
use Rattle.craq_runs.specs.Typed.{IsTypedRunOf}
use Rattle.craq_recovery.specs.Recovered.{AllReady, AllRun, AreNeighbours, HasRecovered, HaveHeard, HaveNumbersForAll, HaveNumbersForAsMany, HearsAt, HoldsEntries, IsReadyAt, Knows, KnowsCommitted, NoUpdateWaits, RunsReady, ServesAt, SomeReady, after_all_rounds, after_as_many, after_round, chain_after_moves, rounds_to_recover}
use Rattle.craq_recovery.specs.Rounds.{after_moves_by, after_rounds, round}
use Rattle.craq_recovery.specs.Taken.{HaveNumbers, HaveNumbersFor}
use Rattle.craq_recovery.proofs.Answered.{Any, Below, acks_there, all_of_last, all_still, begin, finish, onward_rounds, reached_rounds, ready_rounds, tail_knows}
use Rattle.craq_recovery.proofs.Extending.{IsReachedBy, reached_here}
use Rattle.craq_recovery.proofs.Entries.{HoldsSo}
use Rattle.craq_recovery.proofs.Gains.{Gains, Later, followed_moves, later_here, later_moves}
use Rattle.craq_recovery.proofs.Heads.{Good, ready_after}
use Rattle.craq_recovery.proofs.Hearing.{heard, knows_at}
use Rattle.craq_recovery.proofs.Onward.{Onward, onward_moves}
use Rattle.craq_recovery.proofs.Readying.{Stands, all_stand, are_ready, hold_all, next_ready}
use Rattle.craq_recovery.proofs.Recovering.{serve_all}
use Rattle.craq_recovery.proofs.Tails.{good_there, reached_round}
use Rattle.craq_recovery.proofs.Taking.{round_travels}
use Rattle.craq_recovery.proofs.Travels.{NodeIs}
use Rattle.craq_recovery.proofs.Waits.{Waiting}

-- no update waits for more than the first member holds
quiet_there : (chain : ℕ) (c : Chain) (h : Plain) (ids : List ℕ) → IsReachedBy chain c → node_at c.nodes (id_of h) ≡ Some h → h.running ≡ true → first_of c.members ≡ id_of h → AllByRecursion (HearsAt c) ids
    → AllByRecursion (λ id. NodeIs c id (Waiting (Below (length_of h)) Any)) ids
quiet_there chain c h ids r at runs first hear =
    let P : Chain → Type 0 = λ d. node_at d.nodes (id_of h) ≡ Some h → first_of d.members ≡ id_of h → AllByRecursion (HearsAt d) ids → AllByRecursion (λ id. NodeIs d id (Waiting (Below (length_of h)) Any)) ids in
    subst P r.leads (λ at first hear. begin chain r.run h ids r.typed at runs first hear) at first hear

-- each member knows the membership, and the first one is ready
members_serve : (chain count : ℕ) (c : Chain) (l : List ℕ) → IsReachedBy chain c → l ≡ c.members → AllByRecursion (HearsAt c) l → IsReadyAt c (first_of l)
    → HaveNumbersForAll (suc (suc count)) c → AllByRecursion (ServesAt (after_all_rounds (suc (suc count)) c)) l
members_serve chain count c [] r is hear first numbers = tt
members_serve chain count c (m ∷ ms) reach is hear first numbers =
    let h : ℕ = suc (suc count) in
    let rounds : ℕ = length c.members in
    let c1 : Chain = after_rounds after_move h rounds c in
    let again : ℕ = length c1.members in
    let c2 : Chain = after_rounds after_move h again c1 in
    let d : Chain = after_round h c2 in
    let head : Plain = first.node in
    let kh : Knows c head = first.knows in
    let own : id_of head ≡ m = node_id c.nodes m head first.at in
    let most : ℕ = length_of head in
    let N : ℕ → Type 0 = λ j. node_at c.nodes j ≡ Some head in
    let heads : first_of c.members ≡ m = ap first_of (sym is) in
    let reach1 : IsReachedBy chain c1 = reached_rounds chain h rounds c reach in
    let reach2 : IsReachedBy chain c2 = reached_rounds chain h again c1 reach1 in
    let on1 : Onward c c1 = onward_rounds h rounds c in
    let on2 : Onward c1 c2 = onward_rounds h again c1 in
    let on3 : Onward c2 d = onward_moves (round after_move h c2) c2 (round_travels h c2) in
    let now1 : m ∷ ms ≡ c1.members = is ∙ sym on1.members in
    let now2 : m ∷ ms ≡ c2.members = now1 ∙ sym on2.members in
    let some : length (m ∷ ms) ≤ rounds = let e : length (m ∷ ms) ≡ length c.members = ap length is in omega (arith, e) in
    let stand : AllByRecursion (Stands most c1) (m ∷ ms) =
    all_stand chain count most rounds c m ms reach is some hear (record { node = head; at = first.at; knows = kh; ready = first.ready; holds = omega arith }) numbers.first in
    let mine1 : AllByRecursion (IsReadyAt c1) (m ∷ ms) = are_ready c1 most (m ∷ ms) stand in
    let held1 : AllByRecursion (λ id. HoldsEntries c1 id most) (m ∷ ms) = hold_all c1 most (m ∷ ms) stand in
    let All1 : List ℕ → Type 0 = λ l. AllByRecursion (IsReadyAt c1) l in
    let ready1 : AllReady c1 = subst All1 now1 mine1 in
    let L : List ℕ → Type 0 = λ l. IsReadyAt c1 (last_of l) in
    let T : List ℕ → Type 0 = λ l. HoldsEntries c1 (last_of l) most in
    let last_ready : IsReadyAt c1 (last_of c1.members) = subst L now1 (all_of_last (IsReadyAt c1) m ms mine1) in
    let last_holds : HoldsEntries c1 (last_of c1.members) most = subst T now1 (all_of_last (λ id. HoldsEntries c1 id most) m ms held1) in
    let g : Good c1 = good_there chain c1 reach1 in
    let knows : KnowsCommitted c1 (last_of c1.members) most = tail_knows c1 most g.followed last_ready last_holds in
    let acks : AllByRecursion (λ id. KnowsCommitted c2 id most) c1.members = acks_there chain (suc count) most c1 reach1 ready1 knows numbers.second in
    let B : List ℕ → Type 0 = λ l. AllByRecursion (λ id. KnowsCommitted c2 id most) l in
    let quiet : AllByRecursion (λ id. NodeIs c id (Waiting (Below most) Any)) (m ∷ ms) = quiet_there chain c head (m ∷ ms) reach (subst N (sym own) first.at) kh.running (heads ∙ sym own) hear in
    let none : AllByRecursion (NoUpdateWaits c2) (m ∷ ms) =
    finish chain most c2 (m ∷ ms) reach2
    (all_still chain (Below most) Any h again c1 (m ∷ ms) reach1 (all_still chain (Below most) Any h rounds c (m ∷ ms) reach quiet))
    (subst B (sym now1) acks) in
    let ready2 : AllReady c2 = ready_rounds chain h again c1 reach1 ready1 in
    let ready3 : AllReady d = ready_after h c2 (good_there chain c2 reach2) ready2 in
    let All2 : List ℕ → Type 0 = λ l. AllByRecursion (IsReadyAt c2) l in
    let mine2 : AllByRecursion (IsReadyAt c2) (m ∷ ms) = subst All2 (sym now2) ready2 in
    let L2 : List ℕ → Type 0 = λ l. IsReadyAt c2 (last_of l) in
    let Later : List ℕ → Type 0 = λ l. AllByRecursion (IsReadyAt d) l in
    serve_all chain count c2 (m ∷ ms) reach2 (subst L2 now2 (all_of_last (IsReadyAt c2) m ms mine2)) mine2 none (subst Later (sym (now2 ∙ sym on3.members)) ready3) numbers.last

-- ---- the first member is ready if some member is

open_at : (o : Option Plain) → is_running o ≡ true → (p : Plain) × (o ≡ Some p) × (p.running ≡ true)
open_at None runs = absurd (cc)
open_at (Some p) runs = (p, refl, runs)

in_rest : (a b : Bool) → a ≡ false → (a || b) ≡ true → b ≡ true
in_rest true b e h = absurd (cc)
in_rest false b e h = h

-- the place of a member
place_of : (ids : List ℕ) (id : ℕ) → is_member ids id ≡ true → (k : ℕ) × (k < length ids) × (get_or ids k 0 ≡ id)
unfolding is_member
place_of [] id h = absurd (cc)
place_of (m ∷ ms) id h =
    cond_both (m == id) true false (λ (b : Bool). (k : ℕ) × (k < length (m ∷ ms)) × (get_or (m ∷ ms) k 0 ≡ id))
    (λ e. (0, omega arith, eqb-true m id e))
    (λ e. let later : (k : ℕ) × (k < length ms) × (get_or ms k 0 ≡ id) = place_of ms id (in_rest (m == id) (is_member ms id) e h) in (suc later.0, omega (arith, later.1), later.2))

-- the first member is ready if the member at a place is
by_place : (chain : ℕ) (run : Run) (m id : ℕ) (ms : List ℕ) → IsTypedRunOf chain run → m ∷ ms ≡ (chain_after_moves chain run).members → (k : ℕ) → k < length (m ∷ ms) → get_or (m ∷ ms) k 0 ≡ id → (p q : Plain) → id_of p ≡ m → id_of q ≡ id
    → node_at (chain_after_moves chain run).nodes m ≡ Some p → node_at (chain_after_moves chain run).nodes id ≡ Some q → q.ready ≡ true → p.ready ≡ true
by_place chain run m id ms typed is zero lt e p q own_p own_q at_p at_q ready =
    let N : ℕ → Type 0 = λ j. node_at (chain_after_moves chain run).nodes j ≡ Some q in
    let there : node_at (chain_after_moves chain run).nodes m ≡ Some q = subst N (sym e) at_q in
    let same : q ≡ p = cc in
    let P : Plain → Type 0 = λ x. x.ready ≡ true in subst P same ready
by_place chain run m id ms typed is (suc k) lt e p q own_p own_q at_p at_q ready =
    let NP : ℕ → Type 0 = λ j. node_at (chain_after_moves chain run).nodes j ≡ Some p in
    let NQ : ℕ → Type 0 = λ j. node_at (chain_after_moves chain run).nodes j ≡ Some q in
    let B : List ℕ → Type 0 = λ l. Before l (id_of p) (id_of q) in
    let before : Before (m ∷ ms) (id_of p) (id_of q) = record { front = 0; back = suc k; order = omega arith; within = lt; at_front = sym own_p; at_back = e ∙ sym own_q } in
    let all : PredecessorsAreReady chain run = predecessors_are_ready chain run typed in
    all p q (subst NP (sym own_p) at_p) (subst NQ (sym own_q) at_q) (subst B is before) ready

first_ready : (chain : ℕ) (run : Run) (m : ℕ) (ms : List ℕ) → IsTypedRunOf chain run → m ∷ ms ≡ (chain_after_moves chain run).members → (p : Plain) → node_at (chain_after_moves chain run).nodes m ≡ Some p
    → SomeReady (chain_after_moves chain run) → p.ready ≡ true
first_ready chain run m ms typed is p at some =
    let c : Chain = chain_after_moves chain run in
    let r : RunsReady c some.member = some.runs_ready in
    let q : Plain = r.node in
    let own_p : id_of p ≡ m = node_id c.nodes m p at in
    let own_q : id_of q ≡ some.member = node_id c.nodes some.member q r.at in
    let M : List ℕ → Type 0 = λ l. is_member l some.member ≡ true in
    let here : is_member (m ∷ ms) some.member ≡ true = subst M (sym is) some.among in
    let place : (k : ℕ) × (k < length (m ∷ ms)) × (get_or (m ∷ ms) k 0 ≡ some.member) = place_of (m ∷ ms) some.member here in
    by_place chain run m some.member ms typed is place.0 place.1 place.2 p q own_p own_q at r.at r.ready

pub chains_recover_on : (chain : ℕ) (run : Run) (count : ℕ) → IsTypedRunOf chain run → AllRun (chain_after_moves chain run) → SomeReady (chain_after_moves chain run)
    → HaveNumbers (chain_after_moves chain run) (round after_move (suc (suc count)) (chain_after_moves chain run))
    → HaveNumbersForAll (suc (suc count)) (after_round (suc (suc count)) (chain_after_moves chain run))
    → HasRecovered (after_all_rounds (suc (suc count)) (after_round (suc (suc count)) (chain_after_moves chain run)))
chains_recover_on chain run count typed all some first rest =
    let h : ℕ = suc (suc count) in
    let c : Chain = chain_after_moves chain run in
    let d : Chain = after_round h c in
    let reach : IsReachedBy chain c = reached_here chain run typed in
    let r : IsReachedBy chain d = reached_round chain h c reach in
    let on : Onward c d = onward_moves (round after_move h c) c (round_travels h c) in
    let hear : AllByRecursion (HearsAt d) d.members = heard chain run (suc count) typed.run_of all first in
    let H : List ℕ → Type 0 = λ l. AllByRecursion (HearsAt d) l in
    let R : List ℕ → Type 0 = λ l. AllByRecursion (λ id. is_running (node_at c.nodes id) ≡ true) l in
    let S : List ℕ → Type 0 = λ l. AllByRecursion (ServesAt (after_all_rounds h d)) l in
    let e : Chain = after_all_rounds h d in
    let same : d.members ≡ e.members = all_rounds_members h d in
    let by : (l : List ℕ) → l ≡ c.members → AllByRecursion (λ id. is_running (node_at c.nodes id) ≡ true) l → AllByRecursion (HearsAt d) l → AllByRecursion (ServesAt e) l = by_list chain run count typed some rest in
    subst S (sym on.members ∙ same) (by c.members refl all (subst H on.members hear))
  where
    all_rounds_members : (h : ℕ) (c : Chain) → c.members ≡ (after_all_rounds h c).members
    all_rounds_members h c =
        let rounds : ℕ = length c.members in
        let c1 : Chain = after_rounds after_move h rounds c in
        let again : ℕ = length c1.members in
        let c2 : Chain = after_rounds after_move h again c1 in
        let on1 : Onward c c1 = onward_rounds h rounds c in
        let on2 : Onward c1 c2 = onward_rounds h again c1 in
        let on3 : Onward c2 (after_round h c2) = onward_moves (round after_move h c2) c2 (round_travels h c2) in
        sym on1.members ∙ (sym on2.members ∙ sym on3.members)

    by_list : (chain : ℕ) (run : Run) (count : ℕ) → IsTypedRunOf chain run → SomeReady (chain_after_moves chain run) → HaveNumbersForAll (suc (suc count)) (after_round (suc (suc count)) (chain_after_moves chain run))
        → (l : List ℕ) → l ≡ (chain_after_moves chain run).members → AllByRecursion (λ id. is_running (node_at (chain_after_moves chain run).nodes id) ≡ true) l
        → AllByRecursion (HearsAt (after_round (suc (suc count)) (chain_after_moves chain run))) l → AllByRecursion (ServesAt (after_all_rounds (suc (suc count)) (after_round (suc (suc count)) (chain_after_moves chain run)))) l
    by_list chain run count typed some rest [] is all hear = tt
    by_list chain run count typed some rest (m ∷ ms) is all hear =
        let h : ℕ = suc (suc count) in
        let c : Chain = chain_after_moves chain run in
        let d : Chain = after_round h c in
        let reach : IsReachedBy chain c = reached_here chain run typed in
        let r : IsReachedBy chain d = reached_round chain h c reach in
        let on : Onward c d = onward_moves (round after_move h c) c (round_travels h c) in
        let o : (p : Plain) × (node_at c.nodes m ≡ Some p) × (p.running ≡ true) = open_at (node_at c.nodes m) all.0 in
        let ready : o.0.ready ≡ true = first_ready chain run m ms typed is o.0 o.1 some in
        let g : Good c = good_there chain c reach in
        let l : Later d m o.0 = later_moves (round after_move h c) c m o.0 (round_travels h c) g.followed (later_here c m o.0 o.1 o.2) in
        let gains : Gains o.0 l.node = l.gains in
        let k : HearsAt d m = hear.0 in
        let same : l.node ≡ k.0 = let x : node_at d.nodes m ≡ Some l.node = l.at in let y : node_at d.nodes m ≡ Some k.0 = k.1 in cc in
        let P : Plain → Type 0 = λ p. p.ready ≡ true in
        members_serve chain count d (m ∷ ms) r (is ∙ sym on.members) hear (record { node = k.0; at = k.1; knows = k.2; ready = subst P same (gains.ready ready) }) rest

-- ---- a number of rounds, and then more

rounds_both : (h a b : ℕ) (c : Chain) → after_rounds after_move h (a + b) c ≡ after_rounds after_move h b (after_rounds after_move h a c)
rounds_both h zero b c = let none : 0 + b ≡ b = omega arith in ap (λ n. after_rounds after_move h n c) none
rounds_both h (suc a) b c =
    let more : suc a + b ≡ suc (a + b) = omega arith in
    ap (λ n. after_rounds after_move h n c) more ∙ rounds_both h a b (after_moves_by after_move c (round after_move h c))

numbers_first : (h a b : ℕ) (c : Chain) → HaveNumbersFor h (a + b) c → HaveNumbersFor h a c × HaveNumbersFor h b (after_rounds after_move h a c)
numbers_first h zero b c has = let none : 0 + b ≡ b = omega arith in let P : ℕ → Type 0 = λ n. HaveNumbersFor h n c in (tt, subst P none has)
numbers_first h (suc a) b c has =
    let more : suc a + b ≡ suc (a + b) = omega arith in
    let P : ℕ → Type 0 = λ n. HaveNumbersFor h n c in
    let all : HaveNumbersFor h (suc (a + b)) c = subst P more has in
    let rest : HaveNumbersFor h a (after_moves_by after_move c (round after_move h c)) × HaveNumbersFor h b (after_rounds after_move h a (after_moves_by after_move c (round after_move h c))) =
    numbers_first h a b (after_moves_by after_move c (round after_move h c)) all.1 in
    ((all.0, rest.0), rest.1)

-- as many rounds as there are members, counted before and after
as_counted : (h k : ℕ) (d : Chain) → length d.members ≡ k → length (after_rounds after_move h k d).members ≡ k
    → after_round h (after_rounds after_move h k (after_rounds after_move h k d)) ≡ after_all_rounds h d
as_counted h k d many again =
    let c1 : Chain = after_rounds after_move h k d in
    let same : c1 ≡ after_as_many h d = ap (λ n. after_rounds after_move h n d) (sym many) in
    ap (λ n. after_round h (after_rounds after_move h n c1)) (sym again) ∙ ap (λ e. after_round h (after_as_many h e)) same

all_numbers : (h k : ℕ) (d : Chain) → length d.members ≡ k → length (after_rounds after_move h k d).members ≡ k → HaveNumbersFor h k d → HaveNumbersFor h k (after_rounds after_move h k d)
    → HaveNumbers (after_rounds after_move h k (after_rounds after_move h k d)) (round after_move h (after_rounds after_move h k (after_rounds after_move h k d))) → HaveNumbersForAll h d
all_numbers h k d many again first second last =
    let c1 : Chain = after_rounds after_move h k d in
    let same : c1 ≡ after_as_many h d = ap (λ n. after_rounds after_move h n d) (sym many) in
    let F : ℕ → Type 0 = λ n. HaveNumbersFor h n d in
    let S : ℕ → Type 0 = λ n. HaveNumbersFor h n c1 in
    let T : Chain → Type 0 = λ e. HaveNumbersForAsMany h e in
    let L : ℕ → Type 0 = λ n. HaveNumbers (after_rounds after_move h n c1) (round after_move h (after_rounds after_move h n c1)) in
    let M : Chain → Type 0 = λ e. HaveNumbers (after_as_many h e) (round after_move h (after_as_many h e)) in
    record { first = subst F (sym many) first; second = subst T same (subst S (sym again) second); last = subst M same (subst L (sym again) last) }

pub recover_in_rounds : (chain : ℕ) (run : Run) (count : ℕ) → IsTypedRunOf chain run → AllRun (chain_after_moves chain run) → SomeReady (chain_after_moves chain run)
    → HaveNumbersFor (suc (suc count)) (rounds_to_recover (chain_after_moves chain run)) (chain_after_moves chain run)
    → HasRecovered (after_rounds after_move (suc (suc count)) (rounds_to_recover (chain_after_moves chain run)) (chain_after_moves chain run))
recover_in_rounds chain run count typed all some numbers =
    let h : ℕ = suc (suc count) in
    let c : Chain = chain_after_moves chain run in
    let k : ℕ = length c.members in
    let d : Chain = after_round h c in
    let c1 : Chain = after_rounds after_move h k d in
    let c2 : Chain = after_rounds after_move h k c1 in
    let on : Onward c d = onward_moves (round after_move h c) c (round_travels h c) in
    let on1 : Onward d c1 = onward_rounds h k d in
    let many : length d.members ≡ k = ap length on.members in
    let again : length c1.members ≡ k = ap length on1.members ∙ many in
    let sum : rounds_to_recover c ≡ 1 + (k + (k + 1)) = omega arith in
    let N : ℕ → Type 0 = λ n. HaveNumbersFor h n c in
    let n1 : HaveNumbersFor h 1 c × HaveNumbersFor h (k + (k + 1)) d = numbers_first h 1 (k + (k + 1)) c (subst N sum numbers) in
    let n2 : HaveNumbersFor h k d × HaveNumbersFor h (k + 1) c1 = numbers_first h k (k + 1) d n1.1 in
    let n3 : HaveNumbersFor h k c1 × HaveNumbersFor h 1 c2 = numbers_first h k 1 c1 n2.1 in
    let last : after_rounds after_move h (rounds_to_recover c) c ≡ after_round h c2 =
    ap (λ n. after_rounds after_move h n c) sum ∙ (rounds_both h 1 (k + (k + 1)) c ∙ (rounds_both h k (k + 1) d ∙ rounds_both h k 1 c1)) in
    let recovered : HasRecovered (after_all_rounds h d) = chains_recover_on chain run count typed all some n1.0.0 (all_numbers h k d many again n2.0 n3.0 n3.1.0) in
    let R : Chain → Type 0 = λ e. HasRecovered e in
    subst R (sym (last ∙ as_counted h k d many again)) recovered

-- ---- the parts, as separate laws

pub joined_ready : (chain : ℕ) (run : Run) (count : ℕ) (p q : Plain) → IsTypedRunOf chain run → AreNeighbours (chain_after_moves chain run) p q → p.ready ≡ true
    → HaveNumbers (chain_after_moves chain run) (round after_move (suc (suc count)) (chain_after_moves chain run))
    → IsReadyAt (after_round (suc (suc count)) (chain_after_moves chain run)) (id_of q) × HoldsEntries (after_round (suc (suc count)) (chain_after_moves chain run)) (id_of q) (length_of p)
joined_ready chain run count p q typed n ready numbers =
    let h : ℕ = suc (suc count) in
    let c : Chain = chain_after_moves chain run in
    let d : Chain = after_round h c in
    let reach : IsReachedBy chain c = reached_here chain run typed in
    let g : Good c = good_there chain c reach in
    let next : is_next c.members (id_of p) (id_of q) ≡ true = next_from_predecessor c.members (id_of q) (id_of p) n.before in
    let mp : is_member c.members (id_of p) ≡ true = is_member-same c.members (id_of p) ∙ next_left c.members (id_of p) (id_of q) next in
    let mq : is_member c.members (id_of q) ≡ true = is_member-same c.members (id_of q) ∙ next_right c.members (id_of p) (id_of q) next in
    let i : NodeIs d (id_of q) (HoldsSo c.epoch (length_of p)) = next_ready chain count c p q reach g n mp mq ready numbers in
    let s : HoldsSo c.epoch (length_of p) i.node = i.holds in (
      record { node = i.node; at = i.at; knows = knows_at c d (id_of q) (onward_moves (round after_move h c) c (round_travels h c)) (followed_moves (round after_move h c) c g.followed) (record { node = i.node; at = i.at; runs = i.runs; late = s.late }); ready = s.ready },
      record { node = i.node; at = i.at; holds = s.holds },
    )

pub all_ready : (chain : ℕ) (run : Run) (count : ℕ) → IsTypedRunOf chain run → HaveHeard (chain_after_moves chain run) → IsReadyAt (chain_after_moves chain run) (first_of (chain_after_moves chain run).members)
    → HaveNumbersForAsMany (suc (suc count)) (chain_after_moves chain run) → AllReady (after_as_many (suc (suc count)) (chain_after_moves chain run))
all_ready chain run count typed hear first numbers =
    let h : ℕ = suc (suc count) in
    let c : Chain = chain_after_moves chain run in
    let d : Chain = after_as_many h c in
    let on : Onward c d = onward_rounds h (length c.members) c in
    let R : List ℕ → Type 0 = λ l. AllByRecursion (IsReadyAt d) l in
    subst R (sym on.members) (by_list chain run count c.members typed refl hear first numbers)
  where
    by_list : (chain : ℕ) (run : Run) (count : ℕ) (l : List ℕ) → IsTypedRunOf chain run → l ≡ (chain_after_moves chain run).members → AllByRecursion (HearsAt (chain_after_moves chain run)) l → IsReadyAt (chain_after_moves chain run) (first_of l)
        → HaveNumbersForAsMany (suc (suc count)) (chain_after_moves chain run) → AllByRecursion (IsReadyAt (after_as_many (suc (suc count)) (chain_after_moves chain run))) l
    by_list chain run count [] typed is hear first numbers = tt
    by_list chain run count (m ∷ ms) typed is hear first numbers =
        let c : Chain = chain_after_moves chain run in
        let e : length (m ∷ ms) ≡ length c.members = ap length is in
        are_ready (after_as_many (suc (suc count)) c) 0 (m ∷ ms)
        (all_stand chain count 0 (length c.members) c m ms (reached_here chain run typed) is (omega (arith, e)) hear (record { node = first.node; at = first.at; knows = first.knows; ready = first.ready; holds = omega arith }) numbers)
