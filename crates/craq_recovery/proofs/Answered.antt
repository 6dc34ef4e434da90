-- No update waits once the entries of the first member are known to be committed.
use Rattle.std.proofs.Common.{◌≡◌, ◌⊎◌, inl, inr, ⊎_elim, ℕ, zero, suc, ◌<◌, ◌≤◌, true, List, [], ◌∷◌, length, Some, refl, ap, sym, subst, ◌∙◌, arith}
use Rattle.std.proofs.lemmas.Bool.{eq-eqb}
use Rattle.std.specs.Prelude.{⊤}
use Rattle.std.specs.List.{AllByRecursion}
use Rattle.craq_names.proofs.Lists.{all_each, all_like}
use Rattle.craq_commands.specs.declared.entry.Entry.{Entry}
use Rattle.craq_chain_invariants.specs.Invariants.{HistoriesAreWhole, WaitingUpdatesAreOwed}
use Rattle.craq_chain_invariants.specs.Kept.{HasReply, updates_held}
use Rattle.craq_chain_invariants.proofs.Invariants.{histories_are_whole, waiting_updates_are_owed}
use Rattle.craq_model.specs.declared.waiting.WaitingRead.{WaitingRead}
use Rattle.craq_model.specs.declared.waiting.WaitingUpdate.{WaitingUpdate}
use Rattle.craq_model.specs.Members.{first_of, last_of}
use Rattle.craq_model.specs.Plain.{Plain, id_of, length_of}
use Rattle.craq_protocol.specs.Machine.{MachineState, known_membership}
use Rattle.craq_protocol.specs.Members as protocol
use Rattle.craq_protocol.specs.Members.{is_first, is_last}
use Rattle.craq_protocol.specs.Promises.{IsPrefix}
use Rattle.craq_protocol.proofs.Invariant.{Ages, Clauses, HoldsLog, Invariant}
use Rattle.craq_protocol.proofs.Lists.{Sorted, first_lowest, sorted_same}
use Rattle.craq_protocol.proofs.Reached.{reached_inv}
use Rattle.craq_refinement.specs.Follows.{Follows, NodeFollows, seen_of}
use Rattle.craq_refinement.proofs.Members.{first_of-same, last_of-same}
use Rattle.craq_refinement.specs.Lines.{IsFollowed}
use Rattle.craq_laws.proofs.Nodes.{node_id}
use Rattle.craq_refinement.proofs.Worlds.{history_length}
use Rattle.craq_runs.specs.declared.run.Run.{Run}
use Rattle.craq_runs.specs.Chain.{Chain, node_at}
use Rattle.craq_runs.specs.Runs.{after_move}
use Rattle.craq_runs.specs.Typed.{IsTypedRunOf}
use Rattle.craq_recovery.specs.Recovered.{AllReady, HaveNumbersForAsMany, HearsAt, HoldsEntries, IsReadyAt, Knows, KnowsCommitted, NoUpdateWaits, after_as_many, chain_after_moves}
use Rattle.craq_recovery.specs.Rounds.{after_moves_by, after_rounds, round}
use Rattle.craq_recovery.specs.Taken.{HaveNumbersFor}
use Rattle.craq_recovery.proofs.Extending.{IsReachedBy, reached_here}
use Rattle.craq_recovery.proofs.Gains.{prefix_length}
use Rattle.craq_recovery.proofs.Heads.{Good, acks_reach_all, good_run, ready_after}
use Rattle.craq_recovery.proofs.Onward.{Onward, onward_moves, onward_on, onward_self}
use Rattle.craq_recovery.proofs.Tails.{HoldAll, entries_reach_all, good_there, reached_round, same_held}
use Rattle.craq_recovery.proofs.Taking.{round_travels}
use Rattle.craq_recovery.proofs.Travels.{NodeIs, lasts_on}
use Rattle.craq_recovery.proofs.Waits.{Waiting, waits_last}

-- ---- rounds

pub reached_rounds : (chain count rounds : ℕ) (c : Chain) → IsReachedBy chain c → IsReachedBy chain (after_rounds after_move count rounds c)
reached_rounds chain count zero c r = r
reached_rounds chain count (suc rounds) c r = reached_rounds chain count rounds (after_moves_by after_move c (round after_move count c)) (reached_round chain count c r)

pub ready_rounds : (chain count rounds : ℕ) (c : Chain) → IsReachedBy chain c → AllReady c → AllReady (after_rounds after_move count rounds c)
ready_rounds chain count zero c r a = a
ready_rounds chain count (suc rounds) c r a =
    ready_rounds chain count rounds (after_moves_by after_move c (round after_move count c)) (reached_round chain count c r) (ready_after count c (good_there chain c r) a)

pub onward_rounds : (count rounds : ℕ) (c : Chain) → Onward c (after_rounds after_move count rounds c)
onward_rounds count zero c = onward_self c
onward_rounds count (suc rounds) c =
    onward_on (onward_moves (round after_move count c) c (round_travels count c)) (onward_rounds count rounds (after_moves_by after_move c (round after_move count c)))

-- ---- the requests that wait at a node

still_rounds : (chain : ℕ) (P : WaitingUpdate → Type 0) (R : WaitingRead → Type 0) (count rounds : ℕ) (c : Chain) (id : ℕ) → IsReachedBy chain c → NodeIs c id (Waiting P R) → NodeIs (after_rounds after_move count rounds c) id (Waiting P R)
still_rounds chain P R count zero c id r q = q
still_rounds chain P R count (suc rounds) c id r q =
    let g : Good c = good_there chain c r in
    still_rounds chain P R count rounds (after_moves_by after_move c (round after_move count c)) id (reached_round chain count c r) (lasts_on (Waiting P R) (waits_last P R) (round after_move count c) c id (round_travels count c) g.followed q)

pub all_still : (chain : ℕ) (P : WaitingUpdate → Type 0) (R : WaitingRead → Type 0) (count rounds : ℕ) (c : Chain) (ids : List ℕ) → IsReachedBy chain c → AllByRecursion (λ id. NodeIs c id (Waiting P R)) ids
    → AllByRecursion (λ id. NodeIs (after_rounds after_move count rounds c) id (Waiting P R)) ids
all_still chain P R count rounds c [] r a = tt
all_still chain P R count rounds c (id ∷ ids) r a = (still_rounds chain P R count rounds c id r a.0, all_still chain P R count rounds c ids r a.1)

-- ---- the first member holds most

le_split : (a b : ℕ) → a ≤ b → (a < b) ⊎ (a ≡ b)
le_split zero zero h = inr refl
le_split zero (suc b) h = inl (omega arith)
le_split (suc a) zero h = absurd (omega (arith, h))
le_split (suc a) (suc b) h = ⊎_elim (λ l. inl (omega (arith, l))) (λ e. inr (ap suc e)) (le_split a b (omega (arith, h)))

pub head_holds_most : (c : Chain) (h p : Plain) → IsFollowed c → node_at c.nodes (id_of h) ≡ Some h → node_at c.nodes (id_of p) ≡ Some p → h.running ≡ true → Knows c p → first_of c.members ≡ id_of h → length_of p ≤ length_of h
head_holds_most c h p f at_h at_p runs k first =
    let w : MachineState Entry = f.0 in
    let g : Follows c w = f.2 in
    let n : NodeFollows w (seen_of h) = g.nodes (id_of h) h at_h in
    let o : NodeFollows w (seen_of p) = g.nodes (id_of p) p at_p in
    let i : Invariant w = reached_inv f.1 in
    let ages : Ages = i.ages in
    let s : Clauses w ages = i.clauses in
    let ms : List ℕ = known_membership w (id_of p) in
    let now : ms ≡ c.members = o.members ∙ k.members in
    let M : List ℕ → ℕ → Type 0 = λ l id. protocol.is_member l id ≡ true in
    let here : protocol.is_member c.members (id_of h) ≡ true = let P : List ℕ → Type 0 = λ l. M l (id_of h) in subst P g.members (s.running_is_member (id_of h) (n.running ∙ runs)) in
    let there : protocol.is_member c.members (id_of p) ≡ true = let P : List ℕ → Type 0 = λ l. M l (id_of p) in subst P g.members (s.running_is_member (id_of p) (o.running ∙ k.running)) in
    let is_head : is_first c.members (id_of h) ≡ true = sym (first_of-same c.members (id_of h) here) ∙ eq-eqb (first_of c.members) (id_of h) first in
    let S : List ℕ → Type 0 = λ l. Sorted ages.rank l in
    let sorted : Sorted ages.rank c.members = subst S now (s.shape.sorted (w.epoch (id_of p))) in
    ⊎_elim
    (λ (less : ages.rank (id_of h) < ages.rank (id_of p)).
    let P : List ℕ → Type 0 = λ l. M l (id_of h) in
    let holds : IsPrefix (w.history (id_of p)) (w.history (id_of h)) = s.elders_hold (id_of p) (id_of h) (subst P (sym now) here) less in
    omega (arith, prefix_length holds, history_length n.history, history_length o.history))
    (λ (same : ages.rank (id_of h) ≡ ages.rank (id_of p)).
    let one : id_of h ≡ id_of p = sorted_same ages.rank c.members (id_of h) (id_of p) sorted here there same in
    let long : length (w.history (id_of h)) ≡ length (w.history (id_of p)) = ap (λ j. length (w.history j)) one in
    omega (arith, long, history_length n.history, history_length o.history))
    (le_split (ages.rank (id_of h)) (ages.rank (id_of p)) (first_lowest ages.rank c.members (id_of h) (id_of p) sorted is_head there))

-- ---- the last member knows its entries to be committed

pub tail_knows : (c : Chain) (least : ℕ) → IsFollowed c → IsReadyAt c (last_of c.members) → HoldsEntries c (last_of c.members) least → KnowsCommitted c (last_of c.members) least
tail_knows c least f r h =
    let p : Plain = r.node in
    let k : Knows c p = r.knows in
    let own : id_of p ≡ last_of c.members = node_id c.nodes (last_of c.members) p r.at in
    let N : ℕ → Type 0 = λ j. node_at c.nodes j ≡ Some p in
    let w : MachineState Entry = f.0 in
    let g : Follows c w = f.2 in
    let n : NodeFollows w (seen_of p) = g.nodes (id_of p) p (subst N (sym own) r.at) in
    let i : Invariant w = reached_inv f.1 in
    let s : Clauses w i.ages = i.clauses in
    let M : List ℕ → Type 0 = λ l. protocol.is_member l (id_of p) ≡ true in
    let member : protocol.is_member c.members (id_of p) ≡ true = subst M g.members (s.running_is_member (id_of p) (n.running ∙ k.running)) in
    let last : is_last c.members (id_of p) ≡ true = sym (last_of-same c.members (id_of p) member) ∙ eq-eqb (last_of c.members) (id_of p) (sym own) in
    let L : List ℕ → Type 0 = λ l. is_last l (id_of p) ≡ true in
    let log : HoldsLog w (id_of p) = i.tails (id_of p) (n.running ∙ k.running) (n.ready ∙ r.ready) (subst L (sym (n.members ∙ k.members)) last) in
    let le : least ≤ length_of p = same_held c (last_of c.members) least p r.at h in
    record { node = p; at = r.at; knows = omega (arith, le, log.1, n.acknowledged, history_length n.history) }

-- ---- at the end

none_left : (most known : ℕ) (us : List WaitingUpdate) → AllByRecursion (λ (u : WaitingUpdate). u.position ≤ most) us → AllByRecursion (λ (u : WaitingUpdate). known < u.position) us → most ≤ known → us ≡ []
none_left most known [] a b le = refl
none_left most known (u ∷ us) a b le = absurd (omega (arith, a.0, b.0, le))

above_there : (chain : ℕ) (d : Chain) (p : Plain) → IsReachedBy chain d → node_at d.nodes (id_of p) ≡ Some p → AllByRecursion (λ (u : WaitingUpdate). p.past.acknowledged < u.position) p.waiting_updates
above_there chain d p r at =
    let P : Chain → Type 0 = λ c. node_at c.nodes (id_of p) ≡ Some p → AllByRecursion (λ (u : WaitingUpdate). p.past.acknowledged < u.position) p.waiting_updates in
    subst P r.leads (λ at. let owed : WaitingUpdatesAreOwed chain r.run = waiting_updates_are_owed chain r.run r.typed in owed.above p at) at

pub acks_there : (chain count least : ℕ) (d : Chain) → IsReachedBy chain d → AllReady d → KnowsCommitted d (last_of d.members) least → HaveNumbersFor (suc count) (length d.members) d
    → AllByRecursion (λ id. KnowsCommitted (after_rounds after_move (suc count) (length d.members) d) id least) d.members
acks_there chain count least d r a k numbers =
    let P : Chain → Type 0 = λ c. AllReady c → KnowsCommitted c (last_of c.members) least → HaveNumbersFor (suc count) (length c.members) c
    → AllByRecursion (λ id. KnowsCommitted (after_rounds after_move (suc count) (length c.members) c) id least) c.members in
    subst P r.leads (λ a k n. acks_reach_all chain r.run count least r.typed.run_of a k n) a k numbers

pub within_held : (chain : ℕ) (run : Run) (p : Plain) → IsTypedRunOf chain run → node_at (chain_after_moves chain run).nodes (id_of p) ≡ Some p → AllByRecursion (λ (u : WaitingUpdate). u.position ≤ length_of p) p.waiting_updates
within_held chain run p typed at =
    let owed : WaitingUpdatesAreOwed chain run = waiting_updates_are_owed chain run typed in
    let h : HistoriesAreWhole chain run = histories_are_whole chain run typed in
    let many : length (updates_held chain run p) ≡ length_of p = h.as_many p at in
    all_like (HasReply chain run p) (λ (u : WaitingUpdate). u.position ≤ length_of p) p.waiting_updates (λ u r. omega (arith, r.held, many)) (owed.reply p at)

abbrev pub Below : ℕ → WaitingUpdate → Type 0
Below most u = u.position ≤ most

abbrev pub Any : WaitingRead → Type 0
Any r = ⊤

pub begin : (chain : ℕ) (run : Run) (h : Plain) (ids : List ℕ) → IsTypedRunOf chain run → node_at (chain_after_moves chain run).nodes (id_of h) ≡ Some h → h.running ≡ true → first_of (chain_after_moves chain run).members ≡ id_of h
    → AllByRecursion (HearsAt (chain_after_moves chain run)) ids → AllByRecursion (λ id. NodeIs (chain_after_moves chain run) id (Waiting (Below (length_of h)) Any)) ids
begin chain run h [] typed at runs first a = tt
begin chain run h (id ∷ ids) typed at runs first a =
    let c : Chain = chain_after_moves chain run in
    let r : HearsAt c id = a.0 in
    let p : Plain = r.0 in
    let k : Knows c p = r.2 in
    let N : ℕ → Type 0 = λ j. node_at c.nodes j ≡ Some p in
    let here : node_at c.nodes (id_of p) ≡ Some p = subst N (sym (node_id c.nodes id p r.1)) r.1 in
    let g : Good c = good_run chain run typed.run_of in
    let most : length_of p ≤ length_of h = head_holds_most c h p g.followed at here runs k first in
    let low : AllByRecursion (Below (length_of h)) p.waiting_updates = all_like (Below (length_of p)) (Below (length_of h)) p.waiting_updates (λ u le. omega (arith, le, most)) (within_held chain run p typed here) in
    (record { node = p; at = r.1; runs = k.running; holds = (low, all_each Any p.waiting_reads (λ r. tt)) }, begin chain run h ids typed at runs first a.1)

pub finish : (chain most : ℕ) (d : Chain) (ids : List ℕ) → IsReachedBy chain d → AllByRecursion (λ id. NodeIs d id (Waiting (Below most) Any)) ids → AllByRecursion (λ id. KnowsCommitted d id most) ids → AllByRecursion (NoUpdateWaits d) ids
finish chain most d [] r a b = tt
finish chain most d (id ∷ ids) r a b =
    let q : NodeIs d id (Waiting (Below most) Any) = a.0 in
    let k : KnowsCommitted d id most = b.0 in
    let p : Plain = q.node in
    let same : k.node ≡ p = let x : node_at d.nodes id ≡ Some k.node = k.at in let y : node_at d.nodes id ≡ Some p = q.at in cc in
    let K : Plain → Type 0 = λ x. most ≤ x.past.acknowledged in
    let N : ℕ → Type 0 = λ j. node_at d.nodes j ≡ Some p in
    let here : node_at d.nodes (id_of p) ≡ Some p = subst N (sym (node_id d.nodes id p q.at)) q.at in
    (record { node = p; at = q.at; none = none_left most p.past.acknowledged p.waiting_updates q.holds.0 (above_there chain d p r here) (subst K same k.knows) }, finish chain most d ids r a.1 b.1)

pub all_hear : (c : Chain) (ids : List ℕ) → AllByRecursion (IsReadyAt c) ids → AllByRecursion (HearsAt c) ids
all_hear c [] a = tt
all_hear c (id ∷ ids) a = let r : IsReadyAt c id = a.0 in ((r.node, r.at, r.knows), all_hear c ids a.1)

pub all_of_last : (P : ℕ → Type 0) (m : ℕ) (ms : List ℕ) → AllByRecursion P (m ∷ ms) → P (last_of (m ∷ ms))
unfolding last_of
all_of_last P m [] a = a.0
all_of_last P m (k ∷ ms) a = all_of_last P k ms a.1

by_members : (chain : ℕ) (run : Run) (count : ℕ) (l : List ℕ) → IsTypedRunOf chain run → l ≡ (chain_after_moves chain run).members → AllReady (chain_after_moves chain run)
    → HaveNumbersForAsMany (suc count) (chain_after_moves chain run) → HaveNumbersForAsMany (suc count) (after_as_many (suc count) (chain_after_moves chain run))
    → AllByRecursion (NoUpdateWaits (after_as_many (suc count) (after_as_many (suc count) (chain_after_moves chain run)))) l
by_members chain run count [] typed is ready first second = tt
by_members chain run count (m ∷ ms) typed is ready first second =
    let c : Chain = chain_after_moves chain run in
    let rounds : ℕ = length c.members in
    let c1 : Chain = after_rounds after_move (suc count) rounds c in
    let again : ℕ = length c1.members in
    let c2 : Chain = after_rounds after_move (suc count) again c1 in
    let All : List ℕ → Type 0 = λ l. AllByRecursion (IsReadyAt c) l in
    let mine : AllByRecursion (IsReadyAt c) (m ∷ ms) = subst All (sym is) ready in
    let r : IsReadyAt c m = mine.0 in
    let h : Plain = r.node in
    let kh : Knows c h = r.knows in
    let own : id_of h ≡ m = node_id c.nodes m h r.at in
    let most : ℕ = length_of h in
    let N : ℕ → Type 0 = λ j. node_at c.nodes j ≡ Some h in
    let heads : first_of c.members ≡ m = ap first_of (sym is) in
    let E : ℕ → Type 0 = λ j. HoldsEntries c j most in
    let here : HoldsEntries c (first_of c.members) most = subst E (sym heads) (record { node = h; at = r.at; holds = omega arith }) in
    let reach : IsReachedBy chain c = reached_here chain run typed in
    let reach1 : IsReachedBy chain c1 = reached_rounds chain (suc count) rounds c reach in
    let reach2 : IsReachedBy chain c2 = reached_rounds chain (suc count) again c1 reach1 in
    let on : Onward c c1 = onward_rounds (suc count) rounds c in
    let now : m ∷ ms ≡ c1.members = is ∙ sym on.members in
    let held : HoldAll c1 most c.members = entries_reach_all chain run count most typed ready here first in
    let H : List ℕ → Type 0 = λ l. HoldAll c1 most l in
    let ready1 : AllReady c1 = ready_rounds chain (suc count) rounds c reach ready in
    let All1 : List ℕ → Type 0 = λ l. AllByRecursion (IsReadyAt c1) l in
    let L : List ℕ → Type 0 = λ l. IsReadyAt c1 (last_of l) in
    let T : List ℕ → Type 0 = λ l. HoldsEntries c1 (last_of l) most in
    let last_ready : IsReadyAt c1 (last_of c1.members) = subst L now (all_of_last (IsReadyAt c1) m ms (subst All1 (sym now) ready1)) in
    let last_holds : HoldsEntries c1 (last_of c1.members) most = subst T now (all_of_last (λ id. HoldsEntries c1 id most) m ms (subst H (sym is) held)) in
    let g : Good c1 = good_there chain c1 reach1 in
    let knows : KnowsCommitted c1 (last_of c1.members) most = tail_knows c1 most g.followed last_ready last_holds in
    let acks : AllByRecursion (λ id. KnowsCommitted c2 id most) c1.members = acks_there chain count most c1 reach1 ready1 knows second in
    let B : List ℕ → Type 0 = λ l. AllByRecursion (λ id. KnowsCommitted c2 id most) l in
    let quiet : AllByRecursion (λ id. NodeIs c id (Waiting (Below most) Any)) (m ∷ ms) = begin chain run h (m ∷ ms) typed (subst N (sym own) r.at) kh.running (heads ∙ sym own) (all_hear c (m ∷ ms) mine) in
    finish chain most c2 (m ∷ ms) reach2
    (all_still chain (Below most) Any (suc count) again c1 (m ∷ ms) reach1 (all_still chain (Below most) Any (suc count) rounds c (m ∷ ms) reach quiet))
    (subst B (sym now) acks)

pub no_update_waits : (chain : ℕ) (run : Run) (count : ℕ) → IsTypedRunOf chain run → AllReady (chain_after_moves chain run)
    → HaveNumbersForAsMany (suc count) (chain_after_moves chain run) → HaveNumbersForAsMany (suc count) (after_as_many (suc count) (chain_after_moves chain run))
    → AllByRecursion (NoUpdateWaits (after_as_many (suc count) (after_as_many (suc count) (chain_after_moves chain run)))) (chain_after_moves chain run).members
no_update_waits chain run count typed ready first second = by_members chain run count (chain_after_moves chain run).members typed refl ready first second
