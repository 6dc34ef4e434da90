-- A chain whose members are all ready recovers.
use Rattle.std.proofs.Common.{◌≡◌, ◌≢◌, ⊎_elim, ℕ, suc, true, ◌&&◌, List, [], ◌∷◌, length, Some, refl, ap, sym, subst, ◌∙◌}
use Rattle.std.proofs.lemmas.Bool.{cases_eq, eq-eqb}
use Rattle.std.specs.List.{AllByRecursion}
use Rattle.craq_model.specs.declared.waiting.WaitingRead.{WaitingRead}
use Rattle.craq_model.specs.declared.waiting.WaitingUpdate.{WaitingUpdate}
use Rattle.craq_model.specs.Members.{last_of}
use Rattle.craq_model.specs.Plain.{Plain, id_of, is_last}
use Rattle.craq_laws.proofs.Nodes.{node_id}
use Rattle.craq_runs.specs.declared.run.Run.{Run}
use Rattle.craq_runs.specs.Chain.{Chain, is_running, node_at}
use Rattle.craq_runs.specs.Runs.{after_move}
use Rattle.craq_runs.specs.Typed.{IsTypedRunOf}
use Rattle.craq_recovery.specs.Recovered.{AllReady, AllRunReady, HasRecovered, HaveNumbersForAll, HearsAt, IsReadyAt, Knows, NoReadWaits, NoUpdateWaits, RunsReady, ServesAt, after_all_rounds, after_round, chain_after_moves}
use Rattle.craq_recovery.specs.Rounds.{after_moves_by, after_rounds, round}
use Rattle.craq_recovery.specs.Taken.{HaveNumbers}
use Rattle.craq_recovery.proofs.Answered.{all_of_last, no_update_waits, onward_rounds, reached_rounds, ready_rounds}
use Rattle.craq_recovery.proofs.Calm.{Calm, calm_after}
use Rattle.craq_recovery.proofs.Extending.{IsReachedBy, reached_here}
use Rattle.craq_recovery.proofs.Gains.{Gains, Later, later_here, later_moves}
use Rattle.craq_recovery.proofs.Heads.{Good, ready_after}
use Rattle.craq_recovery.proofs.Hearing.{heard}
use Rattle.craq_recovery.proofs.Onward.{Onward, onward_moves}
use Rattle.craq_recovery.proofs.ReadsAnswered.{reads_answered}
use Rattle.craq_recovery.proofs.Tails.{good_there, reached_round}
use Rattle.craq_recovery.proofs.Taking.{round_travels}
use Rattle.craq_recovery.proofs.Travels.{NodeIs, lasts_on}
use Rattle.craq_recovery.proofs.Waits.{Waiting, waits_last}

reads_there : (chain count : ℕ) (d : Chain) (id : ℕ) → IsReachedBy chain d → IsReadyAt d id → IsReadyAt d (last_of d.members) → id ≢ last_of d.members → HaveNumbers d (round after_move (suc (suc count)) d)
    → NoReadWaits (after_round (suc (suc count)) d) id
reads_there chain count d id r a b ne numbers =
    let P : Chain → Type 0 = λ c. IsReadyAt c id → IsReadyAt c (last_of c.members) → id ≢ last_of c.members → HaveNumbers c (round after_move (suc (suc count)) c) → NoReadWaits (after_round (suc (suc count)) c) id in
    subst P r.leads (λ a b ne n. reads_answered chain r.run count id r.typed a b ne n) a b ne numbers

calm_there : (chain : ℕ) (d : Chain) (id : ℕ) (p : Plain) → IsReachedBy chain d → node_at d.nodes id ≡ Some p → Calm p
calm_there chain d id p r at =
    let P : Chain → Type 0 = λ c. node_at c.nodes id ≡ Some p → Calm p in
    subst P r.leads (λ at. calm_after chain r.run id p r.typed.run_of at) at

-- the last member is a tail, so no read waits there
last_calm : (chain : ℕ) (d : Chain) (id : ℕ) → IsReachedBy chain d → id ≡ last_of d.members → IsReadyAt d id → NoReadWaits d id
last_calm chain d id r is a =
    let p : Plain = a.node in
    let k : Knows d p = a.knows in
    let end : is_last p ≡ true = eq-eqb (last_of p.members) (id_of p) (ap last_of k.members ∙ (sym is ∙ sym (node_id d.nodes id p a.at))) in
    record { node = p; at = a.at; none = calm_there chain d id p r a.at (ap (λ b. b && is_last p) a.ready ∙ end) }

abbrev Nothing : WaitingUpdate → Type 0
Nothing u = ⊥

empty : (us : List WaitingUpdate) → AllByRecursion Nothing us → us ≡ []
empty [] a = refl
empty (u ∷ us) a = absurd a.0

nobody : (us : List WaitingUpdate) → us ≡ [] → AllByRecursion Nothing us
nobody us is = let P : List WaitingUpdate → Type 0 = λ l. AllByRecursion Nothing l in subst P (sym is) tt

abbrev Anything : WaitingRead → Type 0
Anything r = Unit {0}

any_read : (rs : List WaitingRead) → AllByRecursion Anything rs
any_read [] = tt
any_read (r ∷ rs) = (tt, any_read rs)

-- a round later no update waits either
still_none : (count : ℕ) (c : Chain) (id : ℕ) → Good c → IsReadyAt c id → NoUpdateWaits c id → NoUpdateWaits (after_moves_by after_move c (round after_move count c)) id
still_none count c id g r u =
    let k : Knows c r.node = r.knows in
    let same : u.node ≡ r.node = let a : node_at c.nodes id ≡ Some u.node = u.at in let b : node_at c.nodes id ≡ Some r.node = r.at in cc in
    let U : Plain → Type 0 = λ p. p.waiting_updates ≡ [] in
    let i : NodeIs (after_moves_by after_move c (round after_move count c)) id (Waiting Nothing Anything) =
    lasts_on (Waiting Nothing Anything) (waits_last Nothing Anything) (round after_move count c) c id (round_travels count c) g.followed
    (record { node = r.node; at = r.at; runs = k.running; holds = (nobody r.node.waiting_updates (subst U same u.none), any_read r.node.waiting_reads) }) in
    record { node = i.node; at = i.at; none = empty i.node.waiting_updates i.holds.0 }

serving : (d : Chain) (id : ℕ) → IsReadyAt d id → NoUpdateWaits d id → NoReadWaits d id → ServesAt d id
serving d id a u r =
    let p : Plain = a.node in
    let k : Knows d p = a.knows in
    let same_u : u.node ≡ p = let x : node_at d.nodes id ≡ Some u.node = u.at in let y : node_at d.nodes id ≡ Some p = a.at in cc in
    let same_r : r.node ≡ p = let x : node_at d.nodes id ≡ Some r.node = r.at in let y : node_at d.nodes id ≡ Some p = a.at in cc in
    let U : Plain → Type 0 = λ q. q.waiting_updates ≡ [] in
    let R : Plain → Type 0 = λ q. q.waiting_reads ≡ [] in
    (p, a.at, record { running = k.running; epoch = k.epoch; members = k.members; ready = a.ready; updates = subst U same_u u.none; reads = subst R same_r r.none })

pub serve_all : (chain count : ℕ) (c : Chain) (ids : List ℕ) → IsReachedBy chain c → IsReadyAt c (last_of c.members) → AllByRecursion (IsReadyAt c) ids → AllByRecursion (NoUpdateWaits c) ids
    → AllByRecursion (IsReadyAt (after_round (suc (suc count)) c)) ids → HaveNumbers c (round after_move (suc (suc count)) c) → AllByRecursion (ServesAt (after_round (suc (suc count)) c)) ids
serve_all chain count c [] r last a u b numbers = tt
serve_all chain count c (id ∷ ids) r last a u b numbers =
    let d : Chain = after_round (suc (suc count)) c in
    let on : Onward c d = onward_moves (round after_move (suc (suc count)) c) c (round_travels (suc (suc count)) c) in
    let quiet : NoReadWaits d id =
    ⊎_elim
    (λ (e : id ≡ last_of c.members). last_calm chain d id (reached_round chain (suc (suc count)) c r) (e ∙ ap last_of (sym on.members)) b.0)
    (λ ne. reads_there chain count c id r a.0 last ne numbers)
    (cases_eq id (last_of c.members)) in
    (serving d id b.0 (still_none (suc (suc count)) c id (good_there chain c r) a.0 u.0) quiet, serve_all chain count c ids r last a.1 u.1 b.1 numbers)

by_members : (chain : ℕ) (run : Run) (count : ℕ) (l : List ℕ) → IsTypedRunOf chain run → l ≡ (chain_after_moves chain run).members → AllReady (chain_after_moves chain run)
    → HaveNumbersForAll (suc (suc count)) (chain_after_moves chain run) → AllByRecursion (ServesAt (after_all_rounds (suc (suc count)) (chain_after_moves chain run))) l
by_members chain run count [] typed is ready numbers = tt
by_members chain run count (m ∷ ms) typed is ready numbers =
    let h : ℕ = suc (suc count) in
    let c : Chain = chain_after_moves chain run in
    let rounds : ℕ = length c.members in
    let c1 : Chain = after_rounds after_move h rounds c in
    let again : ℕ = length c1.members in
    let c2 : Chain = after_rounds after_move h again c1 in
    let d : Chain = after_round h c2 in
    let reach : IsReachedBy chain c = reached_here chain run typed in
    let reach1 : IsReachedBy chain c1 = reached_rounds chain h rounds c reach in
    let reach2 : IsReachedBy chain c2 = reached_rounds chain h again c1 reach1 in
    let ready2 : AllReady c2 = ready_rounds chain h again c1 reach1 (ready_rounds chain h rounds c reach ready) in
    let ready3 : AllReady d = ready_after h c2 (good_there chain c2 reach2) ready2 in
    let on1 : Onward c c1 = onward_rounds h rounds c in
    let on2 : Onward c1 c2 = onward_rounds h again c1 in
    let on3 : Onward c2 d = onward_moves (round after_move h c2) c2 (round_travels h c2) in
    let now : m ∷ ms ≡ c2.members = is ∙ (sym on1.members ∙ sym on2.members) in
    let Ready : List ℕ → Type 0 = λ l. AllByRecursion (IsReadyAt c2) l in
    let Later : List ℕ → Type 0 = λ l. AllByRecursion (IsReadyAt d) l in
    let U : List ℕ → Type 0 = λ l. AllByRecursion (NoUpdateWaits c2) l in
    let L : List ℕ → Type 0 = λ l. IsReadyAt c2 (last_of l) in
    let mine : AllByRecursion (IsReadyAt c2) (m ∷ ms) = subst Ready (sym now) ready2 in
    serve_all chain count c2 (m ∷ ms) reach2 (subst L now (all_of_last (IsReadyAt c2) m ms mine)) mine
    (subst U (sym is) (no_update_waits chain run (suc count) typed ready numbers.first numbers.second))
    (subst Later (sym (now ∙ sym on3.members)) ready3) numbers.last

pub ready_recover : (chain : ℕ) (run : Run) (count : ℕ) → IsTypedRunOf chain run → AllReady (chain_after_moves chain run) → HaveNumbersForAll (suc (suc count)) (chain_after_moves chain run)
    → HasRecovered (after_all_rounds (suc (suc count)) (chain_after_moves chain run))
ready_recover chain run count typed ready numbers =
    let h : ℕ = suc (suc count) in
    let c : Chain = chain_after_moves chain run in
    let rounds : ℕ = length c.members in
    let c1 : Chain = after_rounds after_move h rounds c in
    let again : ℕ = length c1.members in
    let c2 : Chain = after_rounds after_move h again c1 in
    let d : Chain = after_round h c2 in
    let on1 : Onward c c1 = onward_rounds h rounds c in
    let on2 : Onward c1 c2 = onward_rounds h again c1 in
    let on3 : Onward c2 d = onward_moves (round after_move h c2) c2 (round_travels h c2) in
    let same : c.members ≡ d.members = sym on1.members ∙ (sym on2.members ∙ sym on3.members) in
    let S : List ℕ → Type 0 = λ l. AllByRecursion (ServesAt d) l in
    subst S same (by_members chain run count c.members typed refl ready numbers)

-- ---- whatever membership they know

all_run : (c : Chain) (ids : List ℕ) → AllByRecursion (RunsReady c) ids → AllByRecursion (λ id. is_running (node_at c.nodes id) ≡ true) ids
all_run c [] a = tt
all_run c (id ∷ ids) a = let r : RunsReady c id = a.0 in (ap is_running r.at ∙ r.running, all_run c ids a.1)

-- a node that learns of the membership is still ready
still_ready : (count : ℕ) (c : Chain) (ids : List ℕ) → Good c → AllByRecursion (RunsReady c) ids → AllByRecursion (HearsAt (after_round count c)) ids → AllByRecursion (IsReadyAt (after_round count c)) ids
still_ready count c [] g a b = tt
still_ready count c (id ∷ ids) g a b =
    let d : Chain = after_round count c in
    let r : RunsReady c id = a.0 in
    let h : HearsAt d id = b.0 in
    let l : Later d id r.node = later_moves (round after_move count c) c id r.node (round_travels count c) g.followed (later_here c id r.node r.at r.running) in
    let gains : Gains r.node l.node = l.gains in
    let same : l.node ≡ h.0 = let x : node_at d.nodes id ≡ Some l.node = l.at in let y : node_at d.nodes id ≡ Some h.0 = h.1 in cc in
    let P : Plain → Type 0 = λ p. p.ready ≡ true in
    (record { node = h.0; at = h.1; knows = h.2; ready = subst P same (gains.ready r.ready) }, still_ready count c ids g a.1 b.1)

pub running_recover : (chain : ℕ) (run : Run) (count : ℕ) → IsTypedRunOf chain run → AllRunReady (chain_after_moves chain run)
    → HaveNumbers (chain_after_moves chain run) (round after_move (suc (suc count)) (chain_after_moves chain run))
    → HaveNumbersForAll (suc (suc count)) (after_round (suc (suc count)) (chain_after_moves chain run))
    → HasRecovered (after_all_rounds (suc (suc count)) (after_round (suc (suc count)) (chain_after_moves chain run)))
running_recover chain run count typed all first rest =
    let h : ℕ = suc (suc count) in
    let c : Chain = chain_after_moves chain run in
    let d : Chain = after_round h c in
    let r : IsReachedBy chain d = reached_round chain h c (reached_here chain run typed) in
    let on : Onward c d = onward_moves (round after_move h c) c (round_travels h c) in
    let hear : AllByRecursion (HearsAt d) d.members = heard chain run (suc count) typed.run_of (all_run c c.members all) first in
    let H : List ℕ → Type 0 = λ l. AllByRecursion (HearsAt d) l in
    let R : List ℕ → Type 0 = λ l. AllByRecursion (IsReadyAt d) l in
    let ready : AllReady d = subst R (sym on.members) (still_ready h c c.members (good_there chain c (reached_here chain run typed)) all (subst H on.members hear)) in
    let P : Chain → Type 0 = λ e. AllReady e → HaveNumbersForAll h e → HasRecovered (after_all_rounds h e) in
    subst P r.leads (λ a n. ready_recover chain r.run count r.typed a n) ready rest
