-- A recovered chain stays recovered by rounds.
use Rattle.std.proofs.Common.{◌≡◌, ℕ, List, [], ◌∷◌, Some, refl, sym, subst}
use Rattle.std.specs.List.{AllByRecursion}
use Rattle.craq_names.proofs.Lists.{all_like}
use Rattle.craq_model.specs.declared.waiting.WaitingRead.{WaitingRead}
use Rattle.craq_model.specs.declared.waiting.WaitingUpdate.{WaitingUpdate}
use Rattle.craq_model.specs.Plain.{Plain}
use Rattle.craq_runs.specs.declared.run.Run.{Run}
use Rattle.craq_runs.specs.Chain.{Chain, node_at}
use Rattle.craq_runs.specs.Runs.{IsRunOf, after_move}
use Rattle.craq_recovery.specs.Recovered.{HasRecovered, IsReadyAt, IsServing, Knows, ServesAt, after_round, chain_after_moves}
use Rattle.craq_recovery.specs.Rounds.{round}
use Rattle.craq_recovery.proofs.Heads.{Good, good_run, ready_later}
use Rattle.craq_recovery.proofs.Onward.{Onward, onward_moves}
use Rattle.craq_recovery.proofs.Taking.{round_travels}
use Rattle.craq_recovery.proofs.Travels.{NodeIs, lasts_on}
use Rattle.craq_recovery.proofs.Waits.{Waiting, waits_last}

abbrev NoUpdate : WaitingUpdate → Type 0
NoUpdate u = ⊥

abbrev NoRead : WaitingRead → Type 0
NoRead r = ⊥

no_updates : (us : List WaitingUpdate) → AllByRecursion NoUpdate us → us ≡ []
no_updates [] a = refl
no_updates (u ∷ us) a = absurd a.0

no_reads : (rs : List WaitingRead) → AllByRecursion NoRead rs → rs ≡ []
no_reads [] a = refl
no_reads (r ∷ rs) a = absurd a.0

stays_at : (count : ℕ) (c : Chain) (id : ℕ) → Good c → ServesAt c id → IsReadyAt (after_round count c) id → ServesAt (after_round count c) id
stays_at count c id g s r =
    let d : Chain = after_round count c in
    let v : IsServing c s.0 = s.2 in
    let U : List WaitingUpdate → Type 0 = λ l. AllByRecursion NoUpdate l in
    let R : List WaitingRead → Type 0 = λ l. AllByRecursion NoRead l in
    let i : NodeIs d id (Waiting NoUpdate NoRead) =
    lasts_on (Waiting NoUpdate NoRead) (waits_last NoUpdate NoRead) (round after_move count c) c id (round_travels count c) g.followed
    (record { node = s.0; at = s.1; runs = v.running; holds = (subst U (sym v.updates) tt, subst R (sym v.reads) tt) }) in
    let k : Knows d r.node = r.knows in
    let same : i.node ≡ r.node = let x : node_at d.nodes id ≡ Some i.node = i.at in let y : node_at d.nodes id ≡ Some r.node = r.at in cc in
    let P : Plain → Type 0 = λ p. p.waiting_updates ≡ [] in
    let Q : Plain → Type 0 = λ p. p.waiting_reads ≡ [] in (
      r.node,
      r.at,
      record {
        running = k.running;
        epoch = k.epoch;
        members = k.members;
        ready = r.ready;
        updates = subst P same (no_updates i.node.waiting_updates i.holds.0);
        reads = subst Q same (no_reads i.node.waiting_reads i.holds.1);
      },
    )

ready_at : (c : Chain) (id : ℕ) → ServesAt c id → IsReadyAt c id
ready_at c id s =
    let v : IsServing c s.0 = s.2 in
    record { node = s.0; at = s.1; knows = record { running = v.running; epoch = v.epoch; members = v.members }; ready = v.ready }

pub recovered_stays : (chain : ℕ) (run : Run) (count : ℕ) → IsRunOf chain run → HasRecovered (chain_after_moves chain run) → HasRecovered (after_round count (chain_after_moves chain run))
recovered_stays chain run count is a =
    let c : Chain = chain_after_moves chain run in
    let d : Chain = after_round count c in
    let g : Good c = good_run chain run is in
    let on : Onward c d = onward_moves (round after_move count c) c (round_travels count c) in
    let S : List ℕ → Type 0 = λ l. AllByRecursion (ServesAt d) l in
    subst S (sym on.members) (all_like (ServesAt c) (ServesAt d) c.members (λ id s. stays_at count c id g s (ready_later count c g id (ready_at c id s))) a)
