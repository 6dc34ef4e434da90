-- The entries of the first member reach each member, one member a round.
use Rattle.std.proofs.Common.{◌≡◌, ℕ, suc, ◌≤◌, true, List, [], ◌∷◌, ◌++◌, length, Some, refl, sym, subst, arith}
use Rattle.std.specs.List.{AllByRecursion}
use Rattle.craq_names.proofs.Lists.{all_like}
use Rattle.craq_model.specs.Members.{first_of}
use Rattle.craq_model.specs.Plain.{Plain, id_of, length_of}
use Rattle.craq_laws.proofs.Nodes.{node_id}
use Rattle.craq_runs.specs.declared.run.Run.{Run}
use Rattle.craq_runs.specs.Chain.{Chain, node_at}
use Rattle.craq_runs.specs.Runs.{after_move}
use Rattle.craq_runs.specs.Typed.{IsTypedRunOf}
use Rattle.craq_recovery.specs.Recovered.{AllReady, AreNeighbours, HoldsEntries, IsReadyAt, after_round, chain_after_moves}
use Rattle.craq_recovery.specs.Rounds.{after_moves_by, after_rounds, round}
use Rattle.craq_recovery.specs.Taken.{HaveNumbers, HaveNumbersFor}
use Rattle.craq_recovery.proofs.Entries.{entries_flow_on}
use Rattle.craq_recovery.proofs.Extending.{IsReachedBy, reached_here, reached_moves}
use Rattle.craq_recovery.proofs.Gains.{Gains, Later}
use Rattle.craq_recovery.proofs.Heads.{Good, facing, good_run, knows_later, ready_later}
use Rattle.craq_recovery.proofs.Spreading.{Hands, reaches_all}
use Rattle.craq_recovery.proofs.Taking.{round_travels}

pub good_there : (chain : ℕ) (d : Chain) → IsReachedBy chain d → Good d
good_there chain d r = let P : Chain → Type 0 = λ c. Good c in subst P r.leads (good_run chain r.run r.typed.run_of)

-- the law of neighbours, of each chain to which a run leads
flow_there : (chain count : ℕ) (d : Chain) (p q : Plain) → IsReachedBy chain d → AreNeighbours d p q → p.ready ≡ true → q.ready ≡ true → HaveNumbers d (round after_move (suc count) d)
    → HoldsEntries (after_round (suc count) d) (id_of q) (length_of p)
flow_there chain count d p q r n rp rq numbers =
    let P : Chain → Type 0 = λ c. AreNeighbours c p q → HaveNumbers c (round after_move (suc count) c) → HoldsEntries (after_round (suc count) c) (id_of q) (length_of p) in
    subst P r.leads (λ n h. entries_flow_on chain r.run count p q r.typed n rp rq h) n numbers

pub same_held : (c : Chain) (id least : ℕ) (p : Plain) → node_at c.nodes id ≡ Some p → HoldsEntries c id least → least ≤ length_of p
same_held c id least p at h =
    let same : h.node ≡ p = let there : node_at c.nodes id ≡ Some h.node = h.at in cc in
    let P : Plain → Type 0 = λ x. least ≤ length_of x in
    subst P same h.holds

next_holds : (chain count : ℕ) (c : Chain) (least : ℕ) (front : List ℕ) (a b : ℕ) (rest : List ℕ) → IsReachedBy chain c → front ++ a ∷ b ∷ rest ≡ c.members → IsReadyAt c a → IsReadyAt c b → HoldsEntries c a least
    → HaveNumbers c (round after_move (suc count) c) → HoldsEntries (after_moves_by after_move c (round after_move (suc count) c)) b least
next_holds chain count c least front a b rest r is ra rb h numbers =
    let g : Good c = good_there chain c r in
    let own : id_of rb.node ≡ b = node_id c.nodes b rb.node rb.at in
    let i : HoldsEntries (after_round (suc count) c) (id_of rb.node) (length_of ra.node) = flow_there chain count c ra.node rb.node r (facing c front a b rest g is ra.node rb.node ra.at rb.at ra.knows rb.knows) ra.ready rb.ready numbers in
    let E : ℕ → Type 0 = λ j. node_at (after_moves_by after_move c (round after_move (suc count) c)).nodes j ≡ Some i.node in
    let le : least ≤ length_of ra.node = same_held c a least ra.node ra.at h in
    record { node = i.node; at = subst E own i.at; holds = omega (arith, le, i.holds) }

-- a member is ready, knows the membership and holds this number of entries
abbrev ReadyHolds : ℕ → Chain → ℕ → Type 0
ReadyHolds least c id = IsReadyAt c id × HoldsEntries c id least

holds_later : (count : ℕ) (c : Chain) (least : ℕ) → Good c → (id : ℕ) → ReadyHolds least c id → ReadyHolds least (after_round count c) id
holds_later count c least g id h =
    let r : IsReadyAt c id = h.0 in
    let l : Later (after_round count c) id r.node = (knows_later count c id r.node g r.at r.knows).0 in
    let gains : Gains r.node l.node = l.gains in
    (ready_later count c g id r, record { node = l.node; at = l.at; holds = omega (arith, gains.held, same_held c id least r.node r.at h.1) })

abbrev pub HoldAll : Chain → ℕ → List ℕ → Type 0
HoldAll c least ids = AllByRecursion (λ id. HoldsEntries c id least) ids

pub reached_round : (chain count : ℕ) (c : Chain) → IsReachedBy chain c → IsReachedBy chain (after_round count c)
reached_round chain count c r = reached_moves chain (round after_move count c) c (round_travels count c) r

held_on : (chain count least : ℕ) → Hands (suc count) (IsReachedBy chain) IsReadyAt (ReadyHolds least)
held_on chain count least = record {
  keeps = λ c r. reached_round chain (suc count) c r;
  waits = λ c r id w. ready_later (suc count) c (good_there chain c r) id w;
  stays = λ c r id h. holds_later (suc count) c least (good_there chain c r) id h;
  hands = λ c r front a b rest is h w numbers. (ready_later (suc count) c (good_there chain c r) b w, next_holds chain count c least front a b rest r is h.0 w h.1 numbers);
}

by_members : (chain count least rounds : ℕ) (c : Chain) (l : List ℕ) → IsReachedBy chain c → l ≡ c.members → length l ≤ rounds → AllReady c → HoldsEntries c (first_of l) least → HaveNumbersFor (suc count) rounds c
    → HoldAll (after_rounds after_move (suc count) rounds c) least l
by_members chain count least rounds c [] r is le all h numbers = tt
by_members chain count least rounds c (m ∷ ms) r is le all h numbers =
    let e : Chain = after_rounds after_move (suc count) rounds c in
    let R : List ℕ → Type 0 = λ l. AllByRecursion (IsReadyAt c) l in
    let ready : AllByRecursion (IsReadyAt c) (m ∷ ms) = subst R (sym is) all in
    all_like (ReadyHolds least e) (λ id. HoldsEntries e id least) (m ∷ ms) (λ id h. h.1)
    (reaches_all (suc count) (IsReachedBy chain) IsReadyAt (ReadyHolds least) (held_on chain count least) rounds c m ms r is le ready.1 (ready.0, h) numbers)

pub entries_reach_all : (chain : ℕ) (run : Run) (count least : ℕ) → IsTypedRunOf chain run → AllReady (chain_after_moves chain run) → HoldsEntries (chain_after_moves chain run) (first_of (chain_after_moves chain run).members) least
    → HaveNumbersFor (suc count) (length (chain_after_moves chain run).members) (chain_after_moves chain run)
    → AllByRecursion (λ id. HoldsEntries (after_rounds after_move (suc count) (length (chain_after_moves chain run).members) (chain_after_moves chain run)) id least) (chain_after_moves chain run).members
entries_reach_all chain run count least typed all h numbers =
    let c : Chain = chain_after_moves chain run in
    by_members chain count least (length c.members) c c.members (reached_here chain run typed) refl (omega arith) all h numbers
