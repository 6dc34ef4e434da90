-- For a proof that a system's steps are lists of moves: reached worlds, and equal worlds.
use Rattle.std.proofs.Common.{◌≡◌, ℕ, List, [], ◌∷◌, ◌++◌, refl, ap, subst, ◌∙◌}
use Rattle.craq_protocol.specs.Members.{IsDistinct}
use Rattle.craq_protocol.specs.Machine.{MachineState, MachineMove, after_move, initial_state, after_moves}
use Rattle.craq_protocol.specs.Promises.{IsSafe, Later, IsReached}
use Rattle.craq_protocol.proofs.Invariant.{Invariant}
use Rattle.craq_protocol.proofs.LeadsTo.{LeadsTo}
use Rattle.craq_protocol.proofs.EachMove.{run_goes}
use Rattle.craq_protocol.proofs.Opening.{opening_holds}
use Rattle.craq_protocol.proofs.Theorem.{safe}

pub after_moves-append : {A : Type 0} → (ms ns : List (MachineMove A)) (w : MachineState A) → after_moves w (ms ++ ns) ≡ after_moves (after_moves w ms) ns
after_moves-append [] ns w = refl
after_moves-append (m ∷ ms) ns w = after_moves-append ms ns (after_move w m)

pub reached_opening : {A : Type 0} → (ms : List ℕ) → IsDistinct ms → IsReached (initial_state {A = A} ms)
reached_opening ms d = record { members = ms; distinct = d; moves = []; is = refl }

pub reached_run : {A : Type 0} {w : MachineState A} → IsReached w → (ms : List (MachineMove A)) → IsReached (after_moves w ms)
reached_run {A} {w} r ms = record {
  members = r.members;
  distinct = r.distinct;
  moves = r.moves ++ ms;
  is = after_moves-append r.moves ms (initial_state r.members) ∙ ap (λ (v : MachineState A). after_moves v ms) r.is;
}

pub reached_inv : {A : Type 0} {w : MachineState A} → IsReached w → Invariant w
reached_inv {A} {w} r =
    let g : LeadsTo (initial_state r.members) (after_moves (initial_state r.members) r.moves) = run_goes r.moves (initial_state r.members) (opening_holds A r.members r.distinct) in
    let P : MachineState A → Type 0 = λ v. Invariant v in subst P r.is g.invariant

pub reached_safe : {A : Type 0} {w : MachineState A} → IsReached w → IsSafe w
reached_safe r = safe (reached_inv r)

pub reached_later : {A : Type 0} {w : MachineState A} → IsReached w → (ms : List (MachineMove A)) → Later w (after_moves w ms)
reached_later {A} {w} r ms = let g : LeadsTo w (after_moves w ms) = run_goes ms w (reached_inv r) in g.later

-- two worlds with the same fields
pub world_ext : {A : Type 0} → (w v : MachineState A) → w.memberships ≡ v.memberships → w.joined ≡ v.joined
    → ((n : ℕ) → w.running n ≡ v.running n) → ((n : ℕ) → w.epoch n ≡ v.epoch n) → ((n : ℕ) → w.ready n ≡ v.ready n)
    → ((n : ℕ) → w.history n ≡ v.history n) → ((n : ℕ) → w.acknowledged n ≡ v.acknowledged n) → ((n : ℕ) → w.floor n ≡ v.floor n)
    → w.messages ≡ v.messages → w.log ≡ v.log → w ≡ v
world_ext w v a b c d e f g h k l = λ i. record {
  memberships = a i;
  joined = b i;
  running = λ n. c n i;
  epoch = λ n. d n i;
  ready = λ n. e n i;
  history = λ n. f n i;
  acknowledged = λ n. g n i;
  floor = λ n. h n i;
  messages = k i;
  log = l i;
}
