-- A node's neighbours, and the last member, are members.
use Rattle.std.proofs.Common.{◌≤◌, ℕ, ◌==◌, List, [], ◌∷◌, Option, Some, MatchOption, slice_get, length, arith}
use Rattle.std.proofs.lemmas.Bool.{cond_both}
use Rattle.std.specs.Prelude.{⊤}
use Rattle.std.specs.List.{AllByRecursion}
use Rattle.craq_model.specs.Members.{last_of, successor_in, predecessor_in}

-- ids of nodes, none of them the master's
abbrev pub AreIds : List ℕ → Type 0
AreIds ms = AllByRecursion (λ (id : ℕ). 1 ≤ id) ms

-- the id, if there is one, is a node's
abbrev pub IsIdIfAny : Option ℕ → Type 0
IsIdIfAny o = MatchOption o ⊤ (λ (id : ℕ). 1 ≤ id)

first_is : (ms : List ℕ) → AreIds ms → IsIdIfAny (slice_get ms 0)
first_is [] a = tt
first_is (m ∷ ms) a = a.0

pub successor_is : (ms : List ℕ) (id : ℕ) → AreIds ms → IsIdIfAny (successor_in ms id)
unfolding successor_in
successor_is [] id a = tt
successor_is (m ∷ ms) id a = cond_both (m == id) (slice_get ms 0) (successor_in ms id) (λ (o : Option ℕ). IsIdIfAny o) (λ e. first_is ms a.1) (λ e. successor_is ms id a.1)

pub predecessor_is : (ms : List ℕ) (id : ℕ) → AreIds ms → IsIdIfAny (predecessor_in ms id)
unfolding predecessor_in
predecessor_is [] id a = tt
predecessor_is (m ∷ []) id a = tt
predecessor_is (m ∷ k ∷ ms) id a =
    cond_both (k == id) (Some m) (predecessor_in (k ∷ ms) id) (λ (o : Option ℕ). IsIdIfAny o) (λ e. a.0) (λ e. predecessor_is (k ∷ ms) id a.1)

pub last_is : (ms : List ℕ) → AreIds ms → 1 ≤ length ms → 1 ≤ last_of ms
unfolding last_of
last_is [] a h = absurd (omega (arith, h))
last_is (m ∷ []) a h = a.0
last_is (m ∷ k ∷ ms) a h = last_is (k ∷ ms) a.1 (omega arith)
