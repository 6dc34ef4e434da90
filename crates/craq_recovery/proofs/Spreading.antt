-- A property that a member hands on to the next in a round reaches all members, one member a round.
use Rattle.std.proofs.Common.{◌≡◌, ℕ, zero, suc, ◌≤◌, List, [], ◌∷◌, ◌++◌, append_assoc, length, subst, ◌∙◌, arith, sym}
use Rattle.std.specs.List.{AllByRecursion}
use Rattle.craq_names.proofs.Lists.{all_append, all_like}
use Rattle.craq_runs.specs.Chain.{Chain}
use Rattle.craq_runs.specs.Runs.{after_move}
use Rattle.craq_refinement.proofs.Lists.{all_back}
use Rattle.craq_recovery.specs.Recovered.{after_round}
use Rattle.craq_recovery.specs.Rounds.{after_rounds, round}
use Rattle.craq_recovery.specs.Taken.{HaveNumbers, HaveNumbersFor}
use Rattle.craq_recovery.proofs.Onward.{Onward, onward_moves}
use Rattle.craq_recovery.proofs.Taking.{round_travels}

-- rounds preserve the property of the chain (C), of a member that has it (P) and of one that waits
-- for it (W), and a member that has it hands it on
pub record Hands (hops : ℕ) (C : Chain → Type 0) (W P : Chain → ℕ → Type 0) : Type 0 where
  pub keeps : (c : Chain) → C c → C (after_round hops c)
  pub waits : (c : Chain) → C c → (id : ℕ) → W c id → W (after_round hops c) id
  pub stays : (c : Chain) → C c → (id : ℕ) → P c id → P (after_round hops c) id
  pub hands : (c : Chain) → C c → (front : List ℕ) (a b : ℕ) (rest : List ℕ) → front ++ a ∷ b ∷ rest ≡ c.members → P c a → W c b → HaveNumbers c (round after_move hops c) → P (after_round hops c) b

module _ (hops : ℕ) (C : Chain → Type 0) (W P : Chain → ℕ → Type 0) (hand : Hands hops C W P) where
  same_members : (c : Chain) → c.members ≡ (after_round hops c).members
  same_members c = let on : Onward c (after_round hops c) = onward_moves (round after_move hops c) c (round_travels hops c) in sym on.members

  -- the first members have it; after enough rounds all do
  spreads : (rounds : ℕ) (rest front : List ℕ) (a : ℕ) (c : Chain) → C c → length rest ≤ rounds → front ++ a ∷ rest ≡ c.members → AllByRecursion (W c) rest → AllByRecursion (P c) (front ++ a ∷ [])
      → HaveNumbersFor hops rounds c → AllByRecursion (P (after_rounds after_move hops rounds c)) (front ++ a ∷ rest)
  spreads zero [] front a c so le is wait have numbers = have
  spreads zero (b ∷ rest) front a c so le is wait have numbers = absurd (omega (arith, le))
  spreads (suc rounds) [] front a c so le is wait have numbers =
      let d : Chain = after_round hops c in
      spreads rounds [] front a d (hand.keeps c so) (omega arith) (is ∙ same_members c) tt (all_like (P c) (P d) (front ++ a ∷ []) (hand.stays c so) have) numbers.1
  spreads (suc rounds) (b ∷ rest) front a c so le is wait have numbers =
      let d : Chain = after_round hops c in
      let more : List ℕ = front ++ a ∷ [] in
      let same : more ++ b ∷ rest ≡ front ++ a ∷ b ∷ rest = append_assoc front (a ∷ []) (b ∷ rest) in
      let last : AllByRecursion (P c) (a ∷ []) = all_back (P c) front (a ∷ []) have in
      let next : P d b = hand.hands c so front a b rest is last.0 wait.0 numbers.0 in
      let Q : List ℕ → Type 0 = λ l. AllByRecursion (P (after_rounds after_move hops rounds d)) l in
      subst Q same
      (spreads rounds rest more b d (hand.keeps c so) (omega (arith, le)) (same ∙ (is ∙ same_members c)) (all_like (W c) (W d) rest (hand.waits c so) wait.1)
      (all_append (P d) more (b ∷ []) (all_like (P c) (P d) more (hand.stays c so) have) (next, tt)) numbers.1)

  -- the first one has it
  pub reaches_all : (rounds : ℕ) (c : Chain) (m : ℕ) (ms : List ℕ) → C c → m ∷ ms ≡ c.members → length (m ∷ ms) ≤ rounds → AllByRecursion (W c) ms → P c m → HaveNumbersFor hops rounds c
      → AllByRecursion (P (after_rounds after_move hops rounds c)) (m ∷ ms)
  reaches_all rounds c m ms so is le wait have numbers = spreads rounds ms [] m c so (omega (arith, le)) is wait (have, tt) numbers
