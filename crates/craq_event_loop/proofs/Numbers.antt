-- The numbers of a connection's calls: each turn goes on where the last one ended, and no two of 2^64 in a row are the same.
use Rattle.std.proofs.Common.{◌≡◌, ◌≢◌, ◌≤◌, ◌<◌, ◌+◌, ◌-◌, ◌%◌, ◌^◌, ℕ, List, [], ◌∷◌, ◌++◌, ◌⊎◌, zero, suc, length, length-append, All, AllPairs, arith, inl, inr, sym, ap, subst, ◌∙◌}
use Rattle.std.proofs.Math.Nat.{mod-add-mod, mod-eq_of_lt, mod-eq-sub-mod, mod-lt}
use Rattle.std.proofs.lemmas.List.{append_assoc}
use Rattle.std.proofs.lemmas.List.Elements.{All-cons, All-nil}
use Rattle.std.proofs.lemmas.List.Kept.{AllPairs-cons}
use Rattle.std.proofs.lemmas.Bool.{cases_lt}
use Rattle.craq_event_loop.specs.SubmittedCalls.{Calling}
use Rattle.craq_event_loop.specs.Turns.{Refusing}
use Rattle.craq_event_loop.specs.declared.connection_state.ConnectionState.{ConnectionState}
use Rattle.craq_event_loop.specs.Advancing.{AsksMore, TakesSteps, none, step, call, asks_ahead, asked_none, asked_room, asked_one, asked_in, next_call, numbers_after, numbers_ahead}

-- the numbers of the messages that were asked ahead, and those of the calls after them, are those after the number before
ahead_in_order : {T : Type 0} (refuses : Refusing) (submits : ℕ → Calling T) (old : ConnectionState T) (before : ℕ) (new : ConnectionState T) (after more : ℕ) (asked : AsksMore refuses submits old before new after)
    → numbers_ahead asked ++ numbers_after after more ≡ numbers_after before (length (numbers_ahead asked) + more)
ahead_in_order refuses submits old before _ _ more asked_none = ap (λ (x : ℕ). numbers_after before x) (omega arith)
ahead_in_order refuses submits old before _ _ more (asked_room mid new number asked same) = ahead_in_order refuses submits old before mid number more asked
ahead_in_order refuses submits old before _ _ more (asked_one mid new number asked one) =
    append_assoc (numbers_ahead asked) (next_call number ∷ []) (numbers_after (next_call number) more)
    ∙ ahead_in_order refuses submits old before mid number (suc more) asked
    ∙ ap (λ (x : ℕ). numbers_after before x) (omega (arith, length-append (numbers_ahead asked) (next_call number ∷ [])))

module _ {T : Type 0} (tells : List ℕ → Type 0) (refuses : Refusing) (submits : ℕ → Calling T) (old : ConnectionState T) (before : ℕ) where
  -- the numbers that the calls of some steps had, and those of the calls after them, are those after the number before
  pub in_order : (new : ConnectionState T) (count after more : ℕ) (taken : TakesSteps tells refuses submits old before count new after)
      → asked_in taken ++ numbers_after after more ≡ numbers_after before (length (asked_in taken) + more)
  in_order _ _ _ more none = ap (λ (x : ℕ). numbers_after before x) (omega arith)
  in_order _ _ _ more (step n mid new number stepped taken no_call took same) = in_order mid n number more taken
  in_order _ _ _ more (call n mid made new number unsent taken took same asked) =
      append_assoc (asked_in taken) (next_call number ∷ []) (numbers_after (next_call number) more)
      ∙ in_order mid n number (suc more) taken
      ∙ ap (λ (x : ℕ). numbers_after before x) (omega (arith, length-append (asked_in taken) (next_call number ∷ [])))
  in_order _ _ _ more (asks_ahead n mid new number after taken asked) =
      append_assoc (asked_in taken) (numbers_ahead asked) (numbers_after after more)
      ∙ ap (λ (x : List ℕ). asked_in taken ++ x) (ahead_in_order refuses submits mid number new after more asked)
      ∙ in_order mid n number (length (numbers_ahead asked) + more) taken
      ∙ ap (λ (x : ℕ). numbers_after before x) (omega (arith, length-append (asked_in taken) (numbers_ahead asked)))

-- fewer steps than there are numbers do not come back to where they began
apart_by : (m x j : ℕ) → x < m → 0 < j → j < m → (x + j < m) ⊎ (m ≤ x + j) → x ≢ (x + j) % m
apart_by m x j below some few (inl short) is = (let e : (x + j) % m ≡ x + j = mod-eq_of_lt short in absurd (omega (arith, e, is, some)))
apart_by m x j below some few (inr long) is =
    let e : (x + j) % m ≡ (x + j - m) % m = mod-eq-sub-mod long in
    let f : (x + j - m) % m ≡ x + j - m = mod-eq_of_lt (omega (arith, below, few, long)) in
    absurd (omega (arith, e, f, is, few, long))

apart : (m x j : ℕ) → x < m → 0 < j → j < m → x ≢ (x + j) % m
apart m x j below some few = apart_by m x j below some few (cases_lt (x + j) m)

module _ (x : ℕ) (below : x < 2 ^ 64) where
  -- a number is not that of one of the 2^64 - 1 calls after it
  all_apart : (z j count : ℕ) → z ≡ (x + j) % 2 ^ 64 → j + count < 2 ^ 64 → All (λ y. x ≢ y) (numbers_after z count)
  all_apart z j zero is few = All-nil (λ y. x ≢ y)
  all_apart z j (suc count) is few =
      let next : next_call z ≡ (x + (j + 1)) % 2 ^ 64 = ap (λ (k : ℕ). (k + 1) % 2 ^ 64) is ∙ mod-add-mod (x + j) (2 ^ 64) 1 ∙ ap (λ (k : ℕ). k % 2 ^ 64) (omega arith) in
      All-cons (λ y. x ≢ y) (next_call z) (numbers_after (next_call z) count)
      (subst (λ (y : ℕ). x ≢ y) (sym next) (apart (2 ^ 64) x (j + 1) below (omega arith) (omega (arith, few))))
      (all_apart (next_call z) (j + 1) count next (omega (arith, few)))

-- no two of `count` calls in a row have one number
pub none_twice : (before count : ℕ) → count ≤ 2 ^ 64 → AllPairs (λ x y. x ≢ y) (numbers_after before count)
none_twice before zero few = λ i j d earlier there. absurd (omega (arith, there))
none_twice before (suc count) few =
    let x = next_call before in
    let below : x < 2 ^ 64 = mod-lt (before + 1) (omega arith) in
    let same : x ≡ (x + 0) % 2 ^ 64 = sym (mod-eq_of_lt (omega (arith, below)) ∙ omega arith) in
    AllPairs-cons (λ x y. x ≢ y) x (numbers_after x count) (all_apart x below x 0 count same (omega (arith, few))) (none_twice x count (omega (arith, few)))
