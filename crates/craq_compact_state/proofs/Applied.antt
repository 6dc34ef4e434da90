-- The state after entries are applied to it.
use Rattle.std.proofs.Common.{◌≡◌, ◌<◌, ◌≤◌, ℕ, zero, suc, ◌+◌, ◌-◌, List, [], ◌∷◌, length, get_or, take, drop, unwrap_or, refl, sym, ap, ◌∙◌, arith, drop-drop}
use Rattle.std.specs.Prelude.{Result, Ok, Err, IsOk, OnOk, true, false}
use Rattle.craq_names.specs.Maps.{at_number, put_number}
use Rattle.craq_commands.specs.declared.entry.Entry.{Entry}
use Rattle.craq_commands.specs.declared.entry.Write.{Write}
use Rattle.craq_commands.specs.declared.state.State.{State}
use Rattle.craq_commands.specs.Kept.{Window, keep}
use Rattle.craq_commands.specs.Objects.{Objects, set_object}
use Rattle.craq_commands.specs.SingleCopy.{after_entry, after_entries, kept_with, window_of, with_writes}
use Rattle.craq_log.specs.Suffixed.{Suffixed, IsFirstOf}
use Rattle.craq_compact_state.specs.Applied.{AreApplied}
use Rattle.craq_compact_state.specs.Placed.{state_at}

-- a fact that holds if a call succeeds, when it did
pub when_ok : {T E P : Type 0} (r : Result T E) → IsOk r → OnOk r P → P
when_ok (Ok x) h p = p
when_ok (Err e) h p = absurd (not_ok h)
  where
    not_ok : false ≡ true → ⊥
    not_ok h = cc

-- a state with an entry's writes and its reply
pub after_is : (m n : Objects) (kept more : List (ℕ × Window)) (e : Entry) → n ≡ with_writes m e.writes → more ≡ put_number kept e.client (keep (unwrap_or (at_number kept e.client) []) e.number e.reply)
    → state_at n more ≡ after_entry (state_at m kept) e
unfolding after_entry kept_with window_of
after_is m n kept more e a b = ap (λ (x : Objects). state_at x more) a ∙ ap (λ (k : List (ℕ × Window)). state_at (with_writes m e.writes) k) b

take_nothing : (n : ℕ) → take {A = Entry} n [] ≡ []
take_nothing zero = refl
take_nothing (suc n) = refl

-- entries in two parts
in_parts : (s : State) (es : List Entry) (n m : ℕ) → after_entries (after_entries s (take n es)) (take m (drop n es)) ≡ after_entries s (take (n + m) es)
in_parts s es zero m = let k : m ≡ 0 + m = omega arith in ap (λ (i : ℕ). after_entries s (take i es)) k
in_parts s [] (suc n) m = ap (after_entries s) (take_nothing m ∙ sym (take_nothing (suc n + m)))
in_parts s (e ∷ es) (suc n) m = let k : suc (n + m) ≡ suc n + m = omega arith in in_parts (after_entry s e) es n m ∙ ap (λ (i : ℕ). after_entries s (take i (e ∷ es))) k

-- the first entry is applied
pub one_applied : (s t : State) (old new : Suffixed) (e : Entry) → t ≡ after_entry s e → IsFirstOf e old new → AreApplied s old t new
one_applied s t old new e one first =
    let base = first.base in
    let k : 1 ≡ new.base - old.base = omega arith in
    record {
      state = one ∙ ap (λ (l : List Entry). after_entries s (take 1 l)) (sym first.entries) ∙ ap (λ (i : ℕ). after_entries s (take i old.entries)) k;
      entries = ap (λ (l : List Entry). drop 1 l) (sym first.entries) ∙ ap (λ (i : ℕ). drop i old.entries) k;
    }

-- the removed entry is the one that was examined
pub taken_is : (old new : Suffixed) (first entry : Entry) → take 1 old.entries ≡ first ∷ [] → IsFirstOf entry old new → entry ≡ first
taken_is old new first entry looked is = ap (λ (l : List Entry). get_or l 0 entry) (sym (ap (λ (l : List Entry). take 1 l) is.entries) ∙ looked)

-- more entries are applied
pub more_applied : (s t u : State) (old mid new : Suffixed) → old.base ≤ mid.base → mid.base ≤ new.base → AreApplied s old t mid → AreApplied t mid u new → AreApplied s old u new
more_applied s t u old mid new low high before after =
    let k : (mid.base - old.base) + (new.base - mid.base) ≡ new.base - old.base = omega arith in
    record {
      state = after.state ∙ ap (λ (l : List Entry). after_entries t (take (new.base - mid.base) l)) before.entries
          ∙ ap (λ (x : State). after_entries x (take (new.base - mid.base) (drop (mid.base - old.base) old.entries))) before.state
          ∙ in_parts s old.entries (mid.base - old.base) (new.base - mid.base) ∙ ap (λ (i : ℕ). after_entries s (take i old.entries)) k;
      entries = after.entries ∙ ap (λ (l : List Entry). drop (new.base - mid.base) l) before.entries
          ∙ drop-drop (new.base - mid.base) (mid.base - old.base) old.entries ∙ ap (λ (i : ℕ). drop i old.entries) k;
    }
