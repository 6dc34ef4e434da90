-- The permits of calls: an entry uses each up at most once.
use Rattle.std.proofs.Common.{◌≡◌, ◌≤◌, ℕ, Bool, true, false, true≢false, if◌then◌else◌, List, [], ◌∷◌, ◌++◌, length, Option, Some, None, IfSome, refl, sym, ap, subst, ◌∙◌, inl, inr, arith}
use Rattle.std.specs.Prelude.{Contains}
use Rattle.std.specs.declared.snapshot.Snapshot.{Snapshot}
use Rattle.std.proofs.lemmas.List.Elements.{filter-append}
use Rattle.craq_names.specs.declared.name.NodeName.{NodeName}
use Rattle.craq_model.specs.declared.ask.Event.{Event}
use Rattle.craq_model.specs.declared.step.Step.{Step}
use Rattle.craq_causality.proofs.Orders.{IsIn, from_contains}
use Rattle.craq_ghost_history.specs.declared.author.Permit.{Permit}
use Rattle.craq_ghost_history.specs.Authors.{is_use, uses}
use Rattle.craq_ghost_history.specs.Histories.{IsUnused}
use Rattle.craq_ghost_history.proofs.Authors.{permit_eq, permit_is, uses_other}
use Rattle.craq_store_history.specs.declared.entry.CallId.{CallId}
use Rattle.craq_store_history.specs.declared.entry.HistoryEntry.{HistoryEntry}
use Rattle.craq_store_history.specs.declared.entry.HistoryEntry.TheVariants.{NodeStep, CallTakenBack}
use Rattle.craq_store_history.specs.Chains.{IsHistory}
use Rattle.craq_store_history.specs.Entries.{permit_for, permit_of}

use_is : (o : Option Permit) (p : Permit) → is_use o p ≡ true → o ≡ Some p
use_is None p u = absurd (true≢false (sym u))
use_is (Some q) p u = ap Some (permit_is q p u)

-- an entry whose permit is unused keeps that each is used once
pub once_more : (log : List HistoryEntry) (e : HistoryEntry) → ((p : Permit) → length (uses permit_of p log) ≤ 1) → IsUnused permit_of log e → (p : Permit) → length (uses permit_of p (log ++ e ∷ [])) ≤ 1
once_more log e h free p = by_use (is_use (permit_of e) p) refl
  where
    by_use : (b : Bool) → is_use (permit_of e) p ≡ b → length (uses permit_of p (log ++ e ∷ [])) ≤ 1
    by_use false not = rw (uses_other permit_of p log e not) (h p)
    by_use true is =
        let none : uses permit_of p log ≡ [] = subst (λ (o : Option Permit). IfSome o (λ q. uses permit_of q log ≡ [])) (use_is (permit_of e) p is) free in
        let one : uses permit_of p (e ∷ []) ≡ e ∷ [] = rw is refl in
        let all : uses permit_of p (log ++ e ∷ []) ≡ e ∷ [] = filter-append (λ x. is_use (permit_of x) p) log (e ∷ []) ∙ rw (none, one) refl in
        rw all (omega arith)

-- ---- the one use of a permit

here : (b : Bool) (y x : HistoryEntry) (rest : List HistoryEntry) → b ≡ true → y ≡ x → IsIn (if b then y ∷ rest else rest) x
here true y x rest t e = inl e
here false y x rest t e = absurd (true≢false (sym t))

there : (b : Bool) (y x : HistoryEntry) (rest : List HistoryEntry) → IsIn rest x → IsIn (if b then y ∷ rest else rest) x
there true y x rest i = inr i
there false y x rest i = i

in_uses : (p : Permit) (log : List HistoryEntry) (x : HistoryEntry) → IsIn log x → is_use (permit_of x) p ≡ true → IsIn (uses permit_of p log) x
in_uses p [] x i u = absurd i
in_uses p (y ∷ ys) x (inl e) u = here (is_use (permit_of y) p) y x (uses permit_of p ys) (subst (λ (z : HistoryEntry). is_use (permit_of z) p ≡ true) (sym e) u) e
in_uses p (y ∷ ys) x (inr i) u = there (is_use (permit_of y) p) y x (uses permit_of p ys) (in_uses p ys x i u)

alone : (l : List HistoryEntry) (x y : HistoryEntry) → length l ≤ 1 → IsIn l x → IsIn l y → x ≡ y
alone [] x y few i j = absurd i
alone (z ∷ []) x y few (inl e) (inl f) = sym e ∙ f
alone (z ∷ []) x y few (inl e) (inr j) = absurd j
alone (z ∷ []) x y few (inr i) j = absurd i
alone (z ∷ w ∷ l) x y few i j = absurd (omega (arith, few))

-- two entries that use one permit are one
one_use : (log : List HistoryEntry) (call : CallId) (x y : HistoryEntry) → IsHistory log → permit_of x ≡ Some (permit_for call) → permit_of y ≡ Some (permit_for call) → Contains log x → Contains log y → x ≡ y
one_use log call x y h xs ys i j =
    let p : Permit = permit_for call in
    let used = λ (z : HistoryEntry) (is : permit_of z ≡ Some p). subst (λ (o : Option Permit). is_use o p ≡ true) (sym is) (permit_eq p p refl) in
    alone (uses permit_of p log) x y (h.once p) (in_uses p log x (from_contains log x i) (used x xs)) (in_uses p log y (from_contains log y j) (used y ys))

pub accepted_once : (log : List HistoryEntry) (name at : NodeName) (stamp its_stamp : ℕ) (event its_event : Snapshot Event) (pass its_pass : ℕ) (step its_step : Snapshot Step) (call : CallId) → IsHistory log
    → Contains log (NodeStep name stamp event pass step (Some call)) → Contains log (NodeStep at its_stamp its_event its_pass its_step (Some call)) → (name ≡ at) × (stamp ≡ its_stamp)
accepted_once log name at stamp its_stamp event its_event pass its_pass step its_step call h i j =
    let same : NodeStep name stamp event pass step (Some call) ≡ NodeStep at its_stamp its_event its_pass its_step (Some call) =
    one_use log call (NodeStep name stamp event pass step (Some call)) (NodeStep at its_stamp its_event its_pass its_step (Some call)) h refl refl i j in
    (cc, cc)

pub withdrawn_never : (log : List HistoryEntry) (name : NodeName) (stamp : ℕ) (event : Snapshot Event) (pass : ℕ) (step : Snapshot Step) (call : CallId) → IsHistory log
    → Contains log (CallTakenBack call) → ¬ (Contains log (NodeStep name stamp event pass step (Some call)))
withdrawn_never log name stamp event pass step call h i j =
    let same : CallTakenBack call ≡ NodeStep name stamp event pass step (Some call) = one_use log call (CallTakenBack call) (NodeStep name stamp event pass step (Some call)) h refl refl i j in cc
