-- The reply to a client's number stays the same from the client's newest entry on.
use Rattle.std.proofs.Common.{◌≡◌, ◌≢◌, ℕ, zero, suc, ◌+◌, ◌-◌, ◌≤◌, ◌==◌, true, cond, List, [], ◌∷◌, ◌++◌, length, take, drop, Some, None, refl, ap, sym, subst, ◌∙◌, arith}
use Rattle.std.specs.List.{AllByRecursion}
use Rattle.std.proofs.lemmas.Bool.{cond_both, cond-true, eq-eqb}
use Rattle.std.proofs.Math.Seq.{drop-append-add}
use Rattle.std.proofs.lemmas.List.{take-append-drop}
use Rattle.craq_commands.specs.declared.command.Update.{Update}
use Rattle.craq_commands.specs.declared.entry.Entry.{Entry}
use Rattle.craq_commands.specs.declared.reply.Reply.{Reply}
use Rattle.craq_commands.specs.Kept.{keep, said_of}
use Rattle.craq_commands.specs.declared.state.State.{State}
use Rattle.craq_commands.specs.SingleCopy.{opening_state, window_of, is_new_to, kept_with, said, after_entry, after_entries}
use Rattle.craq_commands.proofs.Entries.{after_entries-append}
use Rattle.craq_model.specs.Past.{last_position}
use Rattle.craq_model.specs.Plain.{Plain, newest, position_of}
use Rattle.craq_laws.proofs.Copies.{after_entries-push, new_unsaid}
use Rattle.craq_laws.proofs.Histories.{kept_here, put_elsewhere}
use Rattle.craq_refinement.specs.Follows.{IsPlaced, IsHistory}
use Rattle.craq_updates.proofs.EachMove.{entry_for}
use Rattle.craq_strong_answers.proofs.Stands.{state_after}
use Rattle.craq_strong_answers.proofs.Windows.{said_kept}

kept_by_other : (s : State) (e : Entry) (client : ℕ) → e.client ≢ client → window_of (after_entry s e) client ≡ window_of s client
unfolding after_entry kept_with window_of
kept_by_other s e client ne =
    put_elsewhere s client e.client (keep (window_of s e.client) e.number e.reply) (λ h. ne (sym h))

-- entries of other clients
abbrev pub OfOthers : ℕ → List Entry → Type 0
OfOthers client es = AllByRecursion (λ (e : Entry). e.client ≢ client) es

pub kept_by_others : (s : State) (es : List Entry) (client : ℕ) → OfOthers client es → window_of (after_entries s es) client ≡ window_of s client
kept_by_others s [] client a = refl
kept_by_others s (e ∷ es) client a = kept_by_others (after_entry s e) es client a.1 ∙ kept_by_other s e client a.0

-- ---- the newest entry of a client

pub record IsNewest (client found base : ℕ) (es : List Entry) : Type 0 where
  pub from : found ≤ last_position client found es
  pub short : last_position client found es ≤ base + length es
  pub others : (k : ℕ) → last_position client found es ≤ base + k → OfOthers client (drop k es)

pub newest_position : (client found base : ℕ) (es : List Entry) → IsPlaced base es → found ≤ base → IsNewest client found base es
unfolding last_position
newest_position client found base [] p le = record { from = omega arith; short = omega (arith, le); others = λ k. none k }
  where
    none : (k : ℕ) → last_position client found [] ≤ base + k → OfOthers client (drop k [])
    none zero h = tt
    none (suc k) h = tt
newest_position client found base (e ∷ es) p le =
    let next : ℕ = cond (e.client == client) e.position found in
    let low : next ≤ suc base = cond_both (e.client == client) e.position found (λ (n : ℕ). n ≤ suc base) (λ h. omega (arith, p.0)) (λ h. omega (arith, le)) in
    let high : found ≤ next = cond_both (e.client == client) e.position found (λ (n : ℕ). found ≤ n) (λ h. omega (arith, p.0, le)) (λ h. omega arith) in
    let i : IsNewest client next (suc base) es = newest_position client next (suc base) es p.1 low in
    record {
      from = omega (arith, high, i.from);
      short = omega (arith, i.short);
      others = λ k. by_count i k;
    }
  where
    by_count : IsNewest client (cond (e.client == client) e.position found) (suc base) es → (k : ℕ) → last_position client found (e ∷ es) ≤ base + k → OfOthers client (drop k (e ∷ es))
    by_count i (suc k) h = i.others k (omega (arith, h))
    by_count i zero h =
        let mine : (e.client == client) ≡ true → ⊥ = λ t. let is : cond (e.client == client) e.position found ≡ e.position = cond-true (e.client == client) e.position found t in omega (arith, is, p.0, h, i.from) in
        (λ same. mine (eq-eqb e.client client same), i.others 0 (omega (arith, h)))

pub last_pushed : (client found : ℕ) (es : List Entry) (e : Entry) → e.client ≡ client → last_position client found (es ++ e ∷ []) ≡ e.position
unfolding last_position
last_pushed client found [] e h = cond-true (e.client == client) e.position found (eq-eqb e.client client h)
last_pushed client found (x ∷ es) e h = last_pushed client (cond (x.client == client) x.position found) es e h

-- the kept replies of a client after its newest entry, or any later one, are those after all
-- entries
pub kept_from : (q : Plain) (h : List Entry) (client d : ℕ) → IsHistory q.past.base q.past.base_state q.past.entries h → IsPlaced q.past.base q.past.entries → position_of q client ≤ d → d ≤ length h
    → (window_of (state_after d h) client ≡ window_of (after_entries opening_state h) client)
kept_from q h client d i p le short =
    let n : IsNewest client q.past.base q.past.base q.past.entries = newest_position client q.past.base q.past.base q.past.entries p (omega arith) in
    let k : ℕ = d - q.past.base in
    let base : q.past.base ≤ d = omega (arith, n.from, le) in
    let count : length i.front + k ≡ d = omega (arith, i.count, base) in
    let rest : drop d h ≡ drop k q.past.entries = ap (drop d) (sym i.whole) ∙ (ap (λ j. drop j (i.front ++ q.past.entries)) (sym count) ∙ drop-append-add i.front q.past.entries k) in
    let P : List Entry → Type 0 = λ l. OfOthers client l in
    let others : OfOthers client (drop d h) = subst P (sym rest) (n.others k (omega (arith, le, base))) in
    let split : after_entries opening_state h ≡ after_entries (state_after d h) (drop d h) = ap (after_entries opening_state) (sym (take-append-drop d h)) ∙ after_entries-append opening_state (take d h) (drop d h) in
    sym (ap (λ s. window_of s client) split ∙ kept_by_others (state_after d h) (drop d h) client others)

-- ---- an update that was requested

pub window_here : (s : State) (e : Entry) → window_of (after_entry s e) e.client ≡ keep (window_of s e.client) e.number e.reply
unfolding after_entry kept_with window_of
window_here s e = kept_here s e.client (keep (window_of s e.client) e.number e.reply)

said_here : (s : State) (e : Entry) → is_new_to s e.client e.number ≡ true → said (after_entry s e) e.client e.number ≡ Some e.reply
said_here s e new = ap (λ k. said_of k e.number) (window_here s e) ∙ said_kept (window_of s e.client) e.number e.reply new

-- the pending reply, and the position of the client's newest entry
pub record Replied (p q : Plain) (u : Update) (position : ℕ) (reply : Reply) : Type 0 where
  pub is_said : said (newest q) u.client u.number ≡ Some reply
  pub at : position_of q u.client ≡ position

pub replied_old : (p q : Plain) (u : Update) (reply : Reply) → q.past.base ≡ p.past.base → q.past.base_state ≡ p.past.base_state → q.past.entries ≡ p.past.entries → said (newest p) u.client u.number ≡ Some reply → Replied p q u (position_of p u.client) reply
unfolding newest
replied_old p q u reply b s e h = record {
  is_said = ap (λ (t : State). said t u.client u.number) (λ i. after_entries (s i) (e i)) ∙ h;
  at = λ i. last_position u.client (b i) (e i);
}

pub replied_new : (p q : Plain) (u : Update) → q.past.base ≡ p.past.base → q.past.base_state ≡ p.past.base_state → q.past.entries ≡ p.past.entries ++ entry_for p u ∷ [] → said (newest p) u.client u.number ≡ None → Replied p q u (entry_for p u).position (entry_for p u).reply
unfolding newest
replied_new p q u b s e unsaid =
    let x : Entry = entry_for p u in
    let state : newest q ≡ after_entry (newest p) x = (λ i. after_entries (s i) (e i)) ∙ after_entries-push p.past.base_state p.past.entries x in
    record {
      is_said = ap (λ (t : State). said t u.client u.number) state ∙ said_here (newest p) x ((new_unsaid (window_of (newest p) u.client) u.number).1 unsaid);
      at = (λ i. last_position u.client (b i) (e i)) ∙ last_pushed u.client p.past.base p.past.entries x refl;
    }
