-- The version that a reply reports as written is the object's version after the command's writes.
use Rattle.std.proofs.Common.{◌≡◌, ◌≢◌, ◌⊎◌, inl, inr, ⊎_elim, ℕ, ◌+◌, ◌-◌, ◌≤◌, ◌==◌, nat_lt, Bool, true, false, cond, List, [], ◌∷◌, ◌++◌, length, drop, find, unwrap_or, Option, Some, None, refl, ap, sym, subst, ◌∙◌, arith}
use Rattle.std.specs.List.{AllByRecursion}
use Rattle.std.proofs.lemmas.Bool.{cond_both, cond-true, cond-false, eq-eqb, eqb-true, and_from, and_parts, both_ways, false_from_ne_true, cases_eq}
use Rattle.std.proofs.lemmas.Bool.Decides.{nat_tests}
use Rattle.std.specs.Int.{to_be_bytes, w64}
use Rattle.std.specs.Ordering.{nat_cmp, eq_by_cmp}
use Rattle.std.specs.declared.cmp.Ordering.TheVariants.{Less, Equal, Greater}
use Rattle.std.specs.Cmp.{ranked}
use Rattle.std.specs.FinMap.Entries.{by_order}
use Rattle.craq_names.specs.Maps.{at_number, put_number}
use Rattle.craq_names.specs.Limits.{greatest, value_limit}
use Rattle.craq_names.specs.declared.name.ObjectId.{ObjectId}
use Rattle.craq_commands.specs.declared.command.Command.{Command}
use Rattle.craq_commands.specs.declared.command.Command.TheVariants.{Put, TestAndSet, Append, Prepend, Increment, Decrement, Mini}
use Rattle.craq_commands.specs.declared.command.Update.{Update}
use Rattle.craq_commands.specs.declared.entry.Entry.{Entry}
use Rattle.craq_commands.specs.declared.reply.Reply.{Reply}
use Rattle.craq_commands.specs.declared.reply.Reply.TheVariants.{Written, Mismatch, TooLong, Overflow, Underflow, Stale}
use Rattle.craq_commands.specs.Objects.{Objects, object_of, version_of, value_of, set_object, all_written}
use Rattle.craq_commands.specs.Evaluation.{Outcome, writes_one, writes_none, writes_number, tested, joined, number_at, increased, decreased, eval}
use Rattle.craq_commands.specs.Kept.{Kept, Window, largest, is_stale, keep, said_of}
use Rattle.craq_commands.specs.declared.state.State.{State}
use Rattle.craq_commands.specs.SingleCopy.{window_of, is_new_to, apply, after_entry, after_entries}
use Rattle.craq_runs.specs.Seen.{Asked}
use Rattle.craq_runs.specs.Valid.{same_request, single_object}
use Rattle.craq_laws.proofs.Writes.{found_here}
use Rattle.craq_laws.proofs.Histories.{HasRisingWindows}
use Rattle.craq_updates.specs.ValidEntries.{IsValidEntry, AllValid}
use Rattle.craq_updates.proofs.Found.{IsNumbered, find_all, find_true}
use Rattle.craq_updates.proofs.Updates.{updates_of, updates_cons, valid_rises, all_new, other_request}
use Rattle.craq_strong_answers.proofs.Versions.{no_older_entries, version_rises}
use Rattle.craq_strong_answers.proofs.Kept.{window_here, kept_by_others}

set_version : (m : Objects) (key : List ℕ) (version : ℕ) (value : List ℕ) → version_of (set_object m key version value) key ≡ version
unfolding object_of set_object
set_version m key version value = ap (λ (o : Option (ℕ × List ℕ)). (unwrap_or o (0, [])).0) (found_here m key (version, value))

-- the version written to the key is in the reply
abbrev TellsVersion : Objects → List ℕ → Outcome → Type 0
TellsVersion m key o = (version : ℕ) → o.1 ≡ Written version → version_of (all_written m o.0) key ≡ version

written_same : (i j : ℕ) → Written i ≡ Written j → i ≡ j
written_same i j h = cc

one : (m : Objects) (key value : List ℕ) → TellsVersion m key (writes_one key (version_of m key) value)
one m key value version h = set_version m key (version_of m key + 1) value ∙ written_same (version_of m key + 1) version h

if_tells : (m : Objects) (key : List ℕ) (b : Bool) (o q : Outcome) → TellsVersion m key o → TellsVersion m key q → TellsVersion m key (cond b o q)
if_tells m key b o q x y = cond_both b o q (λ (o : Outcome). TellsVersion m key o) (λ e. x) (λ e. y)

increases : (m : Objects) (key : List ℕ) (by : ℕ) (n : Option ℕ) → TellsVersion m key (increased key by (version_of m key) n)
unfolding increased
increases m key by None = λ version h. absurd (cc)
increases m key by (Some n) = if_tells m key (nat_lt greatest (n + by)) (writes_none Overflow) (writes_number key (version_of m key) (n + by)) (λ version h. absurd (cc)) (one m key (to_be_bytes w64 (n + by)))

decreases : (m : Objects) (key : List ℕ) (by : ℕ) (n : Option ℕ) → TellsVersion m key (decreased key by (version_of m key) n)
unfolding decreased
decreases m key by None = λ version h. absurd (cc)
decreases m key by (Some n) = if_tells m key (nat_lt n by) (writes_none Underflow) (writes_number key (version_of m key) (n - by)) (λ version h. absurd (cc)) (one m key (to_be_bytes w64 (n - by)))

tests : (m : Objects) (key : List ℕ) (expect : ℕ) (value : List ℕ) → TellsVersion m key (tested key expect value (version_of m key))
unfolding tested
tests m key expect value = if_tells m key (version_of m key == expect) (writes_one key (version_of m key) value) (writes_none (Mismatch (version_of m key))) (one m key value) (λ version h. absurd (cc))

joins : (m : Objects) (key value : List ℕ) → TellsVersion m key (joined key value (version_of m key))
unfolding joined
joins m key value = if_tells m key (nat_lt value_limit (length value)) (writes_none TooLong) (writes_one key (version_of m key) value) (λ version h. absurd (cc)) (one m key value)

object_same : (o q : ObjectId) → Some o ≡ Some q → o ≡ q
object_same o q h = cc

tells : (m : Objects) (command : Command) (o : ObjectId) → single_object command ≡ Some o → TellsVersion m o.key (eval m command)
tells m (Put object value) o h = let P : ObjectId → Type 0 = λ q. TellsVersion m q.key (eval m (Put object value)) in subst P (object_same object o h) (one m object.key value)
tells m (TestAndSet object expect value) o h = let P : ObjectId → Type 0 = λ q. TellsVersion m q.key (eval m (TestAndSet object expect value)) in subst P (object_same object o h) (tests m object.key expect value)
tells m (Append object value) o h = let P : ObjectId → Type 0 = λ q. TellsVersion m q.key (eval m (Append object value)) in subst P (object_same object o h) (joins m object.key (value_of m object.key ++ value))
tells m (Prepend object value) o h = let P : ObjectId → Type 0 = λ q. TellsVersion m q.key (eval m (Prepend object value)) in subst P (object_same object o h) (joins m object.key (value ++ value_of m object.key))
tells m (Increment object by) o h = let P : ObjectId → Type 0 = λ q. TellsVersion m q.key (eval m (Increment object by)) in subst P (object_same object o h) (increases m object.key by (number_at m object.key))
tells m (Decrement object by) o h = let P : ObjectId → Type 0 = λ q. TellsVersion m q.key (eval m (Decrement object by)) in subst P (object_same object o h) (decreases m object.key by (number_at m object.key))
tells m (Mini t) o h = absurd (cc)

-- ---- the update of a kept reply

-- the reply to a request is that of the one update with its client and number
pub record IsReplyOf (asked : List Asked) (s : State) (es : List Entry) (u : Update) (reply : Reply) : Type 0 where
  pub update : Update
  pub found : find (same_request u) (updates_of asked es) ≡ Some update
  pub low : (o : ObjectId) (version : ℕ) → single_object update.command ≡ Some o → reply ≡ Written version → version ≤ version_of (after_entries s es).objects o.key

applied_objects : (s : State) (e : Entry) (asked : List Asked) → (g : IsValidEntry asked s e) → (after_entry s e).objects ≡ all_written s.objects (eval s.objects g.update.command).0
unfolding apply
applied_objects s e asked g = ap (λ (t : State). t.objects) g.applied ∙ rw g.new refl

-- the window has this number with this reply
abbrev pub Has : Kept → Window → Type 0
Has x [] = ⊥
Has x (k ∷ ks) = (k ≡ x) ⊎ Has x ks

-- each reply in a window with one more was there before, or is the new one
has_put : (x : Kept) (w : Window) (m : ℕ) (r : Reply) → Has x (put_number w m r) → Has x w ⊎ ((m, r) ≡ x)
has_put x [] m r = elim [ inl e ↦ inr e | inr h ↦ absurd h ]
has_put x (k ∷ ks) m r =
    elim (nat_cmp m k.0) as (λ o. o ≡ nat_cmp m k.0 → Has x (by_order o ((m, r) ∷ k ∷ ks) ((k.0, r) ∷ ks) (k ∷ put_number ks m r)) → Has x (k ∷ ks) ⊎ ((m, r) ≡ x)) [
      | Less ↦ λ e. elim [ inl h ↦ inr h | inr h ↦ inl h ]
      | Equal ↦ λ e. elim [ inl h ↦ inr ((λ i. (ranked m k.0 Equal e i, r)) ∙ h) | inr h ↦ inl (inr h) ]
      | Greater ↦ λ e. elim [ inl h ↦ inl (inl h) | inr h ↦ ⊎_elim (λ a. inl (inr a)) (λ b. inr b) (has_put x ks m r h) ]
    ] refl

has_rest : (x : Kept) (w : Window) → Has x (drop 1 w) → Has x w
has_rest x [] h = absurd h
has_rest x (k ∷ ks) h = inr h

has_kept : (x : Kept) (w : Window) (m : ℕ) (r : Reply) → Has x (keep w m r) → Has x w ⊎ ((m, r) ≡ x)
unfolding keep
has_kept x w m r h =
    let p : Window = put_number w m r in
    cond_both (nat_lt 8 (length p)) (drop 1 p) p (λ (v : Window). Has x v → Has x w ⊎ ((m, r) ≡ x)) (λ e h. has_put x w m r (has_rest x p h)) (λ e h. has_put x w m r h) h

has_found : (w : Window) (n : ℕ) (r : Reply) → at_number w n ≡ Some r → Has (n, r) w
has_found [] n r h = absurd (cc)
has_found (k ∷ ks) n r h =
    cond_both (eq_by_cmp nat_cmp n k.0) (Some k.1) (at_number ks n) (λ (o : Option Reply). o ≡ Some r → Has (n, r) (k ∷ ks))
    (λ e i. let a : k.0 ≡ n = same_number k.0 n e in let b : k.1 ≡ r = cc in inl (λ j. (a j, b j)))
    (λ e i. inr (has_found ks n r i))
    h
  where
    same_number : (x y : ℕ) → eq_by_cmp nat_cmp y x ≡ true → x ≡ y
    same_number x y e = grind (arith, nat_tests, e)

pub reply_of : (asked : List Asked) (s : State) (es : List Entry) (u : Update) (reply : Reply) → HasRisingWindows s → IsNumbered asked → AllValid asked s es → Has (u.number, reply) (window_of (after_entries s es) u.client)
    → Has (u.number, reply) (window_of s u.client) ⊎ IsReplyOf asked s es u reply
reply_of asked s [] u reply rises n g h = inl h
reply_of asked s (e ∷ es) u reply rises n g h =
    let t : State = after_entry s e in
    let gu : Update = g.0.update in
    let x : Kept = (u.number, reply) in
    let cons : updates_of asked (e ∷ es) ≡ gu ∷ updates_of asked es = updates_cons asked s e es n g.0 in
    let rises_on : HasRisingWindows t = valid_rises asked s e rises g.0 in
    let by_entry : u.client ≡ e.client → (e.number, e.reply) ≡ x → IsReplyOf asked s (e ∷ es) u reply = λ mine pair.
    let same : (e.number ≡ u.number) × (e.reply ≡ reply) = (ap (λ (p : Kept). p.0) pair, ap (λ (p : Kept). p.1) pair) in
    let client : (u.client == gu.client) ≡ true = eq-eqb u.client gu.client (mine ∙ g.0.by.client) in
    let number : (u.number == gu.number) ≡ true = eq-eqb u.number gu.number (sym same.0 ∙ g.0.by.number) in
    let match : same_request u gu ≡ true = and_from (u.client == gu.client) (u.number == gu.number) client number in
    record {
      update = gu;
      found = ap (find (same_request u)) cons ∙ cond-true (same_request u gu) (Some gu) (find (same_request u) (updates_of asked es)) match;
      low = λ o version single w.
          let wrote : (eval s.objects gu.command).1 ≡ Written version = sym g.0.reply ∙ (same.1 ∙ w) in
          let here : version_of (all_written s.objects (eval s.objects gu.command).0) o.key ≡ version = tells s.objects gu.command o single version wrote in
          let there : version_of t.objects o.key ≡ version = ap (λ m. version_of m o.key) (applied_objects s e asked g.0) ∙ here in
          omega (arith, there, version_rises t.objects (after_entries t es).objects o.key (no_older_entries asked t es o.key n g.1));
    }
    in
    let P : ℕ → Type 0 = λ c. Has x (window_of t c) in
    let Q : ℕ → Type 0 = λ c. Has x (window_of s c) in
    let W : Window → Type 0 = λ w. Has x w in
    ⊎_elim
    (λ (old : P u.client).
    ⊎_elim
    (λ (mine : u.client ≡ e.client).
    ⊎_elim
    (λ (before : Q e.client). inl (subst Q (sym mine) before))
    (λ (pair : (e.number, e.reply) ≡ x). inr (by_entry mine pair))
    (has_kept x (window_of s e.client) e.number e.reply (subst W (window_here s e) (subst P mine old))))
    (λ (other : u.client ≢ e.client). inl (subst W (kept_by_others s (e ∷ []) u.client (λ y. other (sym y), tt)) old))
    (cases_eq u.client e.client))
    (λ (r : IsReplyOf asked t es u reply).
    let R : State → Type 0 = λ z. AllByRecursion (λ (x : Update). is_new_to z x.client x.number ≡ true) (updates_of asked es) in
    let fresh : R (apply s gu) = subst R g.0.applied (all_new asked t es rises_on n g.1) in
    let new : is_new_to (apply s gu) r.update.client r.update.number ≡ true = find_all (λ (x : Update). is_new_to (apply s gu) x.client x.number ≡ true) (same_request u) (updates_of asked es) r.update fresh r.found in
    let miss : same_request u gu ≡ false = differs u gu r.update s (find_true (same_request u) (updates_of asked es) r.update r.found) new in
    inr (record {
      update = r.update;
      found = ap (find (same_request u)) cons ∙ (cond-false (same_request u gu) (Some gu) (find (same_request u) (updates_of asked es)) miss ∙ r.found);
      low = r.low;
    }))
    (reply_of asked t es u reply rises_on n g.1 h)
  where
    differs : (u g x : Update) (s : State) → same_request u x ≡ true → is_new_to (apply s g) x.client x.number ≡ true → same_request u g ≡ false
    differs u g x s hit new =
        false_from_ne_true (same_request u g) (λ e.
        let a : ((u.client == g.client) ≡ true) × ((u.number == g.number) ≡ true) = and_parts (u.client == g.client) (u.number == g.number) e in
        let b : ((u.client == x.client) ≡ true) × ((u.number == x.number) ≡ true) = and_parts (u.client == x.client) (u.number == x.number) hit in
        let same : same_request g x ≡ true = and_from (g.client == x.client) (g.number == x.number)
        (eq-eqb g.client x.client (sym (eqb-true u.client g.client a.0) ∙ eqb-true u.client x.client b.0))
        (eq-eqb g.number x.number (sym (eqb-true u.number g.number a.1) ∙ eqb-true u.number x.number b.1)) in
        both_ways (same_request g x) (other_request s g x new) same)

-- a reply about a write is kept
pub said_kept : (w : Window) (number version : ℕ) → said_of w number ≡ Some (Written version) → Has (number, Written version) w
unfolding said_of
said_kept w number version h =
    cond_both (is_stale w number) (Some (Stale (largest w))) (at_number w number) (λ (o : Option Reply). o ≡ Some (Written version) → Has (number, Written version) w)
    (λ e i. absurd (cc))
    (λ e i. has_found w number (Written version) i)
    h
