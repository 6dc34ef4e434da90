-- The state of a node, in the world that stands for its chain.
use Rattle.std.proofs.Common.{◌≡◌, ◌⊎◌, ⊎_elim, ℕ, ◌+◌, ◌-◌, ◌≤◌, true, List, ◌++◌, length, take, drop, ap, sym, subst, ◌∙◌, arith, take-take, length-drop}
use Rattle.std.proofs.Math.Seq.{take-add, take-append-add, drop-append-add}
use Rattle.std.proofs.lemmas.List.{take-append-drop}
use Rattle.craq_commands.specs.declared.entry.Entry.{Entry}
use Rattle.craq_commands.specs.Objects.{object_of, version_of}
use Rattle.craq_commands.specs.declared.state.State.{State}
use Rattle.craq_commands.specs.SingleCopy.{opening_state, after_entries}
use Rattle.craq_commands.proofs.Entries.{after_entries-append}
use Rattle.craq_model.specs.Past.{values_after, newest_within}
use Rattle.craq_model.specs.Plain.{Plain, id_of, newest, clean, clean_object, entries_after, object_within}
use Rattle.craq_protocol.specs.Machine.{MachineState}
use Rattle.craq_protocol.specs.Promises.{IsPrefix, IsReached, IsSafe}
use Rattle.craq_protocol.proofs.Prefix.{prefix_take}
use Rattle.craq_protocol.proofs.Reached.{reached_safe}
use Rattle.craq_runs.specs.Seen.{Asked}
use Rattle.craq_refinement.specs.Follows.{seen_of, NodeFollows}
use Rattle.craq_updates.specs.ValidEntries.{AllValid}
use Rattle.craq_updates.proofs.Found.{IsNumbered}
use Rattle.craq_updates.proofs.Entries.{valid_closed}
use Rattle.craq_updates.proofs.Known.{newest_is}
use Rattle.craq_strong_answers.proofs.Stands.{state_after}
use Rattle.craq_strong_answers.proofs.Versions.{valid_rest, no_older_prefix, version_rises, version_tells}
use Rattle.craq_strong_answers.proofs.Within.{IsWithin, within, version_at}

-- ---- prefixes of one history

-- the version of an object after this number of entries of a history
abbrev pub version_after : List Entry → List ℕ → ℕ → ℕ
version_after h key count = version_of (state_after count h).objects key

shorter : (h : List Entry) (i j : ℕ) → i ≤ j → IsPrefix (take i h) (take j h)
shorter h i j le = let P : List Entry → Type 0 = λ l. IsPrefix l (take j h) in subst P (take-take i j h le) (prefix_take i (take j h))

taken_valid : (asked : List Asked) (h : List Entry) (j : ℕ) → AllValid asked opening_state h → AllValid asked opening_state (take j h)
taken_valid asked h j g = valid_closed asked opening_state (take j h) h (prefix_take j h) g

pub rises_between : (asked : List Asked) (h : List Entry) (key : List ℕ) (i j : ℕ) → IsNumbered asked → AllValid asked opening_state h → i ≤ j → version_after h key i ≤ version_after h key j
rises_between asked h key i j n g le =
    version_rises (state_after i h).objects (state_after j h).objects key (no_older_prefix asked (take i h) (take j h) key n (taken_valid asked h j g) (shorter h i j le))

tells_between : (asked : List Asked) (h : List Entry) (key : List ℕ) (i j : ℕ) → IsNumbered asked → AllValid asked opening_state h → i ≤ j → version_after h key i ≡ version_after h key j
    → object_of (state_after j h).objects key ≡ object_of (state_after i h).objects key
tells_between asked h key i j n g le e =
    version_tells (state_after i h).objects (state_after j h).objects key (no_older_prefix asked (take i h) (take j h) key n (taken_valid asked h j g) (shorter h i j le)) (omega (arith, e))

-- equal versions are equal objects
pub same_objects : (asked : List Asked) (h : List Entry) (key : List ℕ) (i j : ℕ) → IsNumbered asked → AllValid asked opening_state h → version_after h key i ≡ version_after h key j
    → object_of (state_after i h).objects key ≡ object_of (state_after j h).objects key
same_objects asked h key i j n g e =
    ⊎_elim (λ le. sym (tells_between asked h key i j n g le e)) (λ le. tells_between asked h key j i n g le (sym e)) (either i j)
  where
    either : (i j : ℕ) → (i ≤ j) ⊎ (j ≤ i)
    either i j = grind arith

-- ---- a node

-- the properties of a node with this history
pub record Holds (asked : List Asked) (w : MachineState Entry) (p : Plain) (h : List Entry) : Type 0 where
  pub numbered : IsNumbered asked
  pub valid_entry : AllValid asked opening_state h
  pub newest_is : newest p ≡ after_entries opening_state h
  pub clean_is : clean p ≡ state_after p.past.acknowledged h
  pub after_is : entries_after p p.past.acknowledged ≡ drop p.past.acknowledged h
  pub known : p.past.acknowledged ≤ length h
  pub committed : p.past.acknowledged ≤ length w.log
  pub same : take p.past.acknowledged h ≡ take p.past.acknowledged w.log

pub node_holds : (asked : List Asked) (w : MachineState Entry) (p : Plain) → IsReached w → IsNumbered asked → AllValid asked opening_state (w.history (id_of p)) → NodeFollows w (seen_of p) → Holds asked w p (w.history (id_of p))
unfolding clean entries_after
node_holds asked w p r n g f =
    let h : List Entry = w.history (id_of p) in
    let s : IsSafe w = reached_safe r in
    let front : List Entry = f.history.front in
    let k : ℕ = p.past.acknowledged - p.past.base in
    let count : length front + k ≡ p.past.acknowledged = omega (arith, f.history.count, f.based) in
    let parts : front ++ p.past.entries ≡ h = f.history.whole in
    let start : take p.past.acknowledged h ≡ front ++ take k p.past.entries = ap (take p.past.acknowledged) (sym parts) ∙ (ap (λ j. take j (front ++ p.past.entries)) (sym count) ∙ take-append-add front p.past.entries k) in
    let rest : drop p.past.acknowledged h ≡ drop k p.past.entries = ap (drop p.past.acknowledged) (sym parts) ∙ (ap (λ j. drop j (front ++ p.past.entries)) (sym count) ∙ drop-append-add front p.past.entries k) in
    let a : _ = s.acknowledged (id_of p) in
    let ack : w.acknowledged (id_of p) ≡ p.past.acknowledged = f.acknowledged in
    let T : ℕ → Type 0 = λ j. take j h ≡ take j w.log in
    record {
      numbered = n;
      valid_entry = g;
      newest_is = newest_is p f;
      clean_is = sym (ap (after_entries opening_state) start ∙ (after_entries-append opening_state front (take k p.past.entries) ∙ ap (λ s. after_entries s (take k p.past.entries)) f.history.after));
      after_is = sym rest;
      known = omega (arith, a.0, ack);
      committed = omega (arith, a.1, ack);
      same = subst T ack a.2;
    }

-- the version that a node returns within a bound
pub record GivenWithin (h : List Entry) (p : Plain) (key : List ℕ) (bound : ℕ) : Type 0 where
  pub count : ℕ
  pub short : count ≤ length h
  pub is : object_within p key bound ≡ object_of (state_after count h).objects key
  pub below : version_after h key count ≤ bound
  pub most : (k : ℕ) → p.past.acknowledged ≤ k → version_after h key k ≤ bound → version_after h key k ≤ version_after h key count

state_add : (h : List Entry) (i j : ℕ) → state_after (i + j) h ≡ after_entries (state_after i h) (take j (drop i h))
state_add h i j = ap (after_entries opening_state) (take-add i j h) ∙ after_entries-append opening_state (take i h) (take j (drop i h))

pub given_within : (asked : List Asked) (w : MachineState Entry) (p : Plain) (h : List Entry) (key : List ℕ) (bound : ℕ) → Holds asked w p h → (clean_object p key).0 ≤ bound → GivenWithin h p key bound
unfolding clean entries_after
given_within asked w p h key bound o le =
    let a : ℕ = p.past.acknowledged in
    let s : State = state_after a h in
    let es : List Entry = drop a h in
    let split : take a h ++ es ≡ h = take-append-drop a h in
    let P : List Entry → Type 0 = λ l. AllValid asked opening_state l in
    let g : AllValid asked s es = valid_rest asked opening_state (take a h) es (subst P (sym split) o.valid_entry) in
    let clean_version : (clean_object p key).0 ≡ version_of s.objects key = ap (λ (s : State). version_of s.objects key) o.clean_is in
    let i : IsWithin s es key bound = within asked s es key bound o.numbered g (omega (arith, clean_version, le)) in
    let at : (j : ℕ) → version_after h key (a + j) ≡ version_at s es key j = λ j. ap (λ (s : State). version_of s.objects key) (state_add h a j) in
    record {
      count = a + i.count;
      short = omega (arith, i.short, length-drop a h, o.known);
      is = ap (λ (s : State). newest_within bound (object_of s.objects key) (values_after (entries_after p p.past.acknowledged) key)) o.clean_is
          ∙ (ap (λ l. newest_within bound (object_of s.objects key) (values_after l key)) o.after_is
          ∙ (i.is ∙ sym (ap (λ (s : State). object_of s.objects key) (state_add h a i.count))));
      below = omega (arith, at i.count, i.below);
      most = λ k le h'.
          let j : ℕ = k - a in
          let same : a + j ≡ k = omega (arith, le) in
          let there : version_after h key k ≡ version_at s es key j = ap (version_after h key) (sym same) ∙ at j in
          omega (arith, there, at i.count, i.most j (omega (arith, there, h')));
    }

-- a running node that is ready holds the log
pub holds_log : (w : MachineState Entry) (id : ℕ) → IsReached w → w.ready id ≡ true → w.running id ≡ true → IsPrefix w.log (w.history id)
holds_log w id r ready running = let s : IsSafe w = reached_safe r in s.committed id ready (s.alive id running)
